use Rattle.std.proofs.Common.{◌≡◌, take, flat_map}
use Rattle.hd_plan.specs.PlanText.{step_line}
use Rattle.hd_plan.proofs.write.plan_text.Given as goal

abbrev pub invariant-loop-step : goal.invariant-loop-step
invariant-loop-step l = l.text.items ≡ flat_map step_line (take l.step-index l.steps)
