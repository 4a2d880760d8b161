use Rattle.std.proofs.Common.{◌≡◌, ◌++◌, take, flat_map}
use Rattle.hd_plan.specs.PlanText.{arg_text}
use Rattle.hd_plan.proofs.write.push_args.Given as goal

abbrev pub invariant-loop-arg : goal.invariant-loop-arg
invariant-loop-arg l = l.text.items ≡ l.initial.text.items ++ flat_map arg_text (take l.arg-index l.args)
