use Rattle.std.proofs.Common.{◌≡◌, ◌++◌, length, map, string_bytes}
use Rattle.hplan.specs.Surveying.{plan_lines}
use Rattle.hplan.proofs.survey_text.push_plan.Given as goal

-- the lines so far, and those that are left
abbrev pub invariant-loop-rest : goal.invariant-loop-rest
invariant-loop-rest l = record {
  lines : string_bytes l.text ++ plan_lines l.task (map (λ a. a.0) l.rest) ≡ string_bytes l.fn.text ++ plan_lines l.task l.plan;
}

abbrev pub decreases-loop-rest : goal.decreases-loop-rest
decreases-loop-rest l = length l.rest
