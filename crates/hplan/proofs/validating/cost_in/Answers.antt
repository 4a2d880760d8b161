use Rattle.std.proofs.Common.{subst}
use Rattle.hd_plan.specs.Telling.{Tells}
use Rattle.hplan.specs.Verdict.{Invalid}
use Rattle.hplan.proofs.validating.cost_in.Goals as goal

pub returns-in-Err-cost-clause-refusal : goal.returns-in-Err-cost-clause-refusal
returns-in-Err-cost-clause-refusal c =
    rw c.judged_in.ensures
    (Invalid c.in-Ok.steps c.in-Err-cost.error c.in-Ok.ensures.answer
    (subst (λ s. Tells c.args.checked.now s c.in-Err-cost.error) c.as_slice.ensures c.in-Err-cost.ensures.refusal))
