use Rattle.hplan.specs.Verdict.{InTexts, InPlan}
use Rattle.hplan.proofs.Writing.{untouched}
use Rattle.hplan.proofs.validating.cost_of_texts.Goals as goal

pub returns-in-Err-cost-clause-refusal : goal.returns-in-Err-cost-clause-refusal
returns-in-Err-cost-clause-refusal c =
    λ bytes noted. InPlan (untouched bytes noted) c.in-Ok.checked c.in-Err-cost.fault c.in-Ok.ensures.found c.in-Err-cost.ensures.refusal

pub returns-in-Err-clause-refusal : goal.returns-in-Err-clause-refusal
returns-in-Err-clause-refusal c =
    λ bytes noted. rw c.from.ensures (InTexts (untouched bytes noted) c.in-Err.fault c.in-Err.ensures.refusal)
