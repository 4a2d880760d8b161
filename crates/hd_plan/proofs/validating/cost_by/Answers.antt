use Rattle.std.proofs.Common.{◌∙◌, subst}
use Rattle.std.specs.Prelude.{IfErr}
use Rattle.hd_judge.specs.Fault.{StopsBy}
use Rattle.hd_plan.specs.Plans.{IsFirstFaultBy}
use Rattle.hd_plan.proofs.validating.cost_by.Goals as goal

pub returns-clause-tells : goal.returns-clause-tells
returns-clause-tells c =
    subst (λ t. IfErr c.cost_in-cost.result (StopsBy (IsFirstFaultBy t c.args.steps.now))) (c.in_ok-lookups.ensures ∙ c.task.ensures.task) c.cost_in-cost.ensures.tells
