use Rattle.std.proofs.Common.{subst}
use Rattle.hd_plan.specs.Output.{AppendsShort}
use Rattle.hplan.proofs.Explaining.{verdict_fails}
use Rattle.hplan.proofs.validating.validate.Goals as goal

pub returns-in-Err-clause-refusal : goal.returns-in-Err-clause-refusal
returns-in-Err-clause-refusal g c =
    verdict_fails c.args.domain.now c.args.problem.now c.args.plan.now _ _ _ _ _ _
    (record { cost = c.in_ok-cost.cost; valid = c.in_ok-cost.ensures.valid; is = c.in_ok-text.ensures })
    (subst (AppendsShort _ _) c.deref.ensures.value c.in-Err.ensures.short) c.in-Err.ensures.fault
