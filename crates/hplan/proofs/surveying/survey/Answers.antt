use Rattle.std.proofs.Common.{subst}
use Rattle.hd_plan.specs.Output.{AppendsShort}
use Rattle.hplan.proofs.Surveys.{survey_fails}
use Rattle.hplan.proofs.surveying.survey.Goals as goal

pub returns-in-Err-clause-refusal : goal.returns-in-Err-clause-refusal
returns-in-Err-clause-refusal g c =
    survey_fails c.args.domain.now c.args.problem.now (g.P.Places.file_of c.args.places.now c.args.name.now) _ _ _ _ _ _ c.in_ok-text.ensures.told
    (subst (AppendsShort _ _) c.deref.ensures.value c.in-Err.ensures.short) c.in-Err.ensures.fault
