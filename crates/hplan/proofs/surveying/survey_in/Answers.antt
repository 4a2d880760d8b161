use Rattle.std.proofs.Common.{sym, ◌∙◌, ap, subst}
use Rattle.hplan.specs.Fault.{journal_in}
use Rattle.hplan.specs.Certifying.{ShowsNothing, OfContent}
use Rattle.hplan.proofs.Certificates.{entries_refused}
use Rattle.hplan.proofs.Surveys.{found_survey}
use Rattle.hplan.proofs.surveying.survey_in.Goals as goal

pub returns-in-Err-clause-refusal : goal.returns-in-Err-clause-refusal
returns-in-Err-clause-refusal c =
    subst (ShowsNothing c.args.task.now c.args.digest.now c.args.content.now) (sym (c.journal_in.ensures ∙ ap journal_in c.from.ensures))
    (OfContent c.in-Err.error c.in-Err.ensures.refused)

pub returns-in-Ok-survey-clause-tells : goal.returns-in-Ok-survey-clause-tells
returns-in-Ok-survey-clause-tells c =
    found_survey c.args.task.now c.args.digest.now c.args.content.now c.in-Ok.found _ _ c.in-Ok-survey.survey c.in-Ok.ensures.found
    c.as_slice.ensures c.entries_of-entries.ensures.entries c.in-Ok-survey.ensures.tells

pub returns-in-Err-survey-clause-refusal : goal.returns-in-Err-survey-clause-refusal
returns-in-Err-survey-clause-refusal c =
    subst (ShowsNothing c.args.task.now c.args.digest.now c.args.content.now) (sym c.certify_in.ensures)
    (entries_refused c.args.task.now c.args.digest.now c.args.content.now c.in-Ok.found _ _ _ c.in-Err-survey.error c.in-Ok.ensures.found
    c.as_slice.ensures c.entries_of-entries.ensures.entries c.entries_of-entries.ensures.most c.in-Err-survey.ensures.refused)
