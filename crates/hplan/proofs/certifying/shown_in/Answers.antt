use Rattle.std.proofs.Common.{sym, ◌∙◌, ap, subst}
use Rattle.hplan.specs.Fault.{journal_in}
use Rattle.hplan.specs.Certifying.{ShowsNothing, OfContent}
use Rattle.hplan.proofs.Certificates.{shown_goes, entries_refused}
use Rattle.hplan.proofs.certifying.shown_in.Goals as goal

pub returns-in-Err-clause-refusal : goal.returns-in-Err-clause-refusal
returns-in-Err-clause-refusal g c =
    subst (ShowsNothing c.args.task.now c.args.digest.now c.args.content.now) (sym (c.journal_in.ensures ∙ ap journal_in c.from.ensures))
    (OfContent c.in-Err.error c.in-Err.ensures.refused)

pub returns-in-Ok-shown-clause-can_be_told : goal.returns-in-Ok-shown-clause-can_be_told
returns-in-Ok-shown-clause-can_be_told g c = shown_goes c.args.task.now _ c.in-Ok-shown.shown c.in-Ok-shown.ensures.shows

pub returns-in-Err-shown-clause-refusal : goal.returns-in-Err-shown-clause-refusal
returns-in-Err-shown-clause-refusal g c =
    subst (ShowsNothing c.args.task.now c.args.digest.now c.args.content.now) (sym c.certify_in.ensures)
    (entries_refused c.args.task.now c.args.digest.now c.args.content.now c.in-Ok.found _ _ _ c.in-Err-shown.error c.in-Ok.ensures.found
    c.as_slice-listed.ensures c.entries_of-entries.ensures.entries c.entries_of-entries.ensures.most c.in-Err-shown.ensures.refused)
