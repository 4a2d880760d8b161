use Rattle.std.proofs.Common.{sym, ◌∙◌, ap, subst}
use Rattle.hplan.specs.Fault.{journal_in}
use Rattle.hplan.specs.Inspection.{IsNotTold, OfContent, OfMemory}
use Rattle.hplan.proofs.inspecting.inspection_of_content.Goals as goal

pub returns-in-Err-clause-refusal : goal.returns-in-Err-clause-refusal
returns-in-Err-clause-refusal c =
    subst (IsNotTold c.args.content.now) (sym (c.journal_in.ensures ∙ ap journal_in c.from.ensures)) (OfContent c.in-Err.error c.in-Err.ensures.refused)

pub returns-in-Err-inspected_text-clause-refusal : goal.returns-in-Err-inspected_text-clause-refusal
returns-in-Err-inspected_text-clause-refusal c = OfMemory
