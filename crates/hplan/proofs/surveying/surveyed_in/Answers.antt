use Rattle.std.proofs.Common.{inl, inr, sym, ◌∙◌, ap, subst}
use Rattle.hplan.specs.Certifying.{OfMemory}
use Rattle.hplan.specs.Fault.{journal_in}
use Rattle.hplan.specs.Inspection.{IsNotTold, OfContent}
use Rattle.hplan.proofs.surveying.surveyed_in.Goals as goal

pub returns-in-Ok-inspect-clause-refusal : goal.returns-in-Ok-inspect-clause-refusal
returns-in-Ok-inspect-clause-refusal c = inl OfMemory

pub returns-clause-refusal : goal.returns-clause-refusal
returns-clause-refusal c =
    inr (subst (IsNotTold c.args.content.now) (sym (c.journal_in.ensures ∙ ap journal_in c.from.ensures))
    (OfContent c.in-Err-inspect.error c.in-Err-inspect.ensures.refused))
