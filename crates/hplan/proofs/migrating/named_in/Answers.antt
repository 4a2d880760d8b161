use Rattle.std.proofs.Common.{ℕ, ◌≤◌, sym, ◌∙◌, ap, subst}
use Rattle.hd_image.specs.declared.version.Version.TheVariants.{Two}
use Rattle.hd_image.specs.Image.{most_of}
use Rattle.hd_journal.specs.Journal.{version_in}
use Rattle.hplan.specs.Fault.{journal_in}
use Rattle.hplan.specs.Migrating.{NamesNothing, OfContent}
use Rattle.hplan.proofs.Moving.{named_by, names_refused, most_fits}
use Rattle.hplan.proofs.migrating.named_in.Goals as goal

pub returns-in-Err-clause-refusal : goal.returns-in-Err-clause-refusal
returns-in-Err-clause-refusal c =
    subst (NamesNothing c.args.task.now c.args.digest.now c.args.extent c.args.content.items)
    (sym (c.journal_in.ensures ∙ ap journal_in c.from.ensures)) (OfContent c.in-Err.error c.in-Err.ensures.lost)

pub returns-in-Ok-kids-clause-named : goal.returns-in-Ok-kids-clause-named
returns-in-Ok-kids-clause-named c =
    named_by c.args.task.now c.args.digest.now c.args.extent c.args.content.items c.in-Ok.salvaged.dropped c.in-Ok.salvaged.found _ _
    c.in-Ok-kids.kids.items c.in-Ok.ensures.found c.as_slice.ensures c.entries_of-entries.ensures.entries c.in-Ok-kids.ensures.kids
    c.in-Ok-kids.ensures.legal

pub returns-in-Ok-kids-clause-fit : goal.returns-in-Ok-kids-clause-fit
returns-in-Ok-kids-clause-fit c =
    c.in-Ok-kids.ensures.numbered (most_of Two)
    (subst (λ (m : ℕ). m ≤ most_of Two) (sym c.entries_of-entries.ensures.most) (most_fits (version_in c.in-Ok.salvaged.found)))

pub returns-in-Err-kids-clause-refusal : goal.returns-in-Err-kids-clause-refusal
returns-in-Err-kids-clause-refusal c =
    subst (NamesNothing c.args.task.now c.args.digest.now c.args.extent c.args.content.items) (sym c.certify_in.ensures)
    (names_refused c.args.task.now c.args.digest.now c.args.extent c.args.content.items c.in-Ok.salvaged.dropped c.in-Ok.salvaged.found _ _ _
    c.in-Err-kids.error c.in-Ok.ensures.found c.as_slice.ensures c.entries_of-entries.ensures.entries c.entries_of-entries.ensures.most
    c.in-Err-kids.ensures.refused)
