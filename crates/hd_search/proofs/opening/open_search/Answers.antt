use Rattle.std.proofs.Common.{ℕ, List, subst}
use Rattle.hd_image.specs.declared.entry.Entry.{Entry}
use Rattle.hd_image.specs.Image.{most_of}
use Rattle.hd_search.specs.Fault.{IsFaulty}
use Rattle.hd_search.proofs.opening.open_search.Goals as goal

pub returns-in-Err-clause-told : goal.returns-in-Err-clause-told
returns-in-Err-clause-told g c =
    let t = c.args.task.now in
    let told = c.of_recovery.ensures t c.most.result c.entries.result.now c.in-Err.ensures.refused in
    subst (λ (es : List Entry). IsFaulty t (most_of c.args.journal.now.version) es c.of_recovery.result) c.entries.ensures
    (subst (λ (n : ℕ). IsFaulty t n c.entries.result.now c.of_recovery.result) c.most.ensures told)
