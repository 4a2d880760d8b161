use Rattle.std.proofs.Common.{subst}
use Rattle.std.specs.Prelude.{IfErr}
use Rattle.hd_journal.specs.Copy.{IsNotCopied}
use Rattle.hplan.proofs.Moving.{not_copied_in}
use Rattle.hplan.proofs.migrating.copy_to.Goals as goal

pub returns-in-Err-copied-clause-refusal : goal.returns-in-Err-copied-clause-refusal
returns-in-Err-copied-clause-refusal g c =
    not_copied_in c.args.digest.now c.args.kids.now _ _ (g.P.Disk.Store.device c.in-Ok.disk) (g.P.Disk.Store.device c.copy-disk.result.0) c.in-Err-copied.error c.journal_in.result c.in-Ok.ensures.lent c.give_back.ensures.given
    c.journal_in.ensures (subst (λ r. IfErr r (λ error. IsNotCopied (g.P.Disk.Store.device c.in-Ok.disk) error (g.P.Disk.Store.device c.copy-disk.result.0))) c.in-Err-copied.is c.copy-disk.ensures.refused) c.copy-disk.ensures.kept c.copy-disk.ensures.left
