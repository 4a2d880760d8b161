use Rattle.std.proofs.Common.{◌≡◌, [], Ok, Err, sym, subst, arith}
use Rattle.hd_store.specs.Device.{Device, content_of}
use Rattle.hd_journal.specs.declared.error.JournalError.{JournalError}
use Rattle.hd_journal.specs.Answers.{IsNotMade, MayTellLength}
use Rattle.hd_journal.specs.Calls.{Ran}
use Rattle.hd_journal.specs.Journal.{create_calls}
use Rattle.hd_journal.proofs.Recovering.{may_tell, no_items, not_made}
use Rattle.hd_journal.proofs.create.begin.Goals as goal

pub returns-in-Err-clause-refused : goal.returns-in-Err-clause-refused
returns-in-Err-clause-refused g c =
    let digest = c.args.digest.now in
    let old = g.S.Store.device c.args.store.now in
    let new = g.S.Store.device c.make.new.store in
    let told : MayTellLength old (Ok tt) = may_tell old _ c.in_ok-len.ensures.foretold in
    let empty : content_of old ≡ [] = no_items (content_of old) (omega (arith, c.in_ok-len.ensures.len, c.if-branch-gt0.false)) in
    let ran : Ran old (create_calls digest) (Err c.in-Err.error) new =
    subst (λ (d : Device). Ran d (create_calls digest) (Err c.in-Err.error) new) c.in_ok-len.ensures.ok c.in-Err.ensures.ran in
    subst (λ (e : JournalError). IsNotMade digest old e new) (sym c.from.ensures) (not_made digest old new c.in-Err.error told empty ran)
