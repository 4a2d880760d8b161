use Rattle.std.proofs.Common.{rules, ◌≡◌, inl, length}
use Rattle.hd_image.specs.declared.header.TheConstants.{DIGEST_LEN}
use Rattle.hd_journal.specs.Copy.{IsCopyUnderWay}
use Rattle.hd_journal.proofs.Joining.{copied_by, left_in_all, leaves_in_all, not_made_left, not_made_kept, weaker_since}
use Rattle.hd_journal.proofs.copying.copy.Goals as goal

pub returns-in-Ok-clause-copied : goal.returns-in-Ok-clause-copied
returns-in-Ok-clause-copied g c =
    copied_by c.args.digest.now c.args.kids.now c.in-Ok.journal c.append_all-appended.new.journal _ c.append_all-appended.result
    c.in-Ok.ensures.whole c.in-Ok.ensures.version c.into_store.ensures c.append_all-appended.ensures.appended

pub returns-in-Ok-clause-left : goal.returns-in-Ok-clause-left
returns-in-Ok-clause-left g c = λ empty.
    left_in_all c.args.digest.now c.args.kids.now c.in-Ok.journal c.append_all-appended.new.journal _ c.append_all-appended.result
    c.in-Ok.ensures.whole c.in-Ok.ensures.version c.into_store.ensures c.append_all-appended.ensures.appended c.append_all-appended.ensures.refused

pub returns-in-Ok-clause-moments : goal.returns-in-Ok-clause-moments
returns-in-Ok-clause-moments g c = λ settled empty.
    leaves_in_all c.args.digest.now c.args.kids.now (g.S.Store.device c.args.store) c.in-Ok.journal c.append_all-appended.new.journal _
    c.append_all-appended.result
    c.in-Ok.ensures.whole c.in-Ok.ensures.version c.into_store.ensures c.append_all-appended.ensures.appended c.append_all-appended.ensures.refused
    (c.in-Ok.ensures.moments settled empty) c.in-Ok.ensures.settled

pub returns-in-Err-clause-left : goal.returns-in-Err-clause-left
returns-in-Err-clause-left g c = λ empty.
    let len : length c.args.digest.now ≡ DIGEST_LEN = search rules in
    inl (not_made_left c.args.digest.now (g.S.Store.device c.args.store) (g.S.Store.device c.in-Err.store) c.in-Err.error len empty c.in-Err.ensures.refused)

pub returns-in-Err-clause-moments : goal.returns-in-Err-clause-moments
returns-in-Err-clause-moments g c = λ settled empty.
    weaker_since _ (IsCopyUnderWay c.args.digest.now c.args.kids.now) (λ content making. inl making) (g.S.Store.device c.args.store)
    (g.S.Store.device c.in-Err.store) (c.in-Err.ensures.moments settled empty)

pub returns-in-Ok-clause-kept : goal.returns-in-Ok-clause-kept
returns-in-Ok-clause-kept g c = λ some. absurd (some c.in-Ok.ensures.made.empty)

pub returns-in-Err-clause-kept : goal.returns-in-Err-clause-kept
returns-in-Err-clause-kept g c = λ some.
    not_made_kept c.args.digest.now (g.S.Store.device c.args.store) (g.S.Store.device c.in-Err.store) c.in-Err.error some c.in-Err.ensures.refused
