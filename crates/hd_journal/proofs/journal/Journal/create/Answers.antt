use Rattle.std.proofs.Common.{rules, ◌≡◌, length, Ok, sym, subst}
use Rattle.hd_image.specs.declared.header.TheConstants.{DIGEST_LEN}
use Rattle.hd_image.specs.declared.version.Version.TheVariants.{Two}
use Rattle.hd_image.specs.Stops.{IsMaking}
use Rattle.hd_store.specs.Device.{Device, content_of}
use Rattle.hd_journal.specs.Moments.{LeavesSince}
use Rattle.hd_journal.proofs.Making.{create_moments}
use Rattle.hd_journal.proofs.Recovering.{empty_short, not_made_moments}
use Rattle.hd_journal.proofs.journal.Journal.create.Goals as goal

pub returns-in-Ok-clause-moments : goal.returns-in-Ok-clause-moments
returns-in-Ok-clause-moments g c = λ settled empty.
    let len : length c.args.digest.now ≡ DIGEST_LEN = search rules in
    let old = g.S.Store.device c.args.store in
    subst (λ (d : Device). LeavesSince (IsMaking Two c.args.digest.now) old d) (sym c.of.ensures.device)
    (create_moments c.args.digest.now old (g.S.Store.device c.begin.new.store) (Ok tt) len settled
    (empty_short (content_of old) empty) c.in-Ok.ensures.made.ran)

pub returns-in-Err-clause-moments : goal.returns-in-Err-clause-moments
returns-in-Err-clause-moments g c = λ settled empty.
    let len : length c.args.digest.now ≡ DIGEST_LEN = search rules in
    not_made_moments c.args.digest.now (g.S.Store.device c.args.store) (g.S.Store.device c.begin.new.store) c.in-Err.error len settled empty
    c.in-Err.ensures.refused
