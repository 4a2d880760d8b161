use Rattle.std.proofs.Common.{rules, ◌≡◌, [], length, sym, ◌∙◌, subst}
use Rattle.hd_image.specs.declared.header.TheConstants.{DIGEST_LEN}
use Rattle.hd_image.specs.declared.version.Version.TheVariants.{Two}
use Rattle.hd_image.specs.Stops.{IsBeforeOrAfter, IsMaking}
use Rattle.hd_store.specs.Device.{Device}
use Rattle.hd_journal.specs.Moments.{LeavesSince, IsSettled}
use Rattle.hd_journal.proofs.Opening.{Opens}
use Rattle.hd_journal.proofs.Recovering.{mended_opens, mended_groups, mended_none, mended_settled, mended_making, mended_again, not_opened_making, not_opened_again}
use Rattle.hd_journal.proofs.Wholes.{is_of}
use Rattle.hd_journal.proofs.journal.Journal.open.Goals as goal

pub returns-in-Ok-clause-whole : goal.returns-in-Ok-clause-whole
returns-in-Ok-clause-whole g c =
    let len : length c.args.digest.now ≡ DIGEST_LEN = search rules in
    let o = mended_opens c.args.digest.now (g.S.Store.device c.args.store) c.in-Ok.found (g.S.Store.device c.recover.new.store) len
    c.in-Ok.ensures.mended in (
      o.0,
      is_of c.args.digest.now o.0 c.of_found.result c.in-Ok.found len
          (subst (λ (d : Device). Opens c.args.digest.now c.in-Ok.found o.0 d) (sym c.of_found.ensures.device) o.1)
          c.of_found.ensures.version c.of_found.ensures.entries c.of_found.ensures.gate c.of_found.ensures.running,
    )

pub returns-in-Ok-clause-groups : goal.returns-in-Ok-clause-groups
returns-in-Ok-clause-groups g c = λ v groups stands.
    let len : length c.args.digest.now ≡ DIGEST_LEN = search rules in
    let o = mended_groups v c.args.digest.now groups (g.S.Store.device c.args.store) c.in-Ok.found (g.S.Store.device c.recover.new.store) len stands
    c.in-Ok.ensures.mended in (
      c.of_found.ensures.version ∙ o.0,
      is_of c.args.digest.now groups c.of_found.result c.in-Ok.found len
          (subst (λ (d : Device). Opens c.args.digest.now c.in-Ok.found groups d) (sym c.of_found.ensures.device) o.1)
          c.of_found.ensures.version c.of_found.ensures.entries c.of_found.ensures.gate c.of_found.ensures.running,
    )

pub returns-in-Ok-clause-none : goal.returns-in-Ok-clause-none
returns-in-Ok-clause-none g c = λ making.
    let len : length c.args.digest.now ≡ DIGEST_LEN = search rules in
    let o = mended_none c.args.digest.now (g.S.Store.device c.args.store) c.in-Ok.found (g.S.Store.device c.recover.new.store) len making
    c.in-Ok.ensures.mended in (
      c.of_found.ensures.version ∙ o.0,
      is_of c.args.digest.now [] c.of_found.result c.in-Ok.found len
          (subst (λ (d : Device). Opens c.args.digest.now c.in-Ok.found [] d) (sym c.of_found.ensures.device) o.1)
          c.of_found.ensures.version c.of_found.ensures.entries c.of_found.ensures.gate c.of_found.ensures.running,
    )

pub returns-in-Ok-clause-making : goal.returns-in-Ok-clause-making
returns-in-Ok-clause-making g c = λ settled making.
    let len : length c.args.digest.now ≡ DIGEST_LEN = search rules in
    let old = g.S.Store.device c.args.store in
    subst (λ (d : Device). LeavesSince (IsMaking Two c.args.digest.now) old d) (sym c.of_found.ensures.device)
    (mended_making c.args.digest.now old c.in-Ok.found (g.S.Store.device c.recover.new.store) len settled making c.in-Ok.ensures.mended)

pub returns-in-Ok-clause-moments : goal.returns-in-Ok-clause-moments
returns-in-Ok-clause-moments g c = λ v groups next settled sound group left.
    let len : length c.args.digest.now ≡ DIGEST_LEN = search rules in
    let old = g.S.Store.device c.args.store in
    subst (λ (d : Device). LeavesSince (IsBeforeOrAfter v c.args.digest.now groups next) old d) (sym c.of_found.ensures.device)
    (mended_again v c.args.digest.now groups next old c.in-Ok.found (g.S.Store.device c.recover.new.store) len settled sound group left
    c.in-Ok.ensures.mended)

pub returns-in-Ok-clause-settled : goal.returns-in-Ok-clause-settled
returns-in-Ok-clause-settled g c = λ settled.
    subst IsSettled (sym c.of_found.ensures.device)
    (mended_settled c.args.digest.now (g.S.Store.device c.args.store) c.in-Ok.found (g.S.Store.device c.recover.new.store) settled
    c.in-Ok.ensures.mended)

pub returns-in-Err-clause-making : goal.returns-in-Err-clause-making
returns-in-Err-clause-making g c = λ settled making.
    let len : length c.args.digest.now ≡ DIGEST_LEN = search rules in
    not_opened_making c.args.digest.now (g.S.Store.device c.args.store) (g.S.Store.device c.recover.new.store) c.in-Err.error len settled making
    c.in-Err.ensures.refused

pub returns-in-Err-clause-moments : goal.returns-in-Err-clause-moments
returns-in-Err-clause-moments g c = λ v groups next settled sound group left.
    let len : length c.args.digest.now ≡ DIGEST_LEN = search rules in
    not_opened_again v c.args.digest.now groups next (g.S.Store.device c.args.store) (g.S.Store.device c.recover.new.store) c.in-Err.error len settled
    sound group left c.in-Err.ensures.refused
