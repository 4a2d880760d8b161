use Rattle.std.proofs.Common.{rules, ◌≡◌, ◌∙◌, IfOk, IfErr, length, sym, subst}
use Rattle.hd_image.specs.declared.header.TheConstants.{DIGEST_LEN}
use Rattle.hd_store.specs.Device.{content_of}
use Rattle.hplan.specs.Kept.{IsJournalBegun, TellsOfFile}
use Rattle.hplan.proofs.Keeping.{begun_kept, made_not, opened_not}
use Rattle.hplan.proofs.Stops.{has_while_opened}
use Rattle.hplan.proofs.kept.journal_on.Goals as goal

pub returns-in-New-clause-refused : goal.returns-in-New-clause-refused
returns-in-New-clause-refused g c =
    let len : length c.args.digest.now ≡ DIGEST_LEN = search rules in
    subst
    (λ s. IfErr c.create.result (λ e. TellsOfFile s c.args.digest.now (content_of (g.S.Store.device c.args.store)) (content_of (g.S.Store.device e.0)) e.1))
    (sym c.in-New.is)
    (made_not c.args.digest.now (g.S.Store.device c.args.store) len c.create.result c.create.ensures.refused)

pub returns-in-Kept-clause-begun : goal.returns-in-Kept-clause-begun
returns-in-Kept-clause-begun g c =
    subst
    (λ s. IfOk c.open.result (IsJournalBegun {S = g.row.S.Denot} {G = g.S.Store} s c.args.digest.now (content_of (g.S.Store.device c.args.store))))
    (sym c.in-Kept.is)
    (begun_kept c.args.digest.now (g.S.Store.device c.args.store) c.open.result c.open.ensures.opened c.open.ensures.whole)

pub returns-in-Kept-clause-refused : goal.returns-in-Kept-clause-refused
returns-in-Kept-clause-refused g c =
    let len : length c.args.digest.now ≡ DIGEST_LEN = search rules in
    subst
    (λ s. IfErr c.open.result (λ e. TellsOfFile s c.args.digest.now (content_of (g.S.Store.device c.args.store)) (content_of (g.S.Store.device e.0)) e.1))
    (sym c.in-Kept.is)
    (opened_not c.args.digest.now (g.S.Store.device c.args.store) len c.open.result c.open.ensures.refused)

pub returns-in-New-clause-groups : goal.returns-in-New-clause-groups
returns-in-New-clause-groups g c = λ v groups kept stand. let no = sym c.in-New.is ∙ kept in absurd (cc)

pub returns-in-New-clause-moments : goal.returns-in-New-clause-moments
returns-in-New-clause-moments g c = λ v groups next kept stopped. let no = sym c.in-New.is ∙ kept in absurd (cc)

pub returns-in-Kept-clause-groups : goal.returns-in-Kept-clause-groups
returns-in-Kept-clause-groups g c = λ v groups kept stand. c.open.ensures.groups v groups stand

pub returns-in-Kept-clause-moments : goal.returns-in-Kept-clause-moments
returns-in-Kept-clause-moments g c = λ v groups next kept stopped.
    has_while_opened v c.args.digest.now groups next _ _ stopped
    (c.open.ensures.moments v groups next stopped.settled stopped.sound stopped.group stopped.left)
