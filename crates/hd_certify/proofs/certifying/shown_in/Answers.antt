use Rattle.std.proofs.Common.{sym, ap, subst, ◌∙◌}
use Rattle.hd_entries.specs.Holding.{EntriesView}
use Rattle.hd_entries.specs.Settling.{expansions}
use Rattle.hd_certify.specs.Certificate.{IsDecisive, IsShown}
use Rattle.hd_certify.specs.declared.certified.Certified.{Certified}
use Rattle.hd_certify.specs.Covering.{Spares}
use Rattle.hd_certify.proofs.Showing.{departed_shows, open_shows, decisive}
use Rattle.hd_certify.proofs.certifying.shown_in.Goals as goal

pub returns-then-is_some : goal.returns-then-is_some
returns-then-is_some c =
    departed_shows c.args.gathered.now.entries.state c.requires.again c.requires.gathered.kept c.departure.result c.departure.ensures (sym c.is_some.ensures ∙ c.if-is_some.true)

pub returns-then-not-branch : goal.returns-then-not-branch
returns-then-not-branch c =
    let b = c.args.gathered.now.entries.state in
    open_shows b c.requires.again c.requires.gathered.kept (subst (Spares b) c.if-not-branch.true c.in_ok-are_spared.ensures.spared)

pub shown_by-requires : goal.shown_by-requires
shown_by-requires c =
    let b = c.args.gathered.now.entries.state in
    let told = c.in_ok-are_spared.ensures in
    subst (λ (h : EntriesView). IsDecisive h.state.task (expansions h.state)) (sym told.same)
    (decisive b c.requires.again c.requires.gathered.kept c.departure.result c.departure.ensures (sym c.is_some.ensures ∙ c.if-is_some.false)
    (subst (Spares b) c.if-not-branch.false told.spared))
