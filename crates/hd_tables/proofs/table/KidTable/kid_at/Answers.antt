use Rattle.std.proofs.Common.{◌≡◌, ◌∙◌, ℕ, zero, suc, ◌<◌, ◌≤◌, length, get_or, refl, sym, ap, arith}
use Rattle.hd_tables.specs.Kids.{KidsView, kid_from}
use Rattle.hd_tables.specs.Bits.{BitsView}
use Rattle.hd_tables.specs.Chunks.{ChunksView}
use Rattle.hd_tables.specs.Places.{begun, parent_after, shown}
use Rattle.hd_tables.proofs.Placing.{last_parent, length-kids_by}
use Rattle.hd_tables.proofs.Looking.{kid_there}
use Rattle.hd_tables.proofs.table.KidTable.kid_at.Goals as goal

-- a place of a successor is one of an action
in_table : (firsts actions : ChunksView ℕ) (marks : BitsView) (t : KidsView) (place : ℕ) → shown firsts actions marks ≡ t → place < length t.kids → place < length actions.items
in_table firsts actions marks t place is lt =
    let view = ap (λ (t : KidsView). length t.kids) is in
    let count = length-kids_by firsts.items actions.items in
    omega (arith, view, count, lt)

pub at-action-requires : goal.at-action-requires
at-action-requires c =
    let s = c.self.inside in
    in_table s.firsts s.actions s.marks c.args.self.now c.args.place c.self.view_is c.requires

pub returns-in-Some : goal.returns-in-Some
returns-in-Some c =
    let s = c.self.inside in
    let some = c.in-Some.ensures in
    let after : c.in-Some.entry ≡ parent_after (begun s.firsts.items c.args.place) =
    some.1 ∙ (sym (last_parent c.begun_at.result (omega (arith, some.0))) ∙ ap parent_after c.begun_at.ensures)
    in
    kid_there s.firsts.items s.actions.items c.args.place c.in-Some.entry c.at-action.result.now (kid_from c.in-Some.entry c.at-action.result.now) (in_table s.firsts s.actions s.marks c.args.self.now c.args.place c.self.view_is c.requires) after c.at-action.ensures
    ∙ ap (λ (t : KidsView). get_or t.kids c.args.place (kid_from c.in-Some.entry c.at-action.result.now)) c.self.view_is

pub returns-in-None : goal.returns-in-None
returns-in-None c =
    let s = c.self.inside in
    let none : c.begun_at.result ≡ 0 = first c.begun_at.result (λ le. c.in-None.ensures le) in
    let root_parent = ap parent_after (sym none ∙ c.begun_at.ensures) in
    kid_there s.firsts.items s.actions.items c.args.place (parent_after 0) c.at-action.result.now (kid_from (parent_after 0) c.at-action.result.now) (in_table s.firsts s.actions s.marks c.args.self.now c.args.place c.self.view_is c.requires) root_parent c.at-action.ensures
    ∙ ap (λ (t : KidsView). get_or t.kids c.args.place (kid_from (parent_after 0) c.at-action.result.now)) c.self.view_is
  where
    first : (n : ℕ) → (1 ≤ n → ⊥) → n ≡ 0
    first zero none = refl
    first (suc n) none = absurd (none (omega arith))
