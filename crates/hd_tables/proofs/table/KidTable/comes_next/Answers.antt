use Rattle.std.proofs.Common.{◌≡◌, ◌≢◌, ◌<◌, ◌-◌, ◌∙◌, ℕ, length, get_or, sym, ap, subst, arith}
use Rattle.std.proofs.lemmas.Bool.{ltb-true, lt-ltb, eq-eqb}
use Rattle.std.proofs.lemmas.List.{get_or_default}
use Rattle.hd_tables.specs.Kids.{KidsView, ComesAfter}
use Rattle.hd_tables.proofs.Looking.{after_none, after_last, last_before}
use Rattle.hd_tables.proofs.table.KidTable.comes_next.Goals as goal

pub returns-then-first-posted : goal.returns-then-first-posted
returns-then-first-posted c =
    let s = c.self.inside in
    let e = ap (λ (t : KidsView). t.entries) c.self.view_is in
    let some : 0 < length s.firsts.items = omega (arith, e, c.requires) in
    let count = c.len.ensures.len in
    let place : c.len.result - 1 ≡ length s.firsts.items - 1 = omega (arith, count) in
    let first : c.at-first.result.now ≡ get_or s.firsts.items (length s.firsts.items - 1) 0 =
    c.at-first.ensures
    ∙ (ap (λ (i : ℕ). get_or s.firsts.items i c.at-first.result.now) place
    ∙ get_or_default s.firsts.items (length s.firsts.items - 1) c.at-first.result.now 0 (omega (arith, some)))
    in
    let none = after_none s.firsts.items s.actions.items s.marks.items s.settled c.args.action c.self.invariant some (sym first ∙ (c.if-first-posted.true ∙ c.len-posted.ensures.len)) in
    (λ _. subst (λ (t : KidsView). ComesAfter t.kids (t.entries - 1) c.args.action) c.self.view_is none, λ _. eq-eqb c.at-first.result.now c.len-posted.result c.if-first-posted.true)

pub returns-else-first-posted : goal.returns-else-first-posted
returns-else-first-posted c =
    let s = c.self.inside in
    let e = ap (λ (t : KidsView). t.entries) c.self.view_is in
    let some : 0 < length s.firsts.items = omega (arith, e, c.requires) in
    let count = c.len.ensures.len in
    let place : c.len.result - 1 ≡ length s.firsts.items - 1 = omega (arith, count) in
    let first : c.at-first.result.now ≡ get_or s.firsts.items (length s.firsts.items - 1) 0 =
    c.at-first.ensures
    ∙ (ap (λ (i : ℕ). get_or s.firsts.items i c.at-first.result.now) place
    ∙ get_or_default s.firsts.items (length s.firsts.items - 1) c.at-first.result.now 0 (omega (arith, some)))
    in
    let posted = c.len-posted.ensures.len in
    let ends = c.self.invariant.ends (length s.firsts.items - 1) (omega (arith, some)) in
    let other : get_or s.firsts.items (length s.firsts.items - 1) 0 ≢ length s.actions.items =
    λ is. c.if-first-posted.false (first ∙ (is ∙ sym posted))
    in
    let before : get_or s.firsts.items (length s.firsts.items - 1) 0 < length s.actions.items = omega (arith, ends, other) in
    let last_place : c.len-posted.result - 1 ≡ length s.actions.items - 1 = omega (arith, posted) in
    let last : c.at.result.now ≡ get_or s.actions.items (length s.actions.items - 1) 0 =
    c.at.ensures
    ∙ (ap (λ (i : ℕ). get_or s.actions.items i c.at.result.now) last_place
    ∙ get_or_default s.actions.items (length s.actions.items - 1) c.at.result.now 0 (omega (arith, before)))
    in (
      λ less.
          subst (λ (t : KidsView). ComesAfter t.kids (t.entries - 1) c.args.action) c.self.view_is
          (after_last s.firsts.items s.actions.items s.marks.items s.settled c.args.action c.self.invariant some before
          (subst (λ (n : ℕ). n < c.args.action) last (ltb-true c.at.result.now c.args.action less))),
      λ after.
          lt-ltb c.at.result.now c.args.action
          (subst (λ (n : ℕ). n < c.args.action) (sym last)
          (last_before s.firsts.items s.actions.items s.marks.items s.settled c.args.action c.self.invariant some before
          (subst (λ (t : KidsView). ComesAfter t.kids (t.entries - 1) c.args.action) (sym c.self.view_is) after))),
    )
