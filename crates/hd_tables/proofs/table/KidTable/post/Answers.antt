use Rattle.std.proofs.Common.{◌∙◌, ◌<◌, ◌-◌, ◌++◌, ◌∷◌, [], Bool, false, ℕ, List, length, sym, ap, subst, arith}
use Rattle.hd_tables.specs.Kids.{KidsView, ComesAfter, with_kid}
use Rattle.hd_tables.specs.Places.{AreKids}
use Rattle.hd_tables.proofs.Placing.{posted_kept}
use Rattle.hd_tables.proofs.Showing.{shown_posted}
use Rattle.hd_tables.proofs.table.KidTable.post.Goals as goal

pub invariant_of-self : goal.invariant_of-self
invariant_of-self c =
    let s = c.self.inside in
    let e = ap (λ (t : KidsView). t.entries) c.self.view_is in
    let some : 0 < length s.firsts.items = omega (arith, e, c.requires.entered) in
    let after = subst (λ (t : KidsView). ComesAfter t.kids (t.entries - 1) c.args.action) (sym c.self.view_is) c.requires.after in
    subst (λ (ms : List Bool). AreKids s.firsts.items c.push.new.self.items ms s.settled) (sym c.push-2.ensures.items)
    (subst (λ (xs : List ℕ). AreKids s.firsts.items xs (s.marks.items ++ false ∷ []) s.settled) (sym c.push.ensures.items)
    (posted_kept s.firsts.items s.actions.items s.marks.items s.settled c.args.action c.self.invariant some after))

pub returns : goal.returns
returns c =
    let s = c.self.inside in
    let e = ap (λ (t : KidsView). t.entries) c.self.view_is in
    let some : 0 < length s.firsts.items = omega (arith, e, c.requires.entered) in
    shown_posted s.firsts s.actions c.push.new.self s.marks c.push-2.new.self s.settled c.args.action c.self.invariant some
    c.push.ensures.items c.push.ensures.room c.push-2.ensures.items c.push-2.ensures.room
    ∙ ap (λ (t : KidsView). with_kid t c.args.action) c.self.view_is
