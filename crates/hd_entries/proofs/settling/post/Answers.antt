use Rattle.std.proofs.Common.{◌≡◌, ◌∙◌, ◌-◌, ◌+◌, ◌<◌, ◌∷◌, ◌++◌, [], ℕ, List, drop, length, get_or, sym, ap, subst, arith}
use Rattle.std.specs.List.{fold}
use Rattle.hd_task.specs.declared.plan.Kid.{Kid}
use Rattle.hd_tables.specs.Kids.{KidsView, ComesAfter, kid_from, with_kid}
use Rattle.std.proofs.lemmas.List.{drop_more, get_or-map, length-map}
use Rattle.hd_node.specs.Children.{ChildView}
use Rattle.hd_entries.specs.Growing.{actions_of}
use Rattle.hd_entries.proofs.Posting.{after_nothing, after_one}
use Rattle.hd_entries.proofs.settling.post.Goals as goal

pub loop-child-init : goal.loop-child-init
loop-child-init c =
    let e = c.enter.ensures.entered in
    let room = ap (λ (t : KidsView). t.kid_room) e in
    let need = c.requires.kid_room in
    record {
      left = ap (λ (t : KidsView). fold with_kid t (actions_of c.args.children.now)) e;
      room = omega (arith, room, need);
      entered = ap (λ (t : KidsView). t.entries) e;
      after = λ j le lt.
          subst (λ (ks : List Kid). ComesAfter ks c.args.kids.now.entries (get_or (actions_of c.args.children.now) j 0)) (sym (ap (λ (t : KidsView). t.kids) e))
          (after_nothing c.args.kids.now.kids c.args.kids.now.entries (get_or (actions_of c.args.children.now) j 0) c.enter.ensures.fresh);
    }

pub loop-child-preserved : goal.loop-child-preserved
loop-child-preserved c =
    let l = c.loop-child in
    let n = c.args.kids.now.entries in
    let cs = c.args.children.now in
    let i = l.child-index in
    let x = c.child-item.result in
    let v = l.invariant in
    let lt : i < length cs = c.loop-child-test.true in
    let at : drop i cs ≡ x ∷ drop (i + 1) cs = drop_more cs i x lt ∙ ap (λ (y : ChildView). y ∷ drop (i + 1) cs) (sym c.child-item.is) in
    let then : c.post.new.self ≡ with_kid l.kids x.action = c.post.ensures ∙ ap (with_kid l.kids) c.action.ensures in
    let room = v.room in
    let left = ap (λ (t : KidsView). t.kid_room) then in
    let entered = v.entered in
    let last : l.kids.entries - 1 ≡ n = omega (arith, entered) in
    let kids : c.post.new.self.kids ≡ l.kids.kids ++ kid_from n x.action ∷ [] =
    ap (λ (t : KidsView). t.kids) then ∙ ap (λ (m : ℕ). l.kids.kids ++ kid_from m x.action ∷ []) last
    in
    record {
      left =
          ap (λ (t : KidsView). fold with_kid t (actions_of (drop (i + 1) cs))) then
          ∙ (sym (ap (λ (ys : List ChildView). fold with_kid l.kids (actions_of ys)) at) ∙ v.left);
      room = omega (arith, room, left, lt);
      entered = ap (λ (t : KidsView). t.entries) then ∙ entered;
      after = λ j le within.
          let long = length-map cs (λ (y : ChildView). y.action) in
          let here : get_or (actions_of cs) i 0 ≡ x.action = get_or-map (λ (y : ChildView). y.action) cs i x 0 lt ∙ ap (λ (y : ChildView). y.action) (sym c.child-item.is) in
          let rise = c.requires.rises i j 0 (omega (arith, le)) (omega (arith, within, long)) in
          subst (λ (ks : List Kid). ComesAfter ks n (get_or (actions_of cs) j 0)) (sym kids)
          (after_one l.kids.kids n x.action (get_or (actions_of cs) j 0) (v.after j (omega (arith, le)) within) (omega (arith, rise, here)));
    }
