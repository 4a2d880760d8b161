use Rattle.std.proofs.Common.{◌≡◌, ◌∙◌, ◌-◌, ◌+◌, ◌<◌, ◌∷◌, ◌++◌, [], ℕ, List, drop, length, get_or, sym, ap, subst, arith}
use Rattle.std.specs.List.{fold}
use Rattle.hd_task.specs.declared.plan.Kid.{Kid}
use Rattle.hd_tables.specs.Kids.{KidsView, ComesAfter, kid_from, with_kid}
use Rattle.std.proofs.lemmas.List.{drop_more}
use Rattle.hd_entries.proofs.Posting.{after_nothing, after_one}
use Rattle.hd_entries.proofs.settling.post_actions.Goals as goal

pub loop-number-init : goal.loop-number-init
loop-number-init c =
    let e = c.enter.ensures.entered in
    let room = ap (λ (t : KidsView). t.kid_room) e in
    let need = c.requires.kid_room in
    record {
      left = ap (λ (t : KidsView). fold with_kid t c.args.actions.now) e;
      room = omega (arith, room, need);
      entered = ap (λ (t : KidsView). t.entries) e;
      after = λ j le lt.
          subst (λ (ks : List Kid). ComesAfter ks c.args.kids.now.entries (get_or c.args.actions.now j 0)) (sym (ap (λ (t : KidsView). t.kids) e))
          (after_nothing c.args.kids.now.kids c.args.kids.now.entries (get_or c.args.actions.now j 0) c.enter.ensures.fresh);
    }

pub loop-number-preserved : goal.loop-number-preserved
loop-number-preserved c =
    let l = c.loop-number in
    let n = c.args.kids.now.entries in
    let acts = c.args.actions.now in
    let i = l.number in
    let x = get_or acts i 0 in
    let v = l.invariant in
    let lt : i < length acts = c.loop-number-test.true in
    let at : drop i acts ≡ x ∷ drop (i + 1) acts = drop_more acts i 0 lt in
    let then : c.post.new.self ≡ with_kid l.kids x = c.post.ensures in
    let room = v.room in
    let left = ap (λ (t : KidsView). t.kid_room) then in
    let entered = v.entered in
    let last : l.kids.entries - 1 ≡ n = omega (arith, entered) in
    let kids : c.post.new.self.kids ≡ l.kids.kids ++ kid_from n x ∷ [] =
    ap (λ (t : KidsView). t.kids) then ∙ ap (λ (m : ℕ). l.kids.kids ++ kid_from m x ∷ []) last
    in
    record {
      left =
          ap (λ (t : KidsView). fold with_kid t (drop (i + 1) acts)) then
          ∙ (sym (ap (λ (ys : List ℕ). fold with_kid l.kids ys) at) ∙ v.left);
      room = omega (arith, room, left, lt);
      entered = ap (λ (t : KidsView). t.entries) then ∙ entered;
      after = λ j le within.
          let rise = c.requires.rises i j 0 (omega (arith, le)) within in
          subst (λ (ks : List Kid). ComesAfter ks n (get_or acts j 0)) (sym kids)
          (after_one l.kids.kids n x (get_or acts j 0) (v.after j (omega (arith, le)) within) (omega (arith, rise)));
    }
