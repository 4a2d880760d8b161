use Rattle.std.proofs.Common.{◌≡◌, ◌∙◌, ◌+◌, ◌<◌, ◌∷◌, ℕ, List, drop, sym, ap, subst}
use Rattle.std.specs.List.{AllPairs}
use Rattle.std.proofs.lemmas.List.{drop_more}
use Rattle.hd_node.specs.Children.{ChildView}
use Rattle.hd_node.specs.declared.batch.Outcome.{Outcome}
use Rattle.hd_entries.specs.Growing.{actions_of, with_kids}
use Rattle.hd_entries.proofs.Posting.{children_rise, IsNext, next_expanded, next_other}
use Rattle.hd_entries.proofs.settling.post_all.Goals as goal
use Rattle.hd_entries.proofs.settling.post_all.Goals.{in-Expanded, in_default}

pub post-requires-clause-rises : goal.post-requires-clause-rises
post-requires-clause-rises c =
    subst (λ (cs : List ChildView). AllPairs (λ (a b : ℕ). a < b) (actions_of cs)) (sym c.children.ensures) (children_rise c.in-Expanded.expansion)

pub loop-outcome-preserved : goal.loop-outcome-preserved
loop-outcome-preserved c =
    let l = c.loop-outcome in
    let os = c.args.outcomes.now in
    let i = l.outcome-index in
    let o = c.outcome-item.result in
    let v = l.invariant in
    let at : drop i os ≡ o ∷ drop (i + 1) os = drop_more os i o c.loop-outcome-test.true ∙ ap (λ (x : Outcome). x ∷ drop (i + 1) os) (sym c.outcome-item.is) in
    let next : IsNext l.kids c.match-outcome.kids (drop i os) (drop (i + 1) os) =
    elim c.match-outcome.branch [
      | in-Expanded w ↦
          next_expanded l.kids c.match-outcome.kids (drop i os) (drop (i + 1) os) o at v.entry_room v.kid_room v.few w.in-Expanded.expansion w.in-Expanded.is
          (w.kids-is ∙ (w.post.ensures ∙ ap (λ (cs : List ChildView). with_kids l.kids (actions_of cs)) w.children.ensures))
      | in_default w ↦
          next_other l.kids c.match-outcome.kids (drop i os) (drop (i + 1) os) o at v.entry_room v.kid_room v.few w.in_default.not-Expanded w.kids-is
    ]
    in
    record { left = next.left ∙ v.left; entry_room = next.entry_room; kid_room = next.kid_room; few = next.few }
