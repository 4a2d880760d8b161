use Rattle.std.proofs.Common.{◌≡◌, Some, None, IfSome, ◌∙◌, ap, sym, subst}
use Rattle.std.specs.Prelude.{option_map}
use Rattle.std.specs.List.{insert}
use Rattle.std.proofs.lemmas.Option.{slice_get_within}
use Rattle.hd_open.specs.Live.{live, nodes_before}
use Rattle.hd_open.specs.Marks.{AreMarks}
use Rattle.hd_open.specs.Counts.{AreCounts}
use Rattle.hd_open.specs.Open.{IsGapOf}
use Rattle.hd_open.specs.Kept.{IsOpenListKept}
use Rattle.hd_open.proofs.Places.{live-set-some}
use Rattle.hd_open.proofs.Taking.{kept_back}
use Rattle.hd_open.proofs.open.OpenList.put_back.Goals as goal

pub put_into-requires-clause-within : goal.put_into-requires-clause-within
put_into-requires-clause-within g c =
    slice_get_within c.self.inside.slots.items c.in-Some.gap.arrival None (c.self.invariant.empty c.in-Some.gap c.in-Some.is)

pub invariant_of-self : goal.invariant_of-self
invariant_of-self g c =
    let slots = c.self.inside.slots.items in
    let gap = c.in-Some.gap in
    let seen : c.args.self.now.gap ≡ Some (nodes_before slots gap.arrival, gap.total) =
    sym (ap (λ o. o.gap) c.self.view_is) ∙ ap (option_map (λ h. (nodes_before slots h.arrival, h.total))) c.in-Some.is
    in
    let total = g.T.Waits.total in
    subst (λ xs. IsOpenListKept total xs None None c.self.inside.queue c.put_into.new.counts) (sym c.put_into.ensures.slots)
    (kept_back total slots gap c.self.inside.hint c.self.inside.queue c.self.inside.counts c.put_into.new.counts c.args.node
    (subst (λ o. IsOpenListKept total slots o c.self.inside.hint c.self.inside.queue c.self.inside.counts) c.in-Some.is c.self.invariant)
    (subst (IsGapOf (total c.args.node)) seen c.requires)
    (subst (λ xs. AreMarks xs c.put_into.new.counts.marks.items) c.put_into.ensures.slots c.put_into.ensures.marked)
    (subst (λ xs. AreCounts xs c.put_into.new.counts) c.put_into.ensures.slots c.put_into.ensures.counted))

pub returns-clause-nodes : goal.returns-clause-nodes
returns-clause-nodes g c =
    let slots = c.self.inside.slots.items in
    let gap = c.in-Some.gap in
    let nodes = c.args.self.now.nodes in
    let seen : c.args.self.now.gap ≡ Some (nodes_before slots gap.arrival, gap.total) =
    sym (ap (λ o. o.gap) c.self.view_is) ∙ ap (option_map (λ h. (nodes_before slots h.arrival, h.total))) c.in-Some.is
    in
    let back : live c.put_into.new.slots.items ≡ insert nodes (nodes_before slots gap.arrival) c.args.node =
    ap live c.put_into.ensures.slots
    ∙ (live-set-some slots gap.arrival c.args.node (c.self.invariant.empty gap c.in-Some.is)
    ∙ ap (λ ns. insert ns (nodes_before slots gap.arrival) c.args.node) (ap (λ o. o.nodes) c.self.view_is))
    in
    subst (λ o. IfSome o (λ h. live c.put_into.new.slots.items ≡ insert nodes h.0 c.args.node)) (sym seen) back
