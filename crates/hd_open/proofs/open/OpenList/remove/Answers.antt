use Rattle.std.proofs.Common.{◌≡◌, Some, None, slice_set, ap, sym, subst}
use Rattle.hd_open.specs.Live.{nodes_before}
use Rattle.hd_open.specs.Marks.{AreMarks}
use Rattle.hd_open.specs.Counts.{AreCounts}
use Rattle.hd_open.specs.Open.{TakesAt}
use Rattle.hd_open.specs.Kept.{open_view, IsOpenListKept}
use Rattle.hd_open.proofs.Taking.{kept_left, taken_at}
use Rattle.hd_open.proofs.open.OpenList.remove.Goals as goal

pub invariant_of-self : goal.invariant_of-self
invariant_of-self g c =
    let slots = c.self.inside.slots.items in
    let total = g.T.Waits.total in
    let d = c.take_from-node.new.counts in
    let node = c.take_from-node.result.0 in
    let i = c.arrival_by-arrival.result in
    subst (λ xs. IsOpenListKept total xs (Some c.take_from-node.result.1) None c.self.inside.queue d) (sym c.take_from-node.ensures.slots)
    (subst (λ h. IsOpenListKept total (slice_set slots i None) (Some h) None c.self.inside.queue d) (sym c.take_from-node.ensures.gap)
    (kept_left total slots c.self.inside.queue d i node c.self.invariant.queued c.self.invariant.orderly c.self.invariant.single c.self.invariant.latest
    c.take_from-node.ensures.node (subst (λ xs. AreMarks xs d.marks.items) c.take_from-node.ensures.slots c.take_from-node.ensures.marked)
    (subst (λ xs. AreCounts xs d) c.take_from-node.ensures.slots c.take_from-node.ensures.counted)))

pub returns-clause-taken : goal.returns-clause-taken
returns-clause-taken g c =
    let slots = c.self.inside.slots.items in
    let total = g.T.Waits.total in
    let node = c.take_from-node.result.0 in
    let i = c.arrival_by-arrival.result in
    let stands : nodes_before slots i ≡ c.args.place = subst (λ xs. nodes_before xs i ≡ c.args.place) c.as_slice.ensures.value c.arrival_by-arrival.ensures.place in
    subst (λ xs. TakesAt total c.args.self.now c.args.place node (open_view xs (Some c.take_from-node.result.1))) (sym c.take_from-node.ensures.slots)
    (subst (λ h. TakesAt total c.args.self.now c.args.place node (open_view (slice_set slots i None) (Some h))) (sym c.take_from-node.ensures.gap)
    (taken_at total slots c.args.self.now i c.args.place node (ap (λ o. o.nodes) c.self.view_is) c.take_from-node.ensures.node stands))
