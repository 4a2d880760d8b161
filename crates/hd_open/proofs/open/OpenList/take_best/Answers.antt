use Rattle.std.proofs.Common.{length, Some, None, slice_set, ap, sym, subst}
use Rattle.hd_open.specs.Live.{IsBestArrival}
use Rattle.hd_open.specs.Marks.{AreMarks}
use Rattle.hd_open.specs.Counts.{AreCounts}
use Rattle.hd_open.specs.Queue.{IsQueued, IsBelow}
use Rattle.hd_open.specs.Open.{TakesBest}
use Rattle.hd_open.specs.Kept.{open_view, IsOpenListKept}
use Rattle.hd_open.proofs.Taking.{kept_left, taken_best}
use Rattle.hd_open.proofs.open.OpenList.take_best.Goals as goal

pub invariant_of-self-2 : goal.invariant_of-self-2
invariant_of-self-2 g c =
    let slots = c.self.inside.slots.items in
    let total = g.T.Waits.total in
    let d = c.take_from-node.new.counts in
    let q = c.best_arrival.new.queue in
    let node = c.take_from-node.result.0 in
    let i = c.in_ok-arrival.arrival in
    subst (λ xs. IsOpenListKept total xs (Some c.take_from-node.result.1) None q d) (sym c.take_from-node.ensures.slots)
    (subst (λ h. IsOpenListKept total (slice_set slots i None) (Some h) None q d) (sym c.take_from-node.ensures.gap)
    (kept_left total slots q d i node (subst (λ xs. IsQueued total xs q) c.as_slice.ensures.value c.in_ok-arrival.ensures.kept)
    c.in_ok-arrival.ensures.orderly c.in_ok-arrival.ensures.single
    (subst (λ xs. IsBelow q (length xs)) c.as_slice.ensures.value c.in_ok-arrival.ensures.latest) c.take_from-node.ensures.node
    (subst (λ xs. AreMarks xs d.marks.items) c.take_from-node.ensures.slots c.take_from-node.ensures.marked)
    (subst (λ xs. AreCounts xs d) c.take_from-node.ensures.slots c.take_from-node.ensures.counted)))

pub returns-clause-taken : goal.returns-clause-taken
returns-clause-taken g c =
    let slots = c.self.inside.slots.items in
    let total = g.T.Waits.total in
    let node = c.take_from-node.result.0 in
    let i = c.in_ok-arrival.arrival in
    let best = subst (λ xs. IsBestArrival total xs i) c.as_slice.ensures.value c.in_ok-arrival.ensures.best in
    subst (λ xs. TakesBest total c.args.self.now node (open_view xs (Some c.take_from-node.result.1))) (sym c.take_from-node.ensures.slots)
    (subst (λ h. TakesBest total c.args.self.now node (open_view (slice_set slots i None) (Some h))) (sym c.take_from-node.ensures.gap)
    (taken_best total slots c.args.self.now i node (ap (λ o. o.nodes) c.self.view_is) c.take_from-node.ensures.node best))
