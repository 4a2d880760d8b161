use Rattle.std.proofs.Common.{◌+◌, sym, subst}
use Rattle.std.proofs.lemmas.List.{get_or_read}
use Rattle.std.specs.BinaryHeap.{heap_items}
use Rattle.hd_hmax.specs.Queue.{none, WaitsIn, IsPopped}
use Rattle.hd_hmax.proofs.Running.{no_dearer_all, popped_from_run, popped_late}
use Rattle.hd_hmax.proofs.queue.RuleQueue.pop.Goals as goal

pub returns-then-is_next_in_run-clause-popped : goal.returns-then-is_next_in_run-clause-popped
returns-then-is_next_in_run-clause-popped c =
    let q = c.args.self.now in
    let next = c.is_next_in_run.ensures.yes c.if-is_next_in_run.true in
    let at = get_or_read q.run.items _ _ next.there c.index.ensures none in
    subst (λ x. IsPopped (WaitsIn q.run.items q.taken (heap_items q.heap)) x (WaitsIn q.run.items (q.taken + 1) (heap_items q.heap))) (sym at)
    (popped_from_run q.run.items q.last q.taken (heap_items q.heap) q.rises next.there next.least)

pub returns-clause-popped : goal.returns-clause-popped
returns-clause-popped c =
    let q = c.args.self.now in
    let now = heap_items c.pop.new.self in
    popped_late q.run.items q.last q.taken (heap_items q.heap) now c.in_ok-cheapest.field-0 q.rises c.in_ok-cheapest.ensures.permutation
    (no_dearer_all c.in_ok-cheapest.field-0 now (c.in_ok-cheapest.ensures.below_top q.ordered)) (c.is_next_in_run.ensures.no c.if-is_next_in_run.false)
