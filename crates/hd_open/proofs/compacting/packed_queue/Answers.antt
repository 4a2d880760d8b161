use Rattle.std.proofs.Common.{◌≡◌, ◌+◌, ◌++◌, ◌∷◌, [], ◌∙◌, Some, length, take, ap, sym, subst, arith, length-append}
use Rattle.hd_open.specs.Live.{packed}
use Rattle.hd_open.proofs.Packing.{IsQueueOf, queue_push, packed_some, packed_none, packed_few}
use Rattle.hd_open.proofs.compacting.packed_queue.Goals as goal

pub overflow_add-arrival : goal.overflow_add-arrival
overflow_add-arrival g c =
    let few = packed_few c.args.slots.now c.loop-slot.slot-index in
    let is = c.loop-slot.invariant.1 in
    omega arith

pub loop-slot-preserved : goal.loop-slot-preserved
loop-slot-preserved g c =
    let slots = c.args.slots.now in
    let i = c.loop-slot.slot-index in
    let total = g.T.Waits.total in
    elim c.match-slot.branch [
      | goal.in-Some+in_ok-add w ↦
          (let more : packed (take (i + 1) slots) ≡ packed (take i slots) ++ Some w.in-Some.node ∷ [] =
          packed_some slots i c.slot-item.result w.in-Some.node (omega arith) c.slot-item.is w.in-Some.is
          in
          let longer = ap length more ∙ length-append (packed (take i slots)) (Some w.in-Some.node ∷ []) in
          let was = c.loop-slot.invariant.1 in
          rw (w.queue-is, w.arrival-is) (
            queue_push total (packed (take i slots)) (packed (take (i + 1) slots)) c.loop-slot.queue w.add.new.self w.in-Some.node w.total.result c.loop-slot.arrival
                c.loop-slot.invariant.0 w.total.ensures was more w.in_ok-add.ensures.orderly w.in_ok-add.ensures.added w.in_ok-add.ensures.stays
                w.in_ok-add.ensures.only,
            omega arith,
          ))
      | goal.in_default w ↦
          (let same : packed (take (i + 1) slots) ≡ packed (take i slots) = packed_none slots i c.slot-item.result (omega arith) c.slot-item.is w.in_default.is in
          rw (w.queue-is, w.arrival-is)
          (subst (λ ys. IsQueueOf total ys c.loop-slot.queue) (sym same) c.loop-slot.invariant.0, c.loop-slot.invariant.1 ∙ ap length (sym same)))
    ]
