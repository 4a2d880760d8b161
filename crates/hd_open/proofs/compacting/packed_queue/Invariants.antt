use Rattle.std.proofs.Common.{◌≡◌, length, take}
use Rattle.hd_open.specs.Live.{packed}
use Rattle.hd_open.proofs.Packing.{IsQueueOf}
use Rattle.hd_open.proofs.compacting.packed_queue.Given as goal

abbrev pub invariant-loop-slot : goal.invariant-loop-slot
invariant-loop-slot g l =
    IsQueueOf g.T.Waits.total (packed (take l.slot-index l.slots)) l.queue × (l.arrival ≡ length (packed (take l.slot-index l.slots)))
