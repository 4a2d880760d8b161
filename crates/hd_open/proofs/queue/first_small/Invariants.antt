use Rattle.std.proofs.Common.{◌≡◌, ℕ, ◌<◌, ◌≤◌, [], length}
use Rattle.hd_open.specs.Queue.{bucket, AreCleared}
use Rattle.hd_open.proofs.queue.first_small.Given as goal

abbrev pub invariant-loop-total : goal.invariant-loop-total
invariant-loop-total l =
    ((t : ℕ) → AreCleared l.words (bucket l.initial.small.items t) (bucket l.small.items t))
    × ((t : ℕ) → l.from ≤ t → t < l.total → bucket l.small.items t ≡ []) × (length l.small.items ≡ length l.initial.small.items)
