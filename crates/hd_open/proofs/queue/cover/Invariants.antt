use Rattle.std.proofs.Common.{◌≡◌, ℕ, ◌+◌, ◌-◌, ◌≤◌, length}
use Rattle.hd_open.specs.Queue.{bucket}
use Rattle.hd_open.proofs.queue.cover.Given as goal

abbrev pub invariant-loop-alloc : goal.invariant-loop-alloc
invariant-loop-alloc l = ((t : ℕ) → bucket l.small.items t ≡ bucket l.initial.small.items t) × (length l.small.items ≤ 65536)

abbrev pub decreases-loop-alloc : goal.decreases-loop-alloc
decreases-loop-alloc l = l.total + 1 - length l.small.items
