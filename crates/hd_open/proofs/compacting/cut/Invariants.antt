use Rattle.std.proofs.Common.{◌≡◌, ◌≤◌, length, take}
use Rattle.hd_open.proofs.compacting.cut.Given as goal

abbrev pub invariant-loop-slots : goal.invariant-loop-slots
invariant-loop-slots g l = (l.slots.items ≡ take (length l.slots.items) l.initial.slots.items) × (l.count ≤ length l.slots.items)

abbrev pub decreases-loop-slots : goal.decreases-loop-slots
decreases-loop-slots g l = length l.slots.items
