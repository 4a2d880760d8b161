use Rattle.std.proofs.Common.{◌≡◌, ◌≤◌, ◌+◌, ◌*◌, length}
use Rattle.hd_open.specs.Live.{nodes_before}
use Rattle.hd_open.proofs.slots.counted_before.Given as goal

abbrev pub invariant-loop-end : goal.invariant-loop-end
invariant-loop-end g l = (nodes_before l.slots (64 * l.end) + l.place ≡ nodes_before l.slots (64 * l.group)) × (l.end ≤ length l.counts.parts.items)

abbrev pub decreases-loop-end : goal.decreases-loop-end
decreases-loop-end g l = l.end
