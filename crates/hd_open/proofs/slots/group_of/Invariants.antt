use Rattle.std.proofs.Common.{◌≡◌, ◌≤◌, ◌+◌, ◌*◌, length}
use Rattle.hd_open.specs.Live.{nodes_before}
use Rattle.hd_open.proofs.slots.group_of.Given as goal

abbrev pub invariant-loop-step : goal.invariant-loop-step
invariant-loop-step g l = (nodes_before l.slots (64 * l.group) + l.left ≡ l.place) × (l.group ≤ length l.counts.parts.items)

abbrev pub decreases-loop-step : goal.decreases-loop-step
decreases-loop-step g l = l.step
