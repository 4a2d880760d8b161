use Rattle.std.proofs.Common.{◌≡◌, ◌+◌, ◌-◌, length}
use Rattle.hd_open.specs.Live.{nodes_before}
use Rattle.hd_open.proofs.slots.filled_after.Given as goal

abbrev pub invariant-loop-at : goal.invariant-loop-at
invariant-loop-at g l = nodes_before l.slots l.at + l.left ≡ nodes_before l.slots l.initial.at + l.more

abbrev pub decreases-loop-at : goal.decreases-loop-at
decreases-loop-at g l = length l.slots - l.at
