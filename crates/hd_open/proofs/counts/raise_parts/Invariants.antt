use Rattle.std.proofs.Common.{◌+◌, ◌-◌, length}
use Rattle.hd_open.proofs.Raising.{IsRaisedUpTo}
use Rattle.hd_open.proofs.counts.raise_parts.Given as goal

abbrev pub invariant-loop-at : goal.invariant-loop-at
invariant-loop-at l = IsRaisedUpTo l.initial.parts.items l.parts.items l.group (l.at + 1)

abbrev pub decreases-loop-at : goal.decreases-loop-at
decreases-loop-at l = length l.parts.items - l.at
