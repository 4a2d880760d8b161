use Rattle.hd_open.proofs.Packing.{AreWhole}
use Rattle.hd_open.proofs.compacting.full_parts.Given as goal

abbrev pub invariant-loop-group : goal.invariant-loop-group
invariant-loop-group l = AreWhole l.parts.items l.group
