use Rattle.std.proofs.Common.{◌*◌}
use Rattle.probes.proofs.Eights.{IsRead}
use Rattle.probes.proofs.together.eight_of.Given as goal

-- the atoms so far
abbrev pub invariant-loop-done : goal.invariant-loop-done
invariant-loop-done l = IsRead l.state (8 * l.number) l.byte l.done
