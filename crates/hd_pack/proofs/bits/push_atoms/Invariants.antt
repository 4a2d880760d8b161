use Rattle.std.proofs.Common.{◌≡◌, ◌++◌, length}
use Rattle.hd_pack.specs.Packing.{atom_bytes}
use Rattle.hd_pack.proofs.bits.push_atoms.Given as goal

abbrev pub invariant-loop-rest : goal.invariant-loop-rest
invariant-loop-rest l = l.bytes.items ++ atom_bytes l.rest ≡ l.fn.bytes.items ++ atom_bytes l.atoms

abbrev pub decreases-loop-rest : goal.decreases-loop-rest
decreases-loop-rest l = length l.rest
