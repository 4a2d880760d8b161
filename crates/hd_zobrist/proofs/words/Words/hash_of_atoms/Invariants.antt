use Rattle.std.proofs.Common.{◌≡◌, ◌+◌, length}
use Rattle.std.specs.Prelude.{bit_xor}
use Rattle.hd_zobrist.specs.Hash.{atoms_hash}
use Rattle.hd_zobrist.proofs.words.Words.hash_of_atoms.Given as goal

abbrev pub invariant-loop-rest : goal.invariant-loop-rest
invariant-loop-rest l = record {
  hash : bit_xor l.hash (atoms_hash l.number l.rest) ≡ atoms_hash 0 l.atoms;
  number : l.number + length l.rest ≡ length l.atoms;
}

abbrev pub decreases-loop-rest : goal.decreases-loop-rest
decreases-loop-rest l = length l.rest
