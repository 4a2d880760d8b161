use Rattle.std.proofs.Common.{◌≡◌, ◌+◌, length}
use Rattle.std.specs.Prelude.{bit_xor}
use Rattle.hd_zobrist.specs.Hash.{fluents_hash}
use Rattle.hd_zobrist.proofs.words.Words.hash_of_fluents.Given as goal

abbrev pub invariant-loop-rest : goal.invariant-loop-rest
invariant-loop-rest l = record {
  hash : bit_xor l.hash (fluents_hash l.number l.rest) ≡ fluents_hash 0 l.fluents;
  number : l.number + length l.rest ≡ length l.fluents;
}

abbrev pub decreases-loop-rest : goal.decreases-loop-rest
decreases-loop-rest l = length l.rest
