use Rattle.std.proofs.Common.{◌≡◌, ℕ, length, Some}
use Rattle.std.specs.Prelude.{slice_get}
use Rattle.hd_zobrist.specs.Hash.{atom_word}
use Rattle.hd_zobrist.proofs.words.atom_words.Given as goal

abbrev pub invariant-loop-atom : goal.invariant-loop-atom
invariant-loop-atom l = record {
  words : (i w : ℕ) → slice_get l.words.items i ≡ Some w → w ≡ atom_word i;
  count : length l.words.items ≡ l.atom;
}
