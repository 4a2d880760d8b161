use Rattle.std.proofs.Common.{◌≡◌, ℕ, length, Some}
use Rattle.std.specs.Prelude.{slice_get}
use Rattle.hd_zobrist.specs.Hash.{place_word}
use Rattle.hd_zobrist.proofs.words.place_words.Given as goal

abbrev pub invariant-loop-fluent : goal.invariant-loop-fluent
invariant-loop-fluent l = record {
  words : (i w : ℕ) → slice_get l.words.items i ≡ Some w → w ≡ place_word i;
  count : length l.words.items ≡ l.fluent;
}
