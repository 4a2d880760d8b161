-- What tables of words hold. (Our own.)
use Rattle.std.specs.Prelude.{◌≡◌, ℕ, List, Some, slice_get}
use Rattle.hd_zobrist.specs.Hash.{atom_word, place_word}

-- at each place stands the word of its number
pub record AreTableWords (atoms fluents : List ℕ) : Type 0 where
  pub atoms_are : (i w : ℕ) → slice_get atoms i ≡ Some w → w ≡ atom_word i
  pub fluents_are : (j w : ℕ) → slice_get fluents j ≡ Some w → w ≡ place_word j
