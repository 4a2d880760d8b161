-- Marks on numbers, a bit each, 64 in a word. (Our own.)
use Rattle.std.specs.Prelude.{◌≡◌, ℕ, ◌+◌, ◌/◌, ◌≤◌, ◌<◌, true, false, List, Option, Some, None}
use Rattle.hd_base.specs.Bits.{bit_in}

-- how many words hold so many marks
abbrev pub words_for : ℕ → ℕ
words_for count = (count + 63) / 64

-- the first number that is marked, from a number on
pub record IsFirstMark (words : List ℕ) (from n : ℕ) : Type 0 where
  pub is_marked_there : bit_in words n ≡ true
  pub from_there : from ≤ n
  pub none_before : (m : ℕ) → from ≤ m → m < n → bit_in words m ≡ false

-- what is the first number that is marked, from a number on, if there is one
abbrev pub FirstMark : List ℕ → ℕ → Option ℕ → Type 0
FirstMark words from None = (m : ℕ) → from ≤ m → bit_in words m ≡ false
FirstMark words from (Some n) = IsFirstMark words from n
