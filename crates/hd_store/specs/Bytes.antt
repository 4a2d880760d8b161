-- What writes and cuts make of bytes. (Our own.)
use Rattle.std.specs.Prelude.{◌≡◌, ℕ, ◌+◌, ◌<◌, ◌≤◌, Bool, false, ◌&&◌, nat_le, nat_lt, List, ◌++◌, length, take, drop, max, slice_index}

-- bytes written over a content from a place on, and past its end
abbrev pub written_over : List ℕ → ℕ → List ℕ → List ℕ
written_over content at bytes = take at content ++ bytes ++ drop (at + length bytes) content

-- a place is in the range of so many from a first one on
abbrev pub is_in_range : ℕ → ℕ → ℕ → Bool
is_in_range at count place = nat_le at place && nat_lt place (at + count)

-- any part of a write of so many bytes was done: each byte of its range may be any, all others are
-- as before, and the length lies between that before and that after the whole write
pub record IsPartOfWrite (old : List ℕ) (at count : ℕ) (new : List ℕ) : Type 0 where
  pub no_shorter : length old ≤ length new
  pub no_longer : length new ≤ max (length old) (at + count)
  pub others : (place : ℕ) → place < length old → is_in_range at count place ≡ false → slice_index new place ≡ slice_index old place

-- any part of a cut was done: a front of the content is left, no shorter than the cut was to make
-- it
abbrev pub IsPartOfCut : List ℕ → ℕ → List ℕ → Type 0
IsPartOfCut old len new = (left : ℕ) × (len ≤ left) × (new ≡ take left old)
