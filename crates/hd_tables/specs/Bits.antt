-- A list of bits in words, and how contracts see it. (Our own.)
use Rattle.std.specs.Prelude.{ℕ, Bool, List, map}
use Rattle.hd_base.specs.Bits.{bit_in}
use Rattle.std.specs.List.{range_with_len}

-- a list of bits: its items, and how many can be pushed to it without asking for memory
pub record BitsView : Type 0 where
  pub items : List Bool
  pub room : ℕ

-- the first n bits of words
abbrev pub bits_in : List ℕ → ℕ → List Bool
bits_in words n = map (bit_in words) (range_with_len 0 n)
