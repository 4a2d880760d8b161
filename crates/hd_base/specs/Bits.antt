-- Bits of words of 64 bits.
use Rattle.std.specs.Prelude.{ℕ, ◌/◌, ◌%◌, ◌==◌, Bool, List, get_or}
use Rattle.std.specs.Int.{bit_at}

-- bit i of words: bit `i mod 64` of word `i div 64`
unfoldable pub bit_in : List ℕ → ℕ → Bool
bit_in words i = bit_at (get_or words (i / 64) 0) (i % 64) == 1
