-- Which slots hold a node, a bit each. (Our own.)
use Rattle.std.specs.Prelude.{◌≡◌, ℕ, ◌*◌, ◌/◌, ◌%◌, ◌≤◌, List, Option, Some, None, length, slice_index, slice_get}
use Rattle.std.specs.Int.{bit_at}
use Rattle.hd_open.specs.declared.counts.TheConstants.{GROUP}

-- the bit of a slot
abbrev pub slot_bit : List ℕ → ℕ → ℕ
slot_bit words at = bit_at (slice_index words (at / GROUP)) (at % GROUP)

-- 1 where a slot holds a node, else 0
abbrev pub slot_mark : {A : Type 0} → Option (Option A) → ℕ
slot_mark (Some (Some x)) = 1
slot_mark (Some None) = 0
slot_mark None = 0

-- the bits are those of these slots
pub record AreMarks {A : Type 0} (slots : List (Option A)) (words : List ℕ) : Type 0 where
  pub each : (i : ℕ) → slot_bit words i ≡ slot_mark (slice_get slots i)
  pub covering : length slots ≤ GROUP * length words
