-- How much the outcomes of a worker hold. (Our own.)
use Rattle.std.specs.Prelude.{ℕ, ◌*◌, ◌-◌, List, Option, Some, None, length, slice_get}
use Rattle.hd_pack.specs.Packing.{packed_bytes}
use Rattle.hd_node.specs.declared.batch.Outcome.{Outcome}
use Rattle.hd_node.specs.declared.batch.Outcome.TheVariants.{Expanded, Duplicate, Bounded}

-- the bytes of the states of an outcome's children: each has as many as the state that is expanded
abbrev pub bytes_of : Outcome → ℕ
bytes_of (Expanded e) = length e.children * length (packed_bytes e.state)
bytes_of (Duplicate k by) = 0
bytes_of (Bounded k h) = 0

-- those of an outcome, if there is one
abbrev pub bytes_of_some : Option Outcome → ℕ
bytes_of_some None = 0
bytes_of_some (Some o) = bytes_of o

-- those of the last outcome
abbrev pub last_bytes : List Outcome → ℕ
last_bytes outcomes = bytes_of_some (slice_get outcomes (length outcomes - 1))
