-- How outcomes are named before and after their batch is numbered. (Our own.)
use Rattle.std.specs.Prelude.{ℕ, ◌+◌, ◌-◌, nat_lt, if◌then◌else◌, List, length, slice_index}
use Rattle.hd_node.specs.declared.batch.By.{By}
use Rattle.hd_node.specs.declared.batch.By.TheVariants.{Entry, Here}
use Rattle.hd_closed.specs.Closed.{Closed}

-- what names an outcome, once the batch that was given last is numbered from `first` on: an outcome
-- of that batch is the entry with as many of the batch's entries before it as `given` has at its
-- place; the others count from the first outcome after the batch
abbrev pub numbered : ℕ → List ℕ → By → By
numbered first given (Entry n) = Entry n
numbered first given (Here i) = if nat_lt i (length given) then Entry (first + slice_index given i) else Here (i - length given)

-- an expansion, once the batch that was given last is numbered from `first` on
abbrev pub closed_numbered : ℕ → List ℕ → Closed → Closed
closed_numbered first given c = record { by = numbered first given c.by; state = c.state; cost = c.cost }
