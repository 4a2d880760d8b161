-- A book that has grown. (Our own.)
use Rattle.std.specs.Prelude.{◌≡◌, ◌≤◌, ℕ, List, ◌++◌, length}
use Rattle.hd_entries.specs.Settling.{BookState, expansions}

-- a later book: its entries name the plans of the earlier one's, and maybe more
pub record Grows (b b' : BookState) : Type 0 where
  pub same_task : b'.task ≡ b.task
  pub more : List (List ℕ)
  pub tail : expansions b' ≡ expansions b ++ more
  pub longer : length b.entries ≤ length b'.entries
