-- What a batch releases once it is committed. (Our own.)
use Rattle.std.specs.Prelude.{ℕ, ◌+◌, ◌<◌, ◌^◌, List, length}
use Rattle.std.specs.List.{AllByRecursion}
use Rattle.hd_task.specs.declared.task.Task.{Task}
use Rattle.hd_node.specs.declared.batch.Outcome.{Outcome}
use Rattle.hd_entries.specs.Settling.{IsOutcomeOfTask}
use Rattle.hd_entries.specs.Growing.{successor_count}
use Rattle.hd_entries.specs.Holding.{Released}

-- successors that are released, each with where it leads, and the task that they are of
pub record ParcelsView : Type 0 where
  pub task : Task
  pub kids : List Released

-- the successors of outcomes of a task, whose first entry has this number, can be made parcels
pub record CanRelease (t : Task) (first : ℕ) (outcomes : List Outcome) : Type 0 where
  pub of_task : AllByRecursion (IsOutcomeOfTask t) outcomes
  pub numbered : first + length outcomes < 2 ^ 64
  pub fits : successor_count outcomes < 2 ^ 64
