-- The index of a task's actions, as contracts see it. (Our own.)
use Rattle.std.specs.Prelude.{ℕ, List}
use Rattle.hd_task.specs.declared.task.Task.{Task}
use Rattle.hd_successors.specs.declared.watching.WatchedAtoms.{WatchedAtoms}
use Rattle.hd_successors.specs.Watching.{IsWatchedBy}

-- an index: its task, what each action watches, and the actions that are marked, which rise
pub record SuccessorsView : Type 0 where
  pub task : Task
  pub watched : List WatchedAtoms
  pub marked : List ℕ
  -- each action watches what its condition asks for
  pub is_watched : IsWatchedBy task.actions watched
