-- What computes estimates, as contracts see it. (Our own.)
use Rattle.hd_task.specs.declared.task.Task.{Task}

-- it is of a task
pub record HmaxView : Type 0 where
  pub task : Task
