-- Generated plans that wait to be expanded, as contracts see them. (Our own.)
use Rattle.std.specs.Prelude.{ℕ}
use Rattle.hd_task.specs.declared.state.State.{State}
use Rattle.hd_task.specs.declared.task.Task.{Task}
use Rattle.hd_task.specs.declared.plan.Kid.{Kid}
use Rattle.hd_task.specs.Plans.{IsStateOf}

-- a parcel: its task, the successor that names a plan, and the state and cost that the plan is said
-- to lead to
pub record ParcelView : Type 0 where
  pub task : Task
  pub kid : Kid
  pub state : State
  pub cost : ℕ
  -- the state is one of the task
  pub of_task : IsStateOf task state
