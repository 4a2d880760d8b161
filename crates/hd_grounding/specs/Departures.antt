-- Where a plan leads, nothing leaves the range, or something does: in a task, and in its domain.
-- (Our own.)
use Rattle.std.specs.Prelude.{◌≡◌, ℕ, true, false, List, Some}
use Rattle.hd_lifted.specs.declared.instance.Instance.{Instance}
use Rattle.hd_lifted.specs.declared.task.LiftedTask.{LiftedTask}
use Rattle.hd_lifted.specs.Plans.{IsInstance, exec}
use Rattle.hd_lifted.specs.Steps.{Reached}
use Rattle.hd_lifted.specs.Departures as ranges
use Rattle.hd_task.specs.declared.task.Task.{Task}
use Rattle.hd_task.specs.Plans.{Node}
use Rattle.hd_task.specs.Departures.{action_departs, goal_departs}

-- at a node of a task no action departs, and the goal doesn't
pub record NoActionDeparts (u : Task) (m : Node) : Type 0 where
  pub actions : (n : ℕ) → action_departs u m n ≡ false
  pub goal : goal_departs u m ≡ false

-- at what is reached in a domain no instance departs, whether it is kept or not, and the goal
-- doesn't
pub record NoInstanceDeparts (t : LiftedTask) (r : Reached) : Type 0 where
  pub instances : (i : Instance) → IsInstance t i → ranges.instance_departs t r i ≡ false
  pub goal : ranges.goal_departs t r ≡ false

-- a plan is executed in the domain, and where it leads an instance departs
pub record InstanceDepartsAt (t : LiftedTask) (q : List Instance) (i : Instance) : Type 0 where
  pub end : Reached
  pub executes : exec t q ≡ Some end
  pub departs : ranges.instance_departs t end i ≡ true

-- the same of the goal
pub record GoalDepartsAt (t : LiftedTask) (q : List Instance) : Type 0 where
  pub end : Reached
  pub executes : exec t q ≡ Some end
  pub departs : ranges.goal_departs t end ≡ true
