-- Expansions, as contracts see them. (HDA*, Kishimoto, Fukunaga and Botea 2013.)
use Rattle.std.specs.Prelude.{◌≡◌, ℕ, List, Some}
use Rattle.hd_task.specs.declared.state.State.{State}
use Rattle.hd_task.specs.declared.task.Task.{Task}
use Rattle.hd_task.specs.declared.plan.Kid.{Kid}
use Rattle.hd_task.specs.declared.departure.DepartsBy.{DepartsBy}
use Rattle.hd_task.specs.declared.applying.GoalTest.{GoalTest}
use Rattle.hd_task.specs.Plans.{IsStateOf, node}
use Rattle.hd_task.specs.Applying.{goal_of}
use Rattle.hd_task.specs.Expansions.{departing_at}
use Rattle.hd_node.specs.Children.{ChildView, children_at}

-- an expansion: its task, the successor that names the plan, where that is said to lead, and what
-- is found there
pub record ExpansionView : Type 0 where
  pub task : Task
  pub kid : Kid
  pub state : State
  pub cost : ℕ
  pub children : List ChildView
  pub departures : List DepartsBy
  pub goal : GoalTest
  -- the state is one of the task
  pub of_task : IsStateOf task state
  -- the children are exactly those of the applicable actions
  pub all_children : children ≡ children_at task (node state cost)
  -- the departures are exactly those at the state and cost
  pub all_departures : departures ≡ departing_at task (Some (node state cost))
  -- the goal's test is that of the state
  pub is_goal : goal ≡ goal_of task state
