-- What an expansion finds: where each applicable action leads. (HDA*, Kishimoto, Fukunaga and Botea
-- 2013.)
use Rattle.std.specs.Prelude.{ℕ, if◌then◌else◌, List, [], ◌∷◌, length, Option, Some, None}
use Rattle.std.specs.List.{filter_map}
use Rattle.hd_task.specs.declared.state.State.{State}
use Rattle.hd_task.specs.declared.task.Task.{Task}
use Rattle.hd_task.specs.declared.departure.DepartsBy.{DepartsBy}
use Rattle.hd_task.specs.declared.departure.DepartsBy.TheVariants.{Goal, Action}
use Rattle.hd_task.specs.Conditions.{condition_departs}
use Rattle.hd_task.specs.Effects.{numbers_below}
use Rattle.hd_task.specs.Plans.{Node, step_by}
use Rattle.hd_task.specs.Departures.{action_departs}
use Rattle.hd_task.specs.Expansions.{is_applicable}

-- where an applicable action leads from an expanded plan: the action's number, the state after it,
-- and the plan's cost with it
pub record ChildView : Type 0 where
  pub action : ℕ
  pub state : State
  pub cost : ℕ

-- the child that a step leads to
abbrev pub child_to : ℕ → Option Node → Option ChildView
child_to n None = None
child_to n (Some r) = Some (record { action = n; state = r.state; cost = r.cost })

-- the child of an action, where that is applicable
abbrev pub child_at : Task → Node → ℕ → Option ChildView
child_at t r n = if is_applicable t (Some r) n then child_to n (step_by t r n) else None

-- the children of a node, in the order of the actions
unfoldable pub children_at : Task → Node → List ChildView
children_at t r = filter_map (child_at t r) (numbers_below (length t.actions))

-- that the goal departs at a node, where it does
abbrev pub departing_by_goal : Task → State → List DepartsBy
departing_by_goal t s = if condition_departs s t.goal then Goal ∷ [] else []

-- that an action departs at a node, where it does
abbrev pub departing_by : Task → Node → ℕ → List DepartsBy
departing_by t r n = if action_departs t r n then Action n ∷ [] else []
