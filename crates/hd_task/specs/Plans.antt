-- Steps and plans: execution, cost and validity (PDDL 2.1). A plan is a list of actions, one after
-- the other, named by their numbers; it has no times. (The profile is our own.)
use Rattle.std.specs.Prelude.{◌≡◌, ℕ, ◌+◌, IsTrue, if◌then◌else◌, List, [], ◌∷◌, Option, Some, None, length, slice_get, option_and_then}
use Rattle.hd_task.specs.declared.state.State.{State}
use Rattle.hd_task.specs.declared.action.Action.{Action}
use Rattle.hd_task.specs.declared.task.Task.{Task}
use Rattle.hd_task.specs.Conditions.{holds}
use Rattle.hd_task.specs.Effects.{state_after, step_cost}

-- a state of a task has a bit for each of its atoms and a value for each of its fluents
pub record IsStateOf (t : Task) (s : State) : Type 0 where
  pub atoms : length s.atoms ≡ length t.atoms
  pub fluents : length s.fluents ≡ length t.fluents

-- where a plan leads: the state after it, and what it has cost
pub record Node : Type 0 where
  pub state : State
  pub cost : ℕ

-- the node of a state and a cost
abbrev pub node : State → ℕ → Node
node s cost = record { state = s; cost = cost }

-- the node after a step that costs so much
abbrev pub after_step : Task → Node → Action → Option ℕ → Option Node
after_step t r a None = None
after_step t r a (Some c) = Some (record { state = state_after t r.state a; cost = r.cost + c })

-- a step: defined where the action's condition holds and its cost is not negative
unfoldable pub step : Task → Node → Action → Option Node
step t r a = if holds r.state a.condition then after_step t r a (step_cost t r.state a) else None

-- a step of an action that may not be there
abbrev pub step_of : Task → Node → Option Action → Option Node
step_of t r None = None
step_of t r (Some a) = step t r a

-- a step of the action with this number
unfoldable pub step_by : Task → Node → ℕ → Option Node
step_by t r n = step_of t r (slice_get t.actions n)

-- the steps of a list of actions, one after the other, from a node on
abbrev pub exec_from : Task → Option Node → List ℕ → Option Node
exec_from t r [] = r
exec_from t r (n ∷ p) = exec_from t (option_and_then (λ r. step_by t r n) r) p

-- where the empty plan leads
unfoldable pub start : Task → Node
start t = record { state = t.initial; cost = 0 }

-- execution: where a plan leads, if each of its steps is defined
abbrev pub exec : Task → List ℕ → Option Node
exec t p = exec_from t (Some (start t)) p

-- validity: each step is defined, and the goal holds at the end. The plan costs what its steps add
-- up to
pub record IsValidAt (t : Task) (p : List ℕ) (cost : ℕ) : Type 0 where
  pub end : Node
  pub executes : exec t p ≡ Some end
  pub meets_goal : IsTrue (holds end.state t.goal)
  pub costs : end.cost ≡ cost
