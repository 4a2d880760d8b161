-- The answers of `step`: what happens at a node by an action, with the plan's cost. (Our own.)
use Rattle.std.specs.Prelude.{◌≡◌, ℕ, Bool, true, false, if◌then◌else◌, Option, Some, None}
use Rattle.hd_task.specs.declared.state.State.{State}
use Rattle.hd_task.specs.declared.task.Task.{Task}
use Rattle.hd_task.specs.declared.stepping.Reached.{Reached}
use Rattle.hd_task.specs.declared.stepping.Reached.TheVariants.{No, Next, Departs}
use Rattle.hd_task.specs.Plans.{IsStateOf, Node, node, step_by}
use Rattle.hd_task.specs.Departures.{action_departs}
use Rattle.hd_task.specs.Expansions.{is_applicable}

-- the node that a step leads to, if it leads anywhere
abbrev pub reached_by : Option Node → Reached
reached_by None = No
reached_by (Some r) = Next r.state r.cost

-- what `step` answers, by the action's number: a departure is reported before the step
unfoldable pub step_at : Task → Node → ℕ → Reached
step_at t r n = if action_departs t r n then Departs else reached_by (step_by t r n)

-- the plan goes on
abbrev pub is_step_next : Reached → Bool
is_step_next No = false
is_step_next (Next s cost) = true
is_step_next Departs = false

-- a number leaves the range
abbrev pub is_departure : Reached → Bool
is_departure No = false
is_departure (Next s cost) = false
is_departure Departs = true

-- what an answer of `step` says: the plan goes on exactly where the action is applicable, and
-- departs exactly where the action does; where it goes on, the step leads to the answer's state and
-- cost, and the state is one of the task
pub record IsStepAnswer (t : Task) (r : Node) (n : ℕ) (answer : Reached) : Type 0 where
  pub applicable : is_step_next answer ≡ is_applicable t (Some r) n
  pub departs : is_departure answer ≡ action_departs t r n
  pub leads : (s : State) (cost : ℕ) → answer ≡ Next s cost → step_by t r n ≡ Some (node s cost)
  pub next_of_task : (s : State) (cost : ℕ) → answer ≡ Next s cost → IsStateOf t s
