-- The answers of `goal` and `apply`, by the definitions of conditions, effects and departures.
use Rattle.std.specs.Prelude.{ℕ, ◌+◌, Bool, true, false, not, ◌&&◌, ◌||◌, if◌then◌else◌, Option, Some, None, is_some, slice_get, length}
use Rattle.hd_base.specs.Numbers.{cost_in_range}
use Rattle.hd_task.specs.declared.state.State.{State}
use Rattle.hd_task.specs.declared.condition.Condition.{Condition}
use Rattle.hd_task.specs.declared.action.Action.{Action}
use Rattle.hd_task.specs.declared.task.Task.{Task}
use Rattle.hd_task.specs.declared.applying.GoalTest.{GoalTest}
use Rattle.hd_task.specs.declared.applying.GoalTest.TheVariants as Test
use Rattle.hd_task.specs.declared.applying.Applied.{Applied}
use Rattle.hd_task.specs.declared.applying.Applied.TheVariants as Answer
use Rattle.hd_task.specs.WellFormed.{action_fits}
use Rattle.hd_task.specs.Conditions.{holds, condition_departs}
use Rattle.hd_task.specs.Effects.{state_after, step_cost, effects_stay}

-- the test of a condition: a departure is reported before the answer
unfoldable pub test_of : State → Condition → GoalTest
test_of s c = if condition_departs s c then Test.Departs else if holds s c then Test.Yes else Test.No

-- what `goal` answers
abbrev pub goal_of : Task → State → GoalTest
goal_of t s = test_of s t.goal

-- an action fits the task: what it adds, reads and changes is the task's
abbrev pub fits_task : Task → Action → Bool
fits_task t a = action_fits (length t.atoms) (length t.fluents) a

-- an action departs in a state, the sum of a plan's cost aside
unfoldable pub departs_aside : Task → State → Action → Bool
departs_aside t s a =
    condition_departs s a.condition || (holds s a.condition && not (effects_stay s a && is_some (step_cost t s a)))

-- the next state, with the cost of the step
abbrev pub next_of : State → Option ℕ → Applied
next_of s None = Answer.Departs
next_of s (Some c) = Answer.Next s c

-- what an action does in a state
unfoldable pub applied_of : Task → State → Action → Applied
applied_of t s a =
    if departs_aside t s a then Answer.Departs
    else if holds s a.condition then next_of (state_after t s a) (step_cost t s a)
    else Answer.No

-- an action that may not be there
abbrev pub applied_by : Task → State → Option Action → Applied
applied_by t s None = Answer.No
applied_by t s (Some a) = applied_of t s a

-- what `apply` answers, by the action's number
abbrev pub applied_at : Task → State → ℕ → Applied
applied_at t s n = applied_by t s (slice_get t.actions n)

-- ---- what the answers decide at a plan of some cost

-- the plan goes on by the action
abbrev pub goes_on : ℕ → Applied → Bool
goes_on cost Answer.No = false
goes_on cost (Answer.Next s c) = cost_in_range (cost + c)
goes_on cost Answer.Departs = false

-- the action departs there
abbrev pub leaves_range : ℕ → Applied → Bool
leaves_range cost Answer.No = false
leaves_range cost (Answer.Next s c) = not (cost_in_range (cost + c))
leaves_range cost Answer.Departs = true

-- the goal's test says that it holds
abbrev pub says_yes : GoalTest → Bool
says_yes Test.Yes = true
says_yes Test.No = false
says_yes Test.Departs = false

-- the goal's test says that it departs
abbrev pub says_departs : GoalTest → Bool
says_departs Test.Yes = false
says_departs Test.No = false
says_departs Test.Departs = true
