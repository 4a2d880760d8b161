-- When a number leaves the range at a plan. (Our own: PDDL 2.1 has no range.)
use Rattle.std.specs.Prelude.{ℕ, Bool, false, not, ◌&&◌, ◌||◌, Option, Some, None, slice_get}
use Rattle.hd_base.specs.Numbers.{cost_in_range}
use Rattle.hd_task.specs.declared.action.Action.{Action}
use Rattle.hd_task.specs.declared.task.Task.{Task}
use Rattle.hd_task.specs.Conditions.{holds, condition_departs}
use Rattle.hd_task.specs.Effects.{effects_stay}
use Rattle.hd_task.specs.Plans.{Node, step}

-- the goal departs where its conditions on atoms hold and a subexpression of its comparisons is out
-- of the range
unfoldable pub goal_departs : Task → Node → Bool
goal_departs t r = condition_departs r.state t.goal

-- the cost of the plan with one more step is there, and in the range
abbrev pub cost_stays : Option Node → Bool
cost_stays None = false
cost_stays (Some r) = cost_in_range r.cost

-- an action departs where its condition does, or if its condition holds and a subexpression of
-- an effect, a new value or the new plan's cost is out of the range
abbrev pub departs_by : Task → Node → Option Action → Bool
departs_by t r None = false
departs_by t r (Some a) =
    condition_departs r.state a.condition
    || (holds r.state a.condition && not (effects_stay r.state a && cost_stays (step t r a)))

-- the action with this number departs
unfoldable pub action_departs : Task → Node → ℕ → Bool
action_departs t r n = departs_by t r (slice_get t.actions n)
