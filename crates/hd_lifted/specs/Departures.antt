-- When a number leaves the range at a plan. (Our own: PDDL 2.1 has no range.)
use Rattle.std.specs.Prelude.{ℕ, Bool, false, not, ◌&&◌, ◌||◌, List, [], Option, Some, None, slice_get}
use Rattle.hd_lifted.specs.declared.schema.Schema.{Schema}
use Rattle.hd_lifted.specs.declared.task.LiftedTask.{LiftedTask}
use Rattle.hd_base.specs.Numbers.{fits}
use Rattle.hd_lifted.specs.Conditions.{holds, condition_departs}
use Rattle.hd_lifted.specs.Effects.{effects_stay}
use Rattle.hd_lifted.specs.Steps.{Reached, step}
use Rattle.hd_lifted.specs.declared.instance.Instance.{Instance}

-- the goal departs where its conditions on atoms and objects hold and a subexpression of its
-- comparisons is out of the range
unfoldable pub goal_departs : LiftedTask → Reached → Bool
goal_departs t r = condition_departs r.state [] t.goal

-- the plan with one more step is there, and its cost in the range; a cost that is missing is not
-- out of it
abbrev pub cost_stays : Option Reached → Bool
cost_stays None = false
cost_stays (Some r) = fits r.cost

-- a schema with objects departs where its condition does, or if its condition holds and its cost
-- is negative, or a subexpression of an effect, a new value or the new plan's cost is out of the
-- range
abbrev pub departs_by : LiftedTask → Reached → Option Schema → List ℕ → Bool
departs_by t r None objects = false
departs_by t r (Some a) objects =
    condition_departs r.state objects a.condition
    || (holds r.state objects a.condition && not (effects_stay r.state.values a objects && cost_stays (step t r a objects)))

-- an instance departs
unfoldable pub instance_departs : LiftedTask → Reached → Instance → Bool
instance_departs t r i = departs_by t r (slice_get t.schemas i.schema) i.objects
