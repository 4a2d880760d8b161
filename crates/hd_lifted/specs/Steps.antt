-- Steps: where an action leads, and at what cost (PDDL 2.1).
use Rattle.std.specs.Prelude.{ℕ, not, ◌&&◌, if◌then◌else◌, List, Option, Some, None, ℤ, pos, ◌+ℤ◌}
use Rattle.hd_lifted.specs.declared.schema.Schema.{Schema}
use Rattle.hd_lifted.specs.declared.task.LiftedTask.{LiftedTask}
use Rattle.hd_lifted.specs.States.{State, initial_state}
use Rattle.hd_base.specs.Values.{of_both}
use Rattle.hd_lifted.specs.Conditions.{holds}
use Rattle.hd_lifted.specs.Effects.{state_after, step_cost, is_negative}

-- where a plan leads: the state after it, and what it has cost, none where an amount had no value
pub record Reached : Type 0 where
  pub state : State
  pub cost : Option ℤ

-- what a plan costs with one more step
abbrev pub cost_after : LiftedTask → Reached → Schema → List ℕ → Option ℤ
cost_after t r a objects = of_both (λ x y. x +ℤ y) r.cost (step_cost t r.state.values a objects)

-- a step: defined where the action's condition holds and its cost is not negative. (That a negative
-- cost is no step is our own.) Where an effect reads a fluent without a value, the step is defined
-- all the same, and the new value, or the cost, is missing
unfoldable pub step : LiftedTask → Reached → Schema → List ℕ → Option Reached
step t r a objects =
    if holds r.state objects a.condition && not (is_negative (step_cost t r.state.values a objects))
    then Some (record { state = state_after r.state a objects; cost = cost_after t r a objects })
    else None

-- where the empty plan leads
unfoldable pub start : LiftedTask → Reached
start t = record { state = initial_state t; cost = Some (pos 0) }
