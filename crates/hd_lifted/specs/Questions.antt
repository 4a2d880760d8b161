-- What is asked of a step and of a plan's end besides what PDDL 2.1 asks: first values, and costs
-- that are the same in each state. (Our own.)
use Rattle.std.specs.Prelude.{ℕ, Bool, not, ◌&&◌, List, filter, Option, is_some, find}
use Rattle.std.specs.List.{list_all}
use Rattle.hd_lifted.specs.declared.schema.Ground.{Ground}
use Rattle.hd_lifted.specs.declared.schema.NumericEffect.{NumericEffect}
use Rattle.hd_lifted.specs.declared.schema.Schema.{Schema}
use Rattle.hd_lifted.specs.declared.task.LiftedTask.{LiftedTask}
use Rattle.hd_lifted.specs.States.{first_value}
use Rattle.hd_lifted.specs.Effects.{is_cost, sum_of_costs, is_negative}
use Rattle.hd_lifted.specs.Amounts.{is_constant}

-- a fluent has a first value
abbrev pub is_defined : LiftedTask → Ground → Bool
is_defined t g = is_some (first_value t.values g)

-- a fluent has no first value
abbrev pub is_undefined : LiftedTask → Ground → Bool
is_undefined t g = not (is_defined t g)

-- the first of these fluents that has no first value, if there is one
abbrev pub first_undefined : LiftedTask → List Ground → Option Ground
first_undefined t fluents = find (is_undefined t) fluents

-- an effect is a part of the cost
abbrev pub is_paid : NumericEffect → Bool
is_paid e = is_cost e.change

-- all amounts of a schema's cost are constant
abbrev pub has_constant_costs : LiftedTask → Schema → Bool
has_constant_costs t a = list_all (λ (e : NumericEffect). is_constant t e.amount) (filter is_paid a.effects)

-- a schema with objects costs the same in each state, and less than 0. The metric need not be
-- looked at: without one no effect of a checked task is a cost, so that there are no amounts, and
-- their sum is 0
abbrev pub costs_negative : LiftedTask → Schema → List ℕ → Bool
costs_negative t a objects = has_constant_costs t a && is_negative (sum_of_costs (first_value t.values) a objects)
