-- What the tables of a validation say, each for every ground form. (Our own.)
use Rattle.std.specs.Prelude.{◌≡◌, ℕ, Bool, false, Some, unwrap_or, pos, nat_eq}
use Rattle.std.specs.List.{list_any}
use Rattle.std.specs.Map.{lookup}
use Rattle.hd_lifted.specs.declared.schema.Ground.{Ground}
use Rattle.hd_lifted.specs.declared.task.LiftedTask.{LiftedTask}
use Rattle.hd_lifted.specs.States.{Values, State, same, first_value}
use Rattle.hd_lifted.specs.Steps.{Reached}
use Rattle.hd_lifted.specs.Amounts.{is_changed}
use Rattle.hd_judge.specs.declared.table.Truths.{Truths}
use Rattle.hd_judge.specs.declared.table.Numbers.{Numbers}
use Rattle.hd_judge.specs.declared.table.Place.{Place}
use Rattle.hd_judge.specs.declared.changed.Changed.{Changed}

-- an atom is true where the table says so
abbrev pub truth_in : Truths → Ground → Bool
truth_in table g = unwrap_or (lookup (same g) table.truths.entries) false

-- the value of a fluent by the table
abbrev pub value_in : Numbers → Values
value_in table g = lookup (same g) table.numbers.entries

-- the state that the tables hold
abbrev pub state_in : Place → State
state_in place = record { atoms = truth_in place.truths; values = value_in place.numbers }

-- where a plan leads, by the tables
abbrev pub reached_in : Place → Reached
reached_in place = record { state = state_in place; cost = Some (pos place.cost) }

-- a function is in the table of those that change
abbrev pub has_function : Changed → ℕ → Bool
has_function c f = list_any (nat_eq f) c.functions.keys

-- the tables are those of a task
pub record AreTablesOf (t : LiftedTask) (changed : Changed) (values : Numbers) : Type 0 where
  pub changed_are : (f : ℕ) → has_function changed f ≡ is_changed t f
  pub values_are : (g : Ground) → value_in values g ≡ first_value t.values g
