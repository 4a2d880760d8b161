-- Which amounts are the same in each state. (Our own.)
use Rattle.std.specs.Prelude.{ℕ, Bool, true, false, not, ◌&&◌, ◌==◌}
use Rattle.std.specs.List.{list_any}
use Rattle.hd_base.specs.declared.expression.Operand.{Operand}
use Rattle.hd_base.specs.declared.expression.Operand.TheVariants.{Number, Fluent}
use Rattle.hd_base.specs.Expression.{Expression, leaf, negate, binary}
use Rattle.hd_lifted.specs.declared.schema.AppliedSymbol.{AppliedSymbol}
use Rattle.hd_lifted.specs.declared.schema.NumericEffect.{NumericEffect}
use Rattle.hd_lifted.specs.declared.schema.Schema.{Schema}
use Rattle.hd_lifted.specs.declared.task.LiftedTask.{LiftedTask}
use Rattle.hd_lifted.specs.Effects.{is_cost}

-- an effect changes fluents of the function; a cost changes none
abbrev pub changes_function : ℕ → NumericEffect → Bool
changes_function f e = not (is_cost e.change) && (e.fluent.symbol == f)

-- some effect of the schema changes fluents of the function
abbrev pub is_changed_by : ℕ → Schema → Bool
is_changed_by f a = list_any (changes_function f) a.effects

-- some schema changes fluents of the function
unfoldable pub is_changed : LiftedTask → ℕ → Bool
is_changed t f = list_any (is_changed_by f) t.schemas

-- an amount is constant where it is a number, or a fluent of a function that no schema changes;
-- every other is dependent
abbrev pub is_constant : LiftedTask → Expression (Operand AppliedSymbol) → Bool
is_constant t (leaf (Number v)) = true
is_constant t (leaf (Fluent a)) = not (is_changed t a.symbol)
is_constant t (negate x) = false
is_constant t (binary o x y) = false
