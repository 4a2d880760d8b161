-- How a checked task uses the metric's function, of which only increases are a cost. (Our own.)
use Rattle.std.specs.Prelude.{◌≡◌, ◌≢◌, ℕ, ◌==◌, false, length, slice_get}
use Rattle.std.specs.List.{AllByRecursion}
use Rattle.std.specs.Option.{IsSomeAnd}
use Rattle.hd_base.specs.declared.expression.Operand.{Operand}
use Rattle.hd_base.specs.declared.expression.Operand.TheVariants.{Number, Fluent}
use Rattle.hd_base.specs.Expression.{Expression, leaf, negate, binary}
use Rattle.hd_lifted.specs.declared.schema.AppliedSymbol.{AppliedSymbol}
use Rattle.hd_lifted.specs.declared.schema.Comparison.{Comparison}
use Rattle.hd_lifted.specs.declared.schema.NumericEffect.{NumericEffect}
use Rattle.hd_lifted.specs.declared.schema.Schema.{Schema}
use Rattle.hd_lifted.specs.declared.task.InitialValue.{InitialValue}
use Rattle.hd_lifted.specs.declared.task.LiftedTask.{LiftedTask}
use Rattle.hd_lifted.specs.declared.task.Signature.{Signature}
use Rattle.hd_lifted.specs.Effects.{is_cost}

-- an expression reads no fluent of a function
abbrev pub IsFreeOf : ℕ → Expression (Operand AppliedSymbol) → Type 0
IsFreeOf f (leaf (Number v)) = Unit {0}
IsFreeOf f (leaf (Fluent a)) = a.symbol ≢ f
IsFreeOf f (negate x) = IsFreeOf f x
IsFreeOf f (binary o x y) = IsFreeOf f x × IsFreeOf f y

-- a comparison doesn't
abbrev pub ComparesWithout : ℕ → Comparison → Type 0
ComparesWithout f c = IsFreeOf f c.left × IsFreeOf f c.right

-- no effect of a schema is a cost
abbrev pub HasNoCost : Schema → Type 0
HasNoCost a = AllByRecursion (λ (e : NumericEffect). is_cost e.change ≡ false) a.effects

-- an effect is a cost exactly where it changes the function, and its amount reads no fluent of the
-- function
pub record IsCostOf (f : ℕ) (e : NumericEffect) : Type 0 where
  pub cost : is_cost e.change ≡ (e.fluent.symbol == f)
  pub amount : IsFreeOf f e.amount

-- so is each effect of a schema, and its comparisons read no fluent of the function
pub record CountsCost (f : ℕ) (a : Schema) : Type 0 where
  pub comparisons : AllByRecursion (ComparesWithout f) a.condition.comparisons
  pub effects : AllByRecursion (IsCostOf f) a.effects

-- a function without parameters, which only costs change, and which no comparison, no amount and no
-- first value has
pub record IsCostFunction (t : LiftedTask) (f : ℕ) : Type 0 where
  pub declared : IsSomeAnd (slice_get t.functions f) (λ (s : Signature). length s.parameters ≡ 0)
  pub schemas : AllByRecursion (CountsCost f) t.schemas
  pub goal : AllByRecursion (ComparesWithout f) t.goal.comparisons
  pub values : AllByRecursion (λ (v : InitialValue). v.fluent.symbol ≢ f) t.values
