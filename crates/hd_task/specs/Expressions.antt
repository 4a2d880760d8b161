-- The value of a numeric expression of a task (PDDL 2.1), and whether it stays in the range.
use Rattle.std.specs.Prelude.{ℕ, Bool, List, slice_index_or, ℤ, pos}
use Rattle.hd_base.specs.declared.expression.Operand.{Operand}
use Rattle.hd_base.specs.declared.expression.Operand.TheVariants.{Number, Fluent}
use Rattle.hd_base.specs.Expression.{Expression}
use Rattle.hd_base.specs.Values.{value_by, stays_by}

-- an expression over the fluents of a task, by their numbers
abbrev pub Expr : Type 0
Expr = Expression (Operand ℕ)

-- the value of a fluent, by its number
abbrev pub fluent_of : List ℤ → ℕ → ℤ
fluent_of values j = slice_index_or values j (pos 0)

-- the value of a number or a fluent
abbrev pub leaf_value : List ℤ → Operand ℕ → ℤ
leaf_value f (Number v) = v
leaf_value f (Fluent j) = fluent_of f j

-- the value of an expression, in exact integers: no number is too large
abbrev pub value_of : List ℤ → Expr → ℤ
value_of f e = value_by (leaf_value f) e

-- the expression's value is in the range, and so is that of each of its subexpressions
abbrev pub stays_in_range : List ℤ → Expr → Bool
stays_in_range f e = stays_by (leaf_value f) e
