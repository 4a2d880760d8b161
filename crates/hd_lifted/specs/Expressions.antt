-- The value of a numeric expression of a lifted task (PDDL 2.1), where the parameters stand for a
-- list of objects.
use Rattle.std.specs.Prelude.{ℕ, Bool, List, Option, Some, ℤ}
use Rattle.hd_base.specs.declared.expression.Operand.{Operand}
use Rattle.hd_base.specs.declared.expression.Operand.TheVariants.{Number, Fluent}
use Rattle.hd_base.specs.Expression.{Expression}
use Rattle.hd_base.specs.Values.{value_if, stays_if}
use Rattle.hd_lifted.specs.declared.schema.AppliedSymbol.{AppliedSymbol}
use Rattle.hd_lifted.specs.States.{Values, ground_form_of}

-- the value of a leaf: a fluent may have none
abbrev pub leaf_value : Values → List ℕ → Operand AppliedSymbol → Option ℤ
leaf_value v objects (Number n) = Some n
leaf_value v objects (Fluent f) = v (ground_form_of objects f)

-- the value of an expression, in exact integers; it has none where it reads a fluent without a
-- value
abbrev pub value_of : Values → List ℕ → Expression (Operand AppliedSymbol) → Option ℤ
value_of v objects e = value_if (leaf_value v objects) e

-- the expression's value is in the range, and so is that of each of its subexpressions, of those
-- that have one
abbrev pub stays_in_range : Values → List ℕ → Expression (Operand AppliedSymbol) → Bool
stays_in_range v objects e = stays_if (leaf_value v objects) e
