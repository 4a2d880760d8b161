-- The value of a numeric expression (PDDL 2.1), by the values of its leaves, and whether it stays
-- in the range.
use Rattle.std.specs.Prelude.{Bool, ◌&&◌, Option, Some, None, ℤ, neg_ℤ, option_map}
use Rattle.hd_base.specs.Expression.{Expression, leaf, negate, binary}
use Rattle.hd_base.specs.Numbers.{result_of, in_range, fits}

-- ---- where each leaf has a value

-- the value of an expression, in exact integers: no number is too large
abbrev pub value_by : {L : Type 0} → (L → ℤ) → Expression L → ℤ
value_by v (leaf l) = v l
value_by v (negate x) = neg_ℤ (value_by v x)
value_by v (binary o x y) = result_of o (value_by v x) (value_by v y)

-- the expression's value is in the range, and so is that of each of its subexpressions
abbrev pub stays_by : {L : Type 0} → (L → ℤ) → Expression L → Bool
stays_by v (leaf l) = in_range (v l)
stays_by v (negate x) = stays_by v x && in_range (neg_ℤ (value_by v x))
stays_by v (binary o x y) = (stays_by v x && stays_by v y) && in_range (result_of o (value_by v x) (value_by v y))

-- ---- where a leaf may have none

-- what a function makes of two values, none where one of them is missing
abbrev pub of_both : (ℤ → ℤ → ℤ) → Option ℤ → Option ℤ → Option ℤ
of_both f None y = None
of_both f (Some x) None = None
of_both f (Some x) (Some y) = Some (f x y)

-- the value of an expression, in exact integers; it has none where a leaf of it has none
abbrev pub value_if : {L : Type 0} → (L → Option ℤ) → Expression L → Option ℤ
value_if v (leaf l) = v l
value_if v (negate x) = option_map neg_ℤ (value_if v x)
value_if v (binary o x y) = of_both (result_of o) (value_if v x) (value_if v y)

-- the expression's value is in the range, and so is that of each of its subexpressions, of those
-- that have one
abbrev pub stays_if : {L : Type 0} → (L → Option ℤ) → Expression L → Bool
stays_if v (leaf l) = fits (v l)
stays_if v (negate x) = stays_if v x && fits (option_map neg_ℤ (value_if v x))
stays_if v (binary o x y) =
    (stays_if v x && stays_if v y) && fits (of_both (result_of o) (value_if v x) (value_if v y))
