-- Where the computation of an expression leaves the range. (Our own: PDDL 2.1 has no range.)
use Rattle.std.specs.Prelude.{◌≡◌, ℕ, Bool, true, false, ◌&&◌, ◌⊎◌, List, Option, Some, ℤ}
use Rattle.hd_base.specs.declared.expression.Operand.{Operand}
use Rattle.hd_base.specs.Expression.{Expression, leaf, negate, binary}
use Rattle.hd_base.specs.Numbers.{in_range, fits}
use Rattle.hd_lifted.specs.declared.schema.AppliedSymbol.{AppliedSymbol}
use Rattle.hd_lifted.specs.States.{Values}
use Rattle.hd_lifted.specs.Expressions.{value_of, stays_in_range}
use Rattle.hd_judge.specs.declared.expression.Evaluated.{Evaluated}
use Rattle.hd_judge.specs.declared.expression.Evaluated.TheVariants as outcomes

-- what stands in an expression, without the expression itself, stays in the range
abbrev pub inside_stays : Values → List ℕ → Expression (Operand AppliedSymbol) → Bool
inside_stays v objects (leaf l) = true
inside_stays v objects (negate x) = stays_in_range v objects x
inside_stays v objects (binary o x y) = stays_in_range v objects x && stays_in_range v objects y

-- an expression has this value, which is out of the range, and what stands in it stays
pub record LeavesRange (v : Values) (objects : List ℕ) (e : Expression (Operand AppliedSymbol)) (value : ℤ) : Type 0 where
  pub inside : inside_stays v objects e ≡ true
  pub value_is : value_of v objects e ≡ Some value
  pub out : in_range value ≡ false

-- this is the first subexpression of an expression that is out of the range, with its value: the
-- expression itself, where what stands in it stays; or that of what it is made of, the left before
-- the right
abbrev pub IsDeparture : Values → List ℕ → Expression (Operand AppliedSymbol) → Expression (Operand AppliedSymbol) → ℤ → Type 0
IsDeparture v objects (leaf l) p value = (p ≡ leaf l) × LeavesRange v objects (leaf l) value
IsDeparture v objects (negate x) p value = ((p ≡ negate x) × LeavesRange v objects (negate x) value) ⊎ IsDeparture v objects x p value
IsDeparture v objects (binary o x y) p value =
    ((p ≡ binary o x y) × LeavesRange v objects (binary o x y) value)
    ⊎ (IsDeparture v objects x p value ⊎ ((stays_in_range v objects x ≡ true) × IsDeparture v objects y p value))

-- what the computation of an expression comes to
abbrev pub MeansOutcome : Values → List ℕ → Expression (Operand AppliedSymbol) → Evaluated → Type 0
MeansOutcome v objects e (outcomes.Value x) = (stays_in_range v objects e ≡ true) × (value_of v objects e ≡ x)
MeansOutcome v objects e (outcomes.Departs d) = IsDeparture v objects e d.part.now d.value

-- the same by the expression's value, where nothing inside it departs
abbrev pub IsOutcomeBy : Expression (Operand AppliedSymbol) → Option ℤ → Evaluated → Type 0
IsOutcomeBy e value (outcomes.Value x) = (fits value ≡ true) × (value ≡ x)
IsOutcomeBy e value (outcomes.Departs d) = (d.part.now ≡ e) × (value ≡ Some d.value) × (in_range d.value ≡ false)
