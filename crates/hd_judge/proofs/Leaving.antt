-- An expression with a departure does not stay in the range.
use Rattle.std.proofs.Common.{◌≡◌, ℕ, Bool, true, false, List, ◌&&◌, Some, inl, inr, refl, ap, ◌∙◌, true≢false}
use Rattle.std.specs.Prelude.{ℤ}
use Rattle.hd_base.specs.declared.expression.Operand.{Operand}
use Rattle.hd_base.specs.Expression.{Expression, leaf, negate, binary}
use Rattle.hd_base.specs.Numbers.{in_range, fits}
use Rattle.hd_lifted.specs.declared.schema.AppliedSymbol.{AppliedSymbol}
use Rattle.hd_lifted.specs.declared.schema.Comparison.{Comparison}
use Rattle.hd_lifted.specs.States.{Values}
use Rattle.hd_lifted.specs.Expressions.{value_of, stays_in_range}
use Rattle.hd_lifted.specs.Conditions.{comparison_stays}
use Rattle.hd_judge.specs.Departures.{IsDeparture}

pub and_false : (a b : Bool) → b ≡ false → (a && b) ≡ false
and_false false b is = refl
and_false true b is = is

pub false_and : (a b : Bool) → a ≡ false → (a && b) ≡ false
false_and false b is = refl
false_and true b is = absurd (true≢false is)

-- what has a value out of the range doesn't stay
out_stays : (v : Values) (objects : List ℕ) (e : Expression (Operand AppliedSymbol)) (z : ℤ) → value_of v objects e ≡ Some z → in_range z ≡ false
    → stays_in_range v objects e ≡ false
out_stays v objects (leaf l) z is out = ap fits is ∙ out
out_stays v objects (negate x) z is out = and_false (stays_in_range v objects x) _ (ap fits is ∙ out)
out_stays v objects (binary o x y) z is out = and_false (stays_in_range v objects x && stays_in_range v objects y) _ (ap fits is ∙ out)

-- nor does what it is a part of
pub departs-stays : (v : Values) (objects : List ℕ) (e p : Expression (Operand AppliedSymbol)) (z : ℤ) → IsDeparture v objects e p z
    → stays_in_range v objects e ≡ false
departs-stays v objects (leaf l) p z d = out_stays v objects (leaf l) z d.1.value_is d.1.out
departs-stays v objects (negate x) p z d =
    elim d [
      | inl own ↦ out_stays v objects (negate x) z own.1.value_is own.1.out
      | inr inner ↦ false_and (stays_in_range v objects x) _ (departs-stays v objects x p z inner)
    ]
departs-stays v objects (binary o x y) p z d =
    elim d [
      | inl own ↦ out_stays v objects (binary o x y) z own.1.value_is own.1.out
      | inr inner ↦
          false_and (stays_in_range v objects x && stays_in_range v objects y) _
          (elim inner [
            | inl left ↦ false_and (stays_in_range v objects x) (stays_in_range v objects y) (departs-stays v objects x p z left)
            | inr right ↦ and_false (stays_in_range v objects x) (stays_in_range v objects y) (departs-stays v objects y p z right.1)
          ])
    ]

pub departs_left : (v : Values) (objects : List ℕ) (c : Comparison) (p : Expression (Operand AppliedSymbol)) (z : ℤ) → IsDeparture v objects c.left p z
    → comparison_stays v objects c ≡ false
departs_left v objects c p z d = false_and (stays_in_range v objects c.left) (stays_in_range v objects c.right) (departs-stays v objects c.left p z d)

pub departs_right : (v : Values) (objects : List ℕ) (c : Comparison) (p : Expression (Operand AppliedSymbol)) (z : ℤ) → IsDeparture v objects c.right p z
    → comparison_stays v objects c ≡ false
departs_right v objects c p z d = and_false (stays_in_range v objects c.left) (stays_in_range v objects c.right) (departs-stays v objects c.right p z d)
