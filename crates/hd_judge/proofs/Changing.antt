-- New values, effect by effect.
use Rattle.std.proofs.Common.{◌≡◌, ℕ, ◌+◌, ◌≤◌, Bool, true, false, not, ◌&&◌, refl, ap₂, subst, List, Option, Some, None, sym, ap, ◌∙◌, arith, pos, negsuc, ◌*◌, mul-le-mul}
use Rattle.std.specs.Prelude.{ℤ, ◌*ℤ◌, nat_abs, if◌then◌else◌, IfSome}
use Rattle.std.specs.Option.{option_or}
use Rattle.std.proofs.lemmas.Int.{ints, unsigned_abs-mul}
use Rattle.std.proofs.lemmas.Bool.{and_parts, leb-true}
use Rattle.hd_base.specs.declared.expression.Operand.{Operand}
use Rattle.hd_base.specs.Expression.{Expression, leaf, negate, binary}
use Rattle.hd_base.specs.Numbers.{in_range, fits}
use Rattle.hd_base.specs.declared.range.TheConstants.{RANGE_END}
use Rattle.hd_lifted.specs.declared.schema.AppliedSymbol.{AppliedSymbol}
use Rattle.hd_lifted.specs.declared.schema.NumericEffect.{NumericEffect}
use Rattle.hd_lifted.specs.declared.schema.Ground.{Ground}
use Rattle.hd_lifted.specs.States.{Values, same, ground_form_of}
use Rattle.hd_lifted.specs.Effects.{value_by_change}
use Rattle.hd_lifted.proofs.Sound.{same-true}
use Rattle.hd_judge.specs.declared.changes.Changes.{Changes}
use Rattle.hd_lifted.specs.Questions.{is_paid}
use Rattle.hd_lifted.specs.Expressions.{value_of, stays_in_range}
use Rattle.hd_judge.specs.Effects.{with_change, new_value_in, AreNear}
use Rattle.hd_base.specs.Numbers.{IsNear}

-- ---- amounts

-- an amount that stays is in the range
pub stays-fits : (v : Values) (objects : List ℕ) (e : Expression (Operand AppliedSymbol)) → stays_in_range v objects e ≡ true → fits (value_of v objects e) ≡ true
stays-fits v objects (leaf l) stays = stays
stays-fits v objects (negate x) stays = (and_parts (stays_in_range v objects x) _ stays).1
stays-fits v objects (binary o x y) stays = (and_parts (stays_in_range v objects x && stays_in_range v objects y) _ stays).1

-- ---- sums

pub near_more : (n : ℕ) (distance : ℕ) (z old new : ℤ) → IsNear n z old → IsNear distance old new → IsNear (n + distance) z new
near_more n distance z old new a b = record { low = omega (arith, ints, a.low, b.low); high = omega (arith, ints, a.high, b.high) }

near_abs : (n : ℕ) (z : ℤ) → nat_abs z ≤ n → IsNear n (pos 0) z
near_abs n (pos k) h = record { low = omega (arith, ints, h); high = omega (arith, ints, h) }
near_abs n (negsuc k) h = record { low = omega (arith, ints, h); high = omega (arith, ints, h) }

pub abs_near : (n : ℕ) (z : ℤ) → IsNear n (pos 0) z → nat_abs z ≤ n
abs_near n (pos k) h = omega (arith, ints, h.high)
abs_near n (negsuc k) h = omega (arith, ints, h.low)

pub near_product : (x y : ℤ) (a b : ℕ) → nat_abs x ≤ a → nat_abs y ≤ b → IsNear (a * b) (pos 0) (x *ℤ y)
near_product x y a b p q = near_abs (a * b) (x *ℤ y) (grind (arith, unsigned_abs-mul x y, mul-le-mul))

pub near_wider : (n m : ℕ) (z : ℤ) → n ≤ m → IsNear n (pos 0) z → IsNear m (pos 0) z
near_wider n m z le h = record { low = omega (arith, ints, h.low); high = omega (arith, ints, h.high) }

pub in_range_abs : (x : ℤ) → in_range x ≡ true → nat_abs x ≤ RANGE_END
in_range_abs x e = leb-true (nat_abs x) RANGE_END e

-- ---- one change

pub value_changed : (v : Values) (objects : List ℕ) (e : NumericEffect) (g f : Ground) (old : Ground → Option ℤ) (so_far amount value : ℤ)
    → is_paid e ≡ false → f ≡ ground_form_of objects e.fluent → value_of v objects e.amount ≡ Some amount → option_or (old f) (v f) ≡ Some so_far
    → value_by_change e.change (Some so_far) (Some amount) ≡ Some value
    → (if same f g then Some value else old g) ≡ with_change v objects e g (old g)
value_changed v objects e g f old so_far amount value free at is before after =
    let x = option_or (old g) (v g) in
    let body : Bool → Bool → Option ℤ =
    λ p s. if not p && s then (if s then value_by_change e.change x (value_of v objects e.amount) else x) else old g in
    let here : same f g ≡ true → value_by_change e.change x (value_of v objects e.amount) ≡ Some value =
    λ s. ap₂ (value_by_change e.change) (ap (λ (h : Ground). option_or (old h) (v h)) (sym (same-true f g s)) ∙ before) is ∙ after in
    let by : (s : Bool) → s ≡ same f g → (if s then Some value else old g) ≡ body false s = λ s.
    elim s as (λ s. s ≡ same f g → (if s then Some value else old g) ≡ body false s) [ true ↦ λ q. sym (here (sym q)) | false ↦ λ _. refl ] in
    by (same f g) refl ∙ ap₂ body (sym free) (ap (λ (h : Ground). same h g) at)

near_of : (distance : ℕ) (b : Bool) (value : ℤ) (old new : Option ℤ) → new ≡ (if b then Some value else old) → IsNear distance (pos 0) value
    → IfSome old (IsNear distance (pos 0)) → IfSome new (IsNear distance (pos 0))
near_of distance true value old new is one other = subst (λ (o : Option ℤ). IfSome o (IsNear distance (pos 0))) (sym is) one
near_of distance false value old new is one other = subst (λ (o : Option ℤ). IfSome o (IsNear distance (pos 0))) (sym is) other

pub some_wider : (n m : ℕ) (o : Option ℤ) → n ≤ m → IfSome o (IsNear n (pos 0)) → IfSome o (IsNear m (pos 0))
some_wider n m None le h = h
some_wider n m (Some z) le h = near_wider n m z le h

pub near_changed : (n m : ℕ) (old new : Changes) (f : Ground) (value : ℤ) → n ≤ m → AreNear n old → IsNear m (pos 0) value
    → ((g : Ground) → new_value_in new g ≡ (if same f g then Some value else new_value_in old g)) → new.cost ≡ old.cost → AreNear m new
near_changed n m old new f value le near one values cost = record {
  values = λ g. near_of m (same f g) value (new_value_in old g) (new_value_in new g) (values g) one (some_wider n m (new_value_in old g) le (near.values g));
  cost = subst (IsNear m (pos 0)) (sym cost) (near_wider n m old.cost le near.cost);
}

pub near_all_wider : (n m : ℕ) (changes : Changes) → n ≤ m → AreNear n changes → AreNear m changes
near_all_wider n m changes le near = record {
  values = λ g. some_wider n m (new_value_in changes g) le (near.values g);
  cost = near_wider n m changes.cost le near.cost;
}
