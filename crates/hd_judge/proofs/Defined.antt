-- Where all fluents that steps meet have first values, each amount has a value along the plan, and
-- so has the plan's cost.
use Rattle.std.proofs.Common.{◌≡◌, ℕ, Bool, true, false, List, [], ◌∷◌, ◌++◌, Option, Some, None, is_some, refl, sym, true≢false}
use Rattle.std.specs.Prelude.{if◌then◌else◌, ℤ, flat_map, option_map, neg_ℤ}
use Rattle.std.specs.List.{fold}
use Rattle.std.proofs.lemmas.List.Elements.{Contains-append_left, Contains-append_right}
use Rattle.hd_base.specs.declared.expression.Operand.{Operand}
use Rattle.hd_base.specs.declared.expression.Operand.TheVariants.{Number, Fluent}
use Rattle.hd_base.specs.Expression.{Expression, leaf, negate, binary}
use Rattle.hd_base.specs.Numbers.{result_of}
use Rattle.hd_base.specs.Values.{of_both}
use Rattle.hd_base.proofs.Members.{Contains-first}
use Rattle.hd_lifted.specs.declared.schema.AppliedSymbol.{AppliedSymbol}
use Rattle.hd_lifted.specs.declared.schema.Ground.{Ground}
use Rattle.hd_lifted.specs.declared.schema.ChangeKind.{ChangeKind}
use Rattle.hd_lifted.specs.declared.schema.ChangeKind.TheVariants.{Assign, ScaleUp, Increase, Decrease, Cost}
use Rattle.hd_lifted.specs.declared.schema.NumericEffect.{NumericEffect}
use Rattle.hd_lifted.specs.States.{Values, same, ground_form_of}
use Rattle.hd_lifted.specs.Expressions.{value_of}
use Rattle.hd_lifted.specs.Effects.{value_by_change, with_effect, with_cost, is_cost}
use Rattle.hd_lifted.specs.Met.{fluents_in, met_by_effect, changed_by}
use Rattle.hd_judge.specs.Effects.{HaveValues}

pub values_left : (v : Values) (xs ys : List Ground) → HaveValues v (xs ++ ys) → HaveValues v xs
values_left v xs ys h = record { each = λ g c. h.each g (Contains-append_left xs ys g c) }

values_right : (v : Values) (xs ys : List Ground) → HaveValues v (xs ++ ys) → HaveValues v ys
values_right v xs ys h = record { each = λ g c. h.each g (Contains-append_right xs ys g c) }

both_some : (f : ℤ → ℤ → ℤ) (x y : Option ℤ) → is_some x ≡ true → is_some y ≡ true → is_some (of_both f x y) ≡ true
both_some f None y a b = absurd (true≢false (sym a))
both_some f (Some x) None a b = absurd (true≢false (sym b))
both_some f (Some x) (Some y) a b = refl

turned_some : (x : Option ℤ) → is_some x ≡ true → is_some (option_map neg_ℤ x) ≡ true
turned_some None a = absurd (true≢false (sym a))
turned_some (Some x) a = refl

pub value_some : (v : Values) (objects : List ℕ) (e : Expression (Operand AppliedSymbol)) → HaveValues v (fluents_in objects e) → is_some (value_of v objects e) ≡ true
value_some v objects (leaf (Number n)) h = refl
value_some v objects (leaf (Fluent a)) h = h.each (ground_form_of objects a) (Contains-first (ground_form_of objects a) [])
value_some v objects (negate x) h = turned_some (value_of v objects x) (value_some v objects x h)
value_some v objects (binary o x y) h =
    both_some (result_of o) (value_of v objects x) (value_of v objects y)
    (value_some v objects x (values_left v (fluents_in objects x) (fluents_in objects y) h))
    (value_some v objects y (values_right v (fluents_in objects x) (fluents_in objects y) h))

pub amount_some : (v : Values) (objects : List ℕ) (e : NumericEffect) → HaveValues v (met_by_effect objects e) → is_some (value_of v objects e.amount) ≡ true
amount_some v objects e h = value_some v objects e.amount (values_right v (changed_by objects e) (fluents_in objects e.amount) h)

change_some : (c : ChangeKind) (x amount : Option ℤ) → is_some x ≡ true → is_some amount ≡ true → is_some (value_by_change c x amount) ≡ true
change_some Assign x amount a b = b
change_some ScaleUp x amount a b = both_some _ x amount a b
change_some Increase x amount a b = both_some _ x amount a b
change_some Decrease x amount a b = both_some _ x amount a b
change_some Cost x amount a b = a

if_some : (b : Bool) (x y : Option ℤ) → is_some x ≡ true → is_some y ≡ true → is_some (if b then x else y) ≡ true
if_some true x y a b = a
if_some false x y a b = b

-- a fluent that has a value has one after effects whose fluents have values
pub effects_some : (v : Values) (objects : List ℕ) (g : Ground) (es : List NumericEffect) (x : Option ℤ)
    → HaveValues v (flat_map (met_by_effect objects) es) → is_some x ≡ true → is_some (fold (with_effect v objects g) x es) ≡ true
effects_some v objects g [] x h a = a
effects_some v objects g (e ∷ es) x h a =
    let here = values_left v (met_by_effect objects e) (flat_map (met_by_effect objects) es) h in
    let rest = values_right v (met_by_effect objects e) (flat_map (met_by_effect objects) es) h in
    let amount = value_of v objects e.amount in
    effects_some v objects g es (with_effect v objects g x e) rest
    (if_some (same (ground_form_of objects e.fluent) g) (value_by_change e.change x amount) x (change_some e.change x amount a (amount_some v objects e here)) a)

-- so has the cost
pub costs_some : (v : Values) (objects : List ℕ) (es : List NumericEffect) (sum : Option ℤ)
    → HaveValues v (flat_map (met_by_effect objects) es) → is_some sum ≡ true → is_some (fold (with_cost v objects) sum es) ≡ true
costs_some v objects [] sum h a = a
costs_some v objects (e ∷ es) sum h a =
    let here = values_left v (met_by_effect objects e) (flat_map (met_by_effect objects) es) h in
    let rest = values_right v (met_by_effect objects e) (flat_map (met_by_effect objects) es) h in
    let amount = value_of v objects e.amount in
    costs_some v objects es (with_cost v objects sum e) rest
    (if_some (is_cost e.change) (of_both _ sum amount) sum (both_some _ sum amount a (amount_some v objects e here)) a)
