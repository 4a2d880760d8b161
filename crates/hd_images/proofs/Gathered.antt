-- Effects that are gathered by their fluents' numbers.
use Rattle.std.proofs.Common.{◌≡◌, ℕ, ◌+◌, ◌<◌, ◌&&◌, not, Bool, true, false, cond, List, [], ◌∷◌, ◌++◌, map, filter, take, length, get_or, Option, Some, None, slice_get, inl, inr, refl, sym, ap, ◌∙◌, subst, true≢false, arith}
use Rattle.std.specs.Prelude.{nat_eq, if◌then◌else◌, option_and_then}
use Rattle.std.specs.Cmp.{both_ways}
use Rattle.std.specs.Ordering.{nat_cmp}
use Rattle.std.specs.Cmp.Lexicographic.{slice_cmp}
use Rattle.std.specs.declared.cmp.Ordering.TheVariants.{Less}
use Rattle.std.proofs.lemmas.Bool.{eqb-true, eq-eqb, and_parts, cases_lt}
use Rattle.std.proofs.lemmas.List.{append-nil, map-append}
use Rattle.std.proofs.lemmas.List.Elements.{filter_more}
use Rattle.std.proofs.lemmas.Option.{none-some, same_Some, get_or_from_slice_get, slice_get_within}
use Rattle.hd_base.specs.declared.expression.Operand.{Operand}
use Rattle.hd_base.specs.Expression.{Expression}
use Rattle.hd_lifted.specs.declared.schema.Ground.{Ground}
use Rattle.hd_lifted.specs.declared.schema.NumericEffect.{NumericEffect}
use Rattle.hd_lifted.specs.declared.schema.ChangeKind as lifted_change
use Rattle.hd_lifted.specs.declared.schema.ChangeKind.TheVariants as lifted_changes
use Rattle.hd_lifted.specs.States.{same, ground_form_of}
use Rattle.hd_lifted.specs.Effects.{is_cost}
use Rattle.hd_task.specs.declared.effect.SumPart.{SumPart}
use Rattle.hd_task.specs.declared.effect.ValueChange.{ValueChange}
use Rattle.hd_lifted.specs.Numbering.{form_key}
use Rattle.hd_lifted.proofs.Passing.{Contains-slice_get}
use Rattle.hd_lifted.proofs.Rising.{before_itself}
use Rattle.hd_lifted.proofs.Sound.{same-true, same-refl}
use Rattle.hd_grounding.specs.Images.{number_of, expression_of, is_on, term_by, term_of, change_by, change_of}
use Rattle.hd_grounding.proofs.Numbers.{number_of-place, number_of-none, number_of-there}
use Rattle.hd_images.specs.Order.{IsRising}
use Rattle.hd_images.specs.Gathering.{change_with, change_on, change_at, change_in}

-- ---- each form has one number

not_before : (forms : List Ground) (g : Ground) (m n : ℕ) → IsRising forms → slice_get forms m ≡ Some g → slice_get forms n ≡ Some g → m < n → ⊥
not_before forms g m n rising e f lt =
    before_itself (form_key g)
    (subst (λ (h : Ground). slice_cmp nat_cmp (form_key h) (form_key g) ≡ Less) (get_or_from_slice_get forms m g g e)
    (subst (λ (h : Ground). slice_cmp nat_cmp (form_key (get_or forms m g)) (form_key h) ≡ Less) (get_or_from_slice_get forms n g g f)
    (rising m n g lt (slice_get_within forms n g f))))

pub number_of-rising : (forms : List Ground) (g : Ground) (n : ℕ) → IsRising forms → slice_get forms n ≡ Some g → number_of forms g ≡ Some n
number_of-rising forms g n rising e =
    let k = number_of-there forms g (Contains-slice_get forms n g e) in
    k.is ∙ ap Some
    (elim (cases_lt k.number n) [
      | inl lt ↦ absurd (not_before forms g k.number n rising k.place e lt)
      | inr le ↦ elim (cases_lt n k.number) [
        | inl lt ↦ absurd (not_before forms g n k.number rising e k.place lt)
        | inr ge ↦ let same : k.number ≡ n = omega arith in same
      ]
    ])

-- ---- one effect goes in

-- an effect on a fluent with a number is on the fluent of that number, and on no other
on_number : (forms : List Ground) (target g : Ground) (k n : ℕ) → IsRising forms → number_of forms target ≡ Some k → slice_get forms n ≡ Some g
    → nat_eq k n ≡ same target g
on_number forms target g k n rising is at =
    both_ways (nat_eq k n) (same target g)
    (λ e. let place : slice_get forms n ≡ Some target = subst (λ (m : ℕ). slice_get forms m ≡ Some target) (eqb-true k n e) (number_of-place forms target k is) in
    ap (same target) (sym (same_Some target g (sym place ∙ at))) ∙ same-refl target)
    (λ e. let one : target ≡ g = same-true target g e in
    eq-eqb k n (same_Some k n (sym is ∙ (ap (number_of forms) one ∙ number_of-rising forms g n rising at))))

pub change_at-put : (fluents : List Ground) (objects : List ℕ) (e : NumericEffect) (k n : ℕ) (before after : Option ValueChange)
    → IsRising fluents → is_cost e.change ≡ false → number_of fluents (ground_form_of objects e.fluent) ≡ Some k
    → after ≡ (if nat_eq k n then Some (change_with before e.change (expression_of fluents objects e.amount)) else before)
    → after ≡ change_at fluents objects e n before
change_at-put fluents objects e k n before after rising paid is put =
    let target = ground_form_of objects e.fluent in
    let new = Some (change_with before e.change (expression_of fluents objects e.amount)) in
    elim (slice_get fluents n) as (λ o. slice_get fluents n ≡ o → after ≡ change_on fluents objects e before o) [
      | None ↦ λ none.
          put ∙ ap (λ (b : Bool). if b then new else before)
          (both_ways (nat_eq k n) false
          (λ t. absurd (none-some target (sym none ∙ subst (λ (m : ℕ). slice_get fluents m ≡ Some target) (eqb-true k n t) (number_of-place fluents target k is))))
          (λ f. absurd (true≢false (sym f))))
      | Some g ↦ λ at.
          put ∙ ap (λ (b : Bool). if b then new else before)
          (on_number fluents target g k n rising is at ∙ ap (λ (c : Bool). not c && same target g) (sym paid))
    ] refl

pub change_at-none : (fluents : List Ground) (objects : List ℕ) (e : NumericEffect) (n : ℕ) (before : Option ValueChange)
    → number_of fluents (ground_form_of objects e.fluent) ≡ None → before ≡ change_at fluents objects e n before
change_at-none fluents objects e n before none =
    let target = ground_form_of objects e.fluent in
    elim (slice_get fluents n) as (λ o. slice_get fluents n ≡ o → before ≡ change_on fluents objects e before o) [
      | None ↦ λ _. refl
      | Some g ↦ λ at.
          ap (λ (b : Bool). if b then Some (change_with before e.change (expression_of fluents objects e.amount)) else before)
          (both_ways false (is_on objects g e)
          (λ f. absurd (true≢false (sym f)))
          (λ t. let one : target ≡ g = same-true target g (and_parts (not (is_cost e.change)) (same target g) t).1 in
          absurd (number_of-none fluents g (ap (number_of fluents) (sym one) ∙ none) (Contains-slice_get fluents n g at))))
    ] refl

-- ---- one effect after the other

with-by : (first : lifted_change.ChangeKind) (y : Expression (Operand ℕ)) (terms : List SumPart) (c : lifted_change.ChangeKind) (x : Expression (Operand ℕ))
    → change_with (Some (change_by first y terms)) c x ≡ change_by first y (terms ++ term_by c x ∷ [])
with-by lifted_changes.Assign y terms c x = refl
with-by lifted_changes.ScaleUp y terms c x = refl
with-by lifted_changes.Increase y terms c x = refl
with-by lifted_changes.Decrease y terms c x = refl
with-by lifted_changes.Cost y terms c x = refl

change_of-push : (fluents : List Ground) (objects : List ℕ) (es : List NumericEffect) (e : NumericEffect)
    → Some (change_with (change_of fluents objects es) e.change (expression_of fluents objects e.amount)) ≡ change_of fluents objects (es ++ e ∷ [])
change_of-push fluents objects [] e = refl
change_of-push fluents objects (f ∷ es) e =
    let y = expression_of fluents objects f.amount in
    ap Some (with-by f.change y (map (term_of fluents objects) (f ∷ es)) e.change (expression_of fluents objects e.amount)
    ∙ ap (change_by f.change y) (sym (map-append (term_of fluents objects) (f ∷ es) (e ∷ []))))

on-one : (fluents : List Ground) (objects : List ℕ) (so_far : List NumericEffect) (e : NumericEffect) (b : Bool)
    → (if b then Some (change_with (change_of fluents objects so_far) e.change (expression_of fluents objects e.amount)) else change_of fluents objects so_far)
    ≡ change_of fluents objects (so_far ++ cond b (e ∷ []) [])
on-one fluents objects so_far e true = change_of-push fluents objects so_far e
on-one fluents objects so_far e false = ap (change_of fluents objects) (sym (append-nil so_far))

pub change_in-more : (fluents : List Ground) (objects : List ℕ) (effects : List NumericEffect) (i : ℕ) (e : NumericEffect) (n : ℕ)
    → i < length effects → e ≡ get_or effects i e
    → change_at fluents objects e n (change_in fluents objects (take i effects) n) ≡ change_in fluents objects (take (i + 1) effects) n
change_in-more fluents objects effects i e n lt at =
    elim (slice_get fluents n) as (λ o.
    change_on fluents objects e (option_and_then (λ g. change_of fluents objects (filter (is_on objects g) (take i effects))) o) o
    ≡ option_and_then (λ g. change_of fluents objects (filter (is_on objects g) (take (i + 1) effects))) o) [
      | None ↦ refl
      | Some g ↦
          on-one fluents objects (filter (is_on objects g) (take i effects)) e (is_on objects g e)
          ∙ ap (change_of fluents objects)
          (ap (λ (f : NumericEffect). filter (is_on objects g) (take i effects) ++ cond (is_on objects g f) (f ∷ []) []) at
          ∙ sym (filter_more (is_on objects g) effects i e lt))
    ]

pub change_in-none : (fluents : List Ground) (objects : List ℕ) (n : ℕ) → change_in fluents objects [] n ≡ None
change_in-none fluents objects n =
    elim (slice_get fluents n) as (λ o. option_and_then (λ g. change_of fluents objects (filter (is_on objects g) [])) o ≡ None) [ None ↦ refl | Some g ↦ refl ]
