-- A cost that is the same in each state, as its amounts are summed up.
use Rattle.std.proofs.Common.{◌≡◌, ℕ, ◌+◌, ◌<◌, ◌≤◌, ◌&&◌, Bool, true, false, cond, List, [], ◌∷◌, filter, take, drop, length, get_or, Option, Some, None, refl, sym, ap, ◌∙◌, rules}
use Rattle.std.specs.Prelude.{if◌then◌else◌, ℤ, pos, negsuc, ◌+ℤ◌}
use Rattle.std.specs.List.{list_all, fold}
use Rattle.std.proofs.lemmas.List.{take-append-drop, take_all}
use Rattle.std.proofs.lemmas.List.Sums.{fold-append, fold_more}
use Rattle.std.specs.Int.Signed.{lt_z}
use Rattle.hd_base.specs.Values.{of_both}
use Rattle.hd_lifted.specs.declared.schema.NumericEffect.{NumericEffect}
use Rattle.hd_lifted.specs.declared.schema.Schema.{Schema}
use Rattle.hd_lifted.specs.declared.task.LiftedTask.{LiftedTask}
use Rattle.hd_lifted.specs.Expressions.{value_of}
use Rattle.hd_lifted.specs.States.{first_value}
use Rattle.hd_lifted.specs.Effects.{with_cost, sum_of_costs, is_negative}
use Rattle.hd_lifted.specs.Amounts.{is_constant}
use Rattle.hd_lifted.specs.Questions.{is_paid, has_constant_costs, costs_negative}
use Rattle.hd_judge.specs.Constant.{constant_cost}

abbrev constants : LiftedTask → List NumericEffect → Bool
constants t es = list_all (λ (e : NumericEffect). is_constant t e.amount) (filter is_paid es)

one-none : (paid constant : Bool) (x : Option ℤ) → (if paid then (if constant then of_both (λ (x y : ℤ). x +ℤ y) None x else None) else None) ≡ None
one-none true true x = refl
one-none true false x = refl
one-none false constant x = refl

pub fold-none : (t : LiftedTask) (objects : List ℕ) (es : List NumericEffect) → fold (constant_cost t objects) None es ≡ None
fold-none t objects [] = refl
fold-none t objects (e ∷ es) =
    ap (λ (o : Option ℤ). fold (constant_cost t objects) o es)
    (one-none (is_paid e) (is_constant t e.amount) (value_of (first_value t.values) objects e.amount))
    ∙ fold-none t objects es

fold-constants : (t : LiftedTask) (objects : List ℕ) (es : List NumericEffect) (sum : Option ℤ)
    → fold (constant_cost t objects) sum es ≡ (if constants t es then fold (with_cost (first_value t.values) objects) sum es else None)
fold-constants t objects [] sum = refl
fold-constants t objects (e ∷ es) sum =
    let v = first_value t.values in
    let value = value_of v objects e.amount in
    elim (is_paid e) as (λ p.
    fold (constant_cost t objects) (if p then (if is_constant t e.amount then of_both (λ (x y : ℤ). x +ℤ y) sum value else None) else sum) es
    ≡ (if list_all (λ (f : NumericEffect). is_constant t f.amount) (cond p (e ∷ filter is_paid es) (filter is_paid es))
    then fold (with_cost v objects) (if p then of_both (λ (x y : ℤ). x +ℤ y) sum value else sum) es else None)) [
      | true ↦
          elim (is_constant t e.amount) as (λ b.
          fold (constant_cost t objects) (if b then of_both (λ (x y : ℤ). x +ℤ y) sum value else None) es
          ≡ (if b && constants t es then fold (with_cost v objects) (of_both (λ (x y : ℤ). x +ℤ y) sum value) es else None)) [
            | true ↦ fold-constants t objects es (of_both (λ (x y : ℤ). x +ℤ y) sum value)
            | false ↦ fold-none t objects es
          ]
      | false ↦ fold-constants t objects es sum
    ]

either : (b : Bool) (sum : Option ℤ) → is_negative (if b then sum else None) ≡ (b && is_negative sum)
either true sum = refl
either false sum = refl

pub costs_negative-by_sum : (t : LiftedTask) (a : Schema) (objects : List ℕ)
    → is_negative (fold (constant_cost t objects) (Some (pos 0)) a.effects) ≡ costs_negative t a objects
costs_negative-by_sum t a objects =
    ap is_negative (fold-constants t objects a.effects (Some (pos 0)))
    ∙ either (has_constant_costs t a) (sum_of_costs (first_value t.values) a objects)

-- one more effect, as a loop comes to it
pub sum-more : (t : LiftedTask) (objects : List ℕ) (effects : List NumericEffect) (i : ℕ) (e : NumericEffect) (sum : ℤ) (next : Option ℤ)
    → i < length effects → e ≡ get_or effects i e → fold (constant_cost t objects) (Some (pos 0)) (take i effects) ≡ Some sum
    → next ≡ constant_cost t objects (Some sum) e
    → fold (constant_cost t objects) (Some (pos 0)) (take (i + 1) effects) ≡ next
sum-more t objects effects i e sum next lt at was now =
    fold_more (constant_cost t objects) (Some (pos 0)) effects i e lt
    ∙ (ap (λ (o : Option ℤ). constant_cost t objects o (get_or effects i e)) was
    ∙ (ap (constant_cost t objects (Some sum)) (sym at) ∙ sym now))

-- if there is no sum so far, there is none
pub no_sum : (t : LiftedTask) (a : Schema) (objects : List ℕ) (i : ℕ)
    → fold (constant_cost t objects) (Some (pos 0)) (take i a.effects) ≡ None → costs_negative t a objects ≡ false
no_sum t a objects i none =
    sym (costs_negative-by_sum t a objects)
    ∙ ap is_negative
    (ap (fold (constant_cost t objects) (Some (pos 0))) (sym (take-append-drop i a.effects))
    ∙ (fold-append (constant_cost t objects) (Some (pos 0)) (take i a.effects) (drop i a.effects)
    ∙ (ap (λ (o : Option ℤ). fold (constant_cost t objects) o (drop i a.effects)) none ∙ fold-none t objects (drop i a.effects))))

-- the whole sum reports
pub whole_sum : (t : LiftedTask) (a : Schema) (objects : List ℕ) (i : ℕ) (sum : ℤ) → length a.effects ≤ i
    → fold (constant_cost t objects) (Some (pos 0)) (take i a.effects) ≡ Some sum → costs_negative t a objects ≡ is_negative (Some sum)
whole_sum t a objects i sum all is =
    sym (costs_negative-by_sum t a objects)
    ∙ ap is_negative (ap (fold (constant_cost t objects) (Some (pos 0))) (sym (take_all i a.effects all)) ∙ is)

pub below_zero : (z : ℤ) → lt_z z (pos 0) ≡ is_negative (Some z)
below_zero (pos n) = search rules
below_zero (negsuc n) = refl
