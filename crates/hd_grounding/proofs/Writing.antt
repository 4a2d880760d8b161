-- The values after an action, in the domain and in numbers.
use Rattle.std.proofs.Common.{◌≡◌, ℕ, Bool, true, false, not, ◌&&◌, ◌||◌, List, [], ◌∷◌, map, filter, Contains, Option, Some, sym, ap, ◌∙◌, refl, subst, true≢false, inl, inr, arith}
use Rattle.std.specs.Prelude.{if◌then◌else◌, length, ◌≤◌, ◌⊎◌, ℤ, ◌+ℤ◌, ◌-ℤ◌, ◌*ℤ◌}
use Rattle.std.specs.List.{list_any, fold}
use Rattle.std.proofs.lemmas.Bool.{and_parts, or_parts, not-true}
use Rattle.std.proofs.lemmas.List.Elements.{Contains-append_right}
use Rattle.hd_base.specs.declared.expression.Operand.{Operand}
use Rattle.hd_base.specs.Expression.{Expression}
use Rattle.hd_base.specs.Values.{of_both}
use Rattle.hd_base.proofs.Members.{Contains-first, Contains-later, Contains-cons_cases, Contains-flat_map, Contains-from_filter, passes-from_filter}
use Rattle.hd_lifted.specs.declared.schema.Ground.{Ground}
use Rattle.hd_lifted.specs.declared.schema.ChangeKind.{ChangeKind}
use Rattle.hd_lifted.specs.declared.schema.ChangeKind.TheVariants.{Assign, ScaleUp, Increase, Decrease, Cost}
use Rattle.hd_lifted.specs.declared.schema.NumericEffect.{NumericEffect}
use Rattle.hd_lifted.specs.declared.schema.Schema.{Schema}
use Rattle.hd_lifted.specs.States as domain
use Rattle.hd_lifted.specs.Expressions as lifted_value
use Rattle.hd_lifted.specs.Effects as lifted
use Rattle.hd_task.specs.declared.state.State.{State}
use Rattle.hd_task.specs.Expressions.{value_of}
use Rattle.hd_task.specs.Effects.{with_term, value_by_change}
use Rattle.hd_lifted.specs.Met.{fluents_in, changed_by, met_by_effect}
use Rattle.hd_lifted.proofs.Passing.{fails-from_none}
use Rattle.hd_lifted.proofs.Sound.{same-true, same-refl}
use Rattle.hd_lifted.proofs.Unchanged.{either_way}
use Rattle.hd_grounding.specs.Images.{expression_of, is_on, term_by, term_of, change_by, change_of, changed_value}
use Rattle.hd_grounding.specs.Agreement.{Agree, HasNumberedEffects}
use Rattle.hd_grounding.proofs.Holding.{value_agrees}

skipped : (c : ChangeKind) (b : Bool) (x amount : Option ℤ) → (not (lifted.is_cost c) && b) ≡ false → (if b then lifted.value_by_change c x amount else x) ≡ x
skipped Cost b x amount e = either_way b x
skipped Assign true x amount e = absurd (true≢false e)
skipped Assign false x amount e = refl
skipped ScaleUp true x amount e = absurd (true≢false e)
skipped ScaleUp false x amount e = refl
skipped Increase true x amount e = absurd (true≢false e)
skipped Increase false x amount e = refl
skipped Decrease true x amount e = absurd (true≢false e)
skipped Decrease false x amount e = refl

taken : (c : ChangeKind) (b : Bool) (x amount : Option ℤ) → (not (lifted.is_cost c) && b) ≡ true → (if b then lifted.value_by_change c x amount else x) ≡ lifted.value_by_change c x amount
taken Cost b x amount e = absurd (true≢false (sym e))
taken Assign true x amount e = refl
taken Assign false x amount e = absurd (true≢false (sym e))
taken ScaleUp true x amount e = refl
taken ScaleUp false x amount e = absurd (true≢false (sym e))
taken Increase true x amount e = refl
taken Increase false x amount e = absurd (true≢false (sym e))
taken Decrease true x amount e = refl
taken Decrease false x amount e = absurd (true≢false (sym e))

-- an increase or a decrease is a term of a sum
term_agrees : (f : List ℤ) (c : ChangeKind) (z : ℤ) (amount : Option ℤ) (x : Expression (Operand ℕ)) → amount ≡ Some (value_of f x)
    → lifted.stands_alone c ≡ false → lifted.is_cost c ≡ false
    → lifted.value_by_change c (Some z) amount ≡ Some (with_term f z (term_by c x))
term_agrees f Assign z amount x e alone paid = absurd (true≢false alone)
term_agrees f ScaleUp z amount x e alone paid = absurd (true≢false alone)
term_agrees f Increase z amount x e alone paid = ap (of_both (λ x y. x +ℤ y) (Some z)) e
term_agrees f Decrease z amount x e alone paid = ap (of_both (λ x y. x -ℤ y) (Some z)) e
term_agrees f Cost z amount x e alone paid = absurd (true≢false paid)

-- a single effect is one change
one_agrees : (f : List ℤ) (c : ChangeKind) (z : ℤ) (amount : Option ℤ) (x : Expression (Operand ℕ)) → amount ≡ Some (value_of f x)
    → lifted.is_cost c ≡ false
    → lifted.value_by_change c (Some z) amount ≡ Some (value_by_change f (change_by c x (term_by c x ∷ [])) z)
one_agrees f Assign z amount x e paid = e
one_agrees f ScaleUp z amount x e paid = ap (of_both (λ x y. x *ℤ y) (Some z)) e
one_agrees f Increase z amount x e paid = ap (of_both (λ x y. x +ℤ y) (Some z)) e
one_agrees f Decrease z amount x e paid = ap (of_both (λ x y. x -ℤ y) (Some z)) e
one_agrees f Cost z amount x e paid = absurd (true≢false paid)

-- several effects are a sum
sum_is : (f : List ℤ) (c : ChangeKind) (x : Expression (Operand ℕ)) (terms : List _) (z : ℤ) → lifted.stands_alone c ≡ false
    → fold (with_term f) z terms ≡ value_by_change f (change_by c x terms) z
sum_is f Assign x terms z alone = absurd (true≢false alone)
sum_is f ScaleUp x terms z alone = absurd (true≢false alone)
sum_is f Increase x terms z alone = refl
sum_is f Decrease x terms z alone = refl
sum_is f Cost x terms z alone = refl

module _ (atoms fluents : List Ground) (s : domain.State) (n : State) (agree : Agree atoms fluents s n) (objects : List ℕ) (g : Ground) where
  abbrev own : Option ℤ → NumericEffect → Option ℤ
  own x e = lifted.value_by_change e.change x (lifted_value.value_of s.values objects e.amount)

  own_alone : (es : List NumericEffect) (x : Option ℤ) → fold (lifted.with_effect s.values objects g) x es ≡ fold own x (filter (is_on objects g) es)
  own_alone [] x = refl
  own_alone (e ∷ es) x =
      elim (is_on objects g e) as (λ b. is_on objects g e ≡ b
      → fold (lifted.with_effect s.values objects g) x (e ∷ es) ≡ fold own x (if b then e ∷ filter (is_on objects g) es else filter (is_on objects g) es)) [
        | true ↦ λ on.
            ap (λ y. fold (lifted.with_effect s.values objects g) y es)
            (taken e.change (domain.same (domain.ground_form_of objects e.fluent) g) x (lifted_value.value_of s.values objects e.amount) on)
            ∙ own_alone es (own x e)
        | false ↦ λ off.
            ap (λ y. fold (lifted.with_effect s.values objects g) y es)
            (skipped e.change (domain.same (domain.ground_form_of objects e.fluent) g) x (lifted_value.value_of s.values objects e.amount) off)
            ∙ own_alone es x
      ] refl

  pub no_cost : (e : NumericEffect) → is_on objects g e ≡ true → lifted.is_cost e.change ≡ false
  no_cost e on = not-true (lifted.is_cost e.change) (and_parts (not (lifted.is_cost e.change)) (domain.same (domain.ground_form_of objects e.fluent) g) on).0

  pub on_it : (e : NumericEffect) → is_on objects g e ≡ true → domain.ground_form_of objects e.fluent ≡ g
  on_it e on = same-true (domain.ground_form_of objects e.fluent) g (and_parts (not (lifted.is_cost e.change)) (domain.same (domain.ground_form_of objects e.fluent) g) on).1

  -- two effects on the fluent that don't clash are no assignments and no scalings
  not_alone : (e f : NumericEffect) → is_on objects g e ≡ true → is_on objects g f ≡ true → lifted.clash objects e f ≡ false
      → (lifted.stands_alone e.change ≡ false) × (lifted.stands_alone f.change ≡ false)
  not_alone e f first second none =
      let together : domain.same (domain.ground_form_of objects e.fluent) (domain.ground_form_of objects f.fluent) ≡ true =
      subst (λ x. domain.same (domain.ground_form_of objects e.fluent) x ≡ true) (on_it e first ∙ sym (on_it f second)) (same-refl (domain.ground_form_of objects e.fluent)) in
      or_parts (lifted.stands_alone e.change) (lifted.stands_alone f.change)
      (sym (ap (λ b. b && (lifted.stands_alone e.change || lifted.stands_alone f.change)) together) ∙ none)

  pub amount_agrees : (a : Schema) (e : NumericEffect) → HasNumberedEffects fluents objects a → Contains a.effects e
      → lifted_value.value_of s.values objects e.amount ≡ Some (value_of n.fluents (expression_of fluents objects e.amount))
  amount_agrees a e read c =
      value_agrees atoms fluents s n agree objects e.amount (λ h k.
      read h (Contains-flat_map (met_by_effect objects) a.effects e h c (Contains-append_right (changed_by objects e) (fluents_in objects e.amount) h k)))

  sums_agree : (a : Schema) (fs : List NumericEffect) (z : ℤ) → HasNumberedEffects fluents objects a
      → ((e : NumericEffect) → Contains fs e → Contains a.effects e)
      → ((e : NumericEffect) → Contains fs e → (lifted.stands_alone e.change ≡ false) × (lifted.is_cost e.change ≡ false))
      → fold own (Some z) fs ≡ Some (fold (with_term n.fluents) z (map (term_of fluents objects) fs))
  sums_agree a [] z read among sums = refl
  sums_agree a (e ∷ fs) z read among sums =
      let kind = sums e (Contains-first e fs) in
      ap (λ x. fold own x fs)
      (term_agrees n.fluents e.change z (lifted_value.value_of s.values objects e.amount) (expression_of fluents objects e.amount)
      (amount_agrees a e read (among e (Contains-first e fs))) kind.0 kind.1)
      ∙ sums_agree a fs (with_term n.fluents z (term_of fluents objects e)) read
      (λ x c. among x (Contains-later e fs x c)) (λ x c. sums x (Contains-later e fs x c))

  -- after an effect on the fluent
  behind : (h : NumericEffect) (es fs : List NumericEffect) → is_on objects g h ≡ true → list_any (lifted.clash objects h) es ≡ false
      → ((x : NumericEffect) → Contains fs x → Contains es x) → ((x : NumericEffect) → Contains fs x → is_on objects g x ≡ true)
      → ((x : NumericEffect) → Contains (h ∷ fs) x → lifted.stands_alone x.change ≡ false) ⊎ (length (h ∷ fs) ≤ 1)
  behind h es [] on none among ons = inr (omega arith)
  behind h es (f ∷ fs) on none among ons =
      inl (λ x c.
      elim (Contains-cons_cases h (f ∷ fs) x c) [
        | inl e ↦
            let k = among f (Contains-first f fs) in
            subst (λ (y : NumericEffect). lifted.stands_alone y.change ≡ false) e
            (not_alone h f on (ons f (Contains-first f fs)) (fails-from_none (lifted.clash objects h) es f none k)).0
        | inr k ↦ (not_alone h x on (ons x k) (fails-from_none (lifted.clash objects h) es x none (among x k))).1
      ])

  -- of the effects on the fluent there is one at most, or none has to stand alone
  pub one_or_sums : (es : List NumericEffect) → lifted.effects_clash objects es ≡ false
      → ((x : NumericEffect) → Contains (filter (is_on objects g) es) x → lifted.stands_alone x.change ≡ false) ⊎ (length (filter (is_on objects g) es) ≤ 1)
  one_or_sums [] none = inr (omega arith)
  one_or_sums (h ∷ es) none =
      let parts = or_parts (list_any (lifted.clash objects h) es) (lifted.effects_clash objects es) none in
      elim (is_on objects g h) as (λ b. is_on objects g h ≡ b
      → ((x : NumericEffect) → Contains (if b then h ∷ filter (is_on objects g) es else filter (is_on objects g) es) x → lifted.stands_alone x.change ≡ false)
      ⊎ (length (if b then h ∷ filter (is_on objects g) es else filter (is_on objects g) es) ≤ 1)) [
        | false ↦ λ off. one_or_sums es parts.1
        | true ↦ λ on. behind h es (filter (is_on objects g) es) on parts.0
            (λ x c. Contains-from_filter (is_on objects g) es x c) (λ x c. passes-from_filter (is_on objects g) es x c)
      ] refl

  filtered : (a : Schema) (fs : List NumericEffect) (z : ℤ) → HasNumberedEffects fluents objects a
      → ((e : NumericEffect) → Contains fs e → Contains a.effects e)
      → ((e : NumericEffect) → Contains fs e → lifted.is_cost e.change ≡ false)
      → ((x : NumericEffect) → Contains fs x → lifted.stands_alone x.change ≡ false) ⊎ (length fs ≤ 1)
      → fold own (Some z) fs ≡ Some (changed_value n.fluents (change_of fluents objects fs) z)
  filtered a [] z read among paid shape = refl
  filtered a (e ∷ []) z read among paid shape =
      one_agrees n.fluents e.change z (lifted_value.value_of s.values objects e.amount) (expression_of fluents objects e.amount)
      (amount_agrees a e read (among e (Contains-first e []))) (paid e (Contains-first e []))
  filtered a (e ∷ f ∷ fs) z read among paid (inr few) = absurd (omega (arith, few))
  filtered a (e ∷ f ∷ fs) z read among paid (inl sums) =
      sums_agree a (e ∷ f ∷ fs) z read among (λ x c. (sums x c, paid x c))
      ∙ ap Some (sum_is n.fluents e.change (expression_of fluents objects e.amount) (map (term_of fluents objects) (e ∷ f ∷ fs)) z (sums e (Contains-first e (f ∷ fs))))

  pub value_after_agrees : (a : Schema) (z : ℤ) → HasNumberedEffects fluents objects a → lifted.effects_clash objects a.effects ≡ false → s.values g ≡ Some z
      → lifted.value_after s.values a objects g ≡ Some (changed_value n.fluents (change_of fluents objects (filter (is_on objects g) a.effects)) z)
  value_after_agrees a z read none start =
      ap (λ x. fold (lifted.with_effect s.values objects g) x a.effects) start
      ∙ (own_alone a.effects (Some z)
      ∙ filtered a (filter (is_on objects g) a.effects) z read
      (λ e c. Contains-from_filter (is_on objects g) a.effects e c)
      (λ e c. no_cost e (passes-from_filter (is_on objects g) a.effects e c))
      (one_or_sums a.effects none))
