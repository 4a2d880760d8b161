-- A number leaves the range in the domain exactly where it does in the task.
use Rattle.std.proofs.Common.{◌≡◌, ℕ, Bool, true, false, not, ◌&&◌, ◌||◌, List, [], ◌∷◌, map, filter, Contains, Some, slice_get, inl, inr, refl, sym, ap, ◌∙◌, subst, arith}
use Rattle.std.specs.Prelude.{length, ◌≤◌, ◌⊎◌, if◌then◌else◌, flat_map, option_map, unwrap_or, ℤ, pos, neg_ℤ}
use Rattle.std.specs.List.{list_all}
use Rattle.std.proofs.lemmas.Bool.{and_parts, and_from}
use Rattle.std.proofs.lemmas.List.Elements.{Contains-append_left, Contains-append_right}
use Rattle.std.proofs.lemmas.Option.{none-some, same_Some}
use Rattle.hd_base.specs.declared.expression.Operand.{Operand}
use Rattle.hd_base.specs.declared.expression.Operand.TheVariants.{Number, Fluent}
use Rattle.hd_base.specs.Expression.{Expression, leaf, negate, binary}
use Rattle.hd_base.specs.Numbers.{result_of, in_range, fits}
use Rattle.hd_base.specs.Values.{of_both}
use Rattle.hd_base.proofs.Members.{Contains-first, Contains-map, Contains-filter, Contains-flat_map, Contains-from_filter, passes-from_filter, Contains-nil, IsFrom-from_map}
use Rattle.hd_base.proofs.Places.{place_of}
use Rattle.hd_base.proofs.Tests.{list_all-from_each}
use Rattle.hd_base.proofs.Truth.{each_way}
use Rattle.hd_lifted.specs.declared.schema.AppliedSymbol.{AppliedSymbol}
use Rattle.hd_lifted.specs.declared.schema.Ground.{Ground}
use Rattle.hd_lifted.specs.declared.schema.ChangeKind as lifted_change
use Rattle.hd_lifted.specs.declared.schema.ChangeKind.TheVariants as lifted_changes
use Rattle.hd_lifted.specs.declared.schema.Comparison as lifted_comparison
use Rattle.hd_lifted.specs.declared.schema.Condition as lifted_condition
use Rattle.hd_lifted.specs.declared.schema.NumericEffect.{NumericEffect}
use Rattle.hd_lifted.specs.declared.task.LiftedTask.{LiftedTask}
use Rattle.hd_lifted.specs.declared.instance.Instance.{Instance}
use Rattle.hd_lifted.specs.States as domain
use Rattle.hd_lifted.specs.Expressions as lifted_value
use Rattle.hd_lifted.specs.Conditions as meaning
use Rattle.hd_lifted.specs.Effects as lifted
use Rattle.hd_task.specs.declared.state.State.{State}
use Rattle.hd_task.specs.declared.effect.SumPart.{SumPart}
use Rattle.hd_task.specs.declared.effect.Effect.{Effect}
use Rattle.hd_task.specs.declared.effect.ValueChange.{ValueChange}
use Rattle.hd_task.specs.declared.action.Action.{Action}
use Rattle.hd_task.specs.declared.task.Task.{Task}
use Rattle.hd_task.specs.Conditions.{literals_hold, comparison_stays, condition_departs}
use Rattle.hd_task.specs.Expressions.{Expr, fluent_of, stays_in_range}
use Rattle.hd_task.specs.Effects.{value_by_change, new_value, term_stays, change_stays, effect_stays, effects_stay}
use Rattle.hd_lifted.specs.Amounts.{is_changed}
use Rattle.hd_lifted.specs.Kept.{IsKept}
use Rattle.hd_lifted.specs.Met.{fluents_in, changed_by, met_by_comparison, met_by_effect}
use Rattle.hd_lifted.proofs.Passing.{passes-from_all}
use Rattle.hd_lifted.proofs.Sound.{and-true, same-refl}
use Rattle.hd_lifted.specs.Questions.{is_paid}
use Rattle.hd_grounding.specs.Images.{expression_of, comparison_of, condition_of, amount_of, is_on, term_by, term_of, change_by, change_of, changed_value}
use Rattle.hd_grounding.specs.Agreement.{Agree, IsNumbered, KeepsFirstValues}
use Rattle.hd_grounding.specs.Grounding.{IsActionOf, IsGrounding}
use Rattle.hd_grounding.proofs.Holding.{value_agrees, atoms_hold_alike}
use Rattle.hd_grounding.proofs.Writing.{no_cost, on_it, one_or_sums, value_after_agrees}
use Rattle.hd_grounding.proofs.Steps.{met, compatible, change_there}

-- ---- changes

-- a change of a single effect stays in the range where its amount does
one_stays : (f : List ℤ) (c : lifted_change.ChangeKind) (x : Expr) → change_stays f (change_by c x (term_by c x ∷ [])) ≡ (stays_in_range f x && true)
one_stays f lifted_changes.Assign x = sym (and-true (stays_in_range f x))
one_stays f lifted_changes.ScaleUp x = sym (and-true (stays_in_range f x))
one_stays f lifted_changes.Increase x = refl
one_stays f lifted_changes.Decrease x = refl
one_stays f lifted_changes.Cost x = refl

-- a sum does where each of its terms does
sum_stays : (f : List ℤ) (c : lifted_change.ChangeKind) (x : Expr) (terms : List SumPart) → lifted.stands_alone c ≡ false
    → change_stays f (change_by c x terms) ≡ list_all (term_stays f) terms
sum_stays f lifted_changes.Assign x terms alone = absurd (cc)
sum_stays f lifted_changes.ScaleUp x terms alone = absurd (cc)
sum_stays f lifted_changes.Increase x terms alone = refl
sum_stays f lifted_changes.Decrease x terms alone = refl
sum_stays f lifted_changes.Cost x terms alone = refl

term_stays-by : (f : List ℤ) (c : lifted_change.ChangeKind) (x : Expr) → term_stays f (term_by c x) ≡ stays_in_range f x
term_stays-by f lifted_changes.Assign x = refl
term_stays-by f lifted_changes.ScaleUp x = refl
term_stays-by f lifted_changes.Increase x = refl
term_stays-by f lifted_changes.Decrease x = refl
term_stays-by f lifted_changes.Cost x = refl

module _ (fluents : List Ground) (f : List ℤ) (objects : List ℕ) where
  -- an effect's amount stays in the range
  abbrev amount_stays : NumericEffect → Bool
  amount_stays e = stays_in_range f (expression_of fluents objects e.amount)

  terms_stay : (es : List NumericEffect) → list_all (term_stays f) (map (term_of fluents objects) es) ≡ list_all amount_stays es
  terms_stay [] = refl
  terms_stay (e ∷ es) =
      ap (λ b. b && list_all (term_stays f) (map (term_of fluents objects) es)) (term_stays-by f e.change (expression_of fluents objects e.amount))
      ∙ ap (λ b. amount_stays e && b) (terms_stay es)

  -- the change that effects make stays where each of their amounts does
  pub change_stays-of : (es : List NumericEffect) (c : ValueChange)
      → ((x : NumericEffect) → Contains es x → lifted.stands_alone x.change ≡ false) ⊎ (length es ≤ 1)
      → change_of fluents objects es ≡ Some c → change_stays f c ≡ list_all amount_stays es
  change_stays-of [] c shape is = absurd (none-some c is)
  change_stays-of (e ∷ []) c shape is =
      ap (change_stays f) (sym (same_Some (change_by e.change (expression_of fluents objects e.amount) (term_of fluents objects e ∷ [])) c is))
      ∙ one_stays f e.change (expression_of fluents objects e.amount)
  change_stays-of (e ∷ g ∷ es) c (inr few) is = absurd (omega (arith, few))
  change_stays-of (e ∷ g ∷ es) c (inl sums) is =
      ap (change_stays f)
      (sym (same_Some (change_by e.change (expression_of fluents objects e.amount) (map (term_of fluents objects) (e ∷ g ∷ es))) c is))
      ∙ (sum_stays f e.change (expression_of fluents objects e.amount) (map (term_of fluents objects) (e ∷ g ∷ es)) (sums e (Contains-first e (g ∷ es)))
      ∙ terms_stay (e ∷ g ∷ es))

  -- a change comes from an effect, and an effect makes a change
  effect_there : (es : List NumericEffect) (c : ValueChange) → change_of fluents objects es ≡ Some c → (e : NumericEffect) × Contains es e
  effect_there [] c is = absurd (none-some c is)
  effect_there (e ∷ es) c is = (e, Contains-first e es)

  change_made : (es : List NumericEffect) (e : NumericEffect) → Contains es e → (c : ValueChange) × (change_of fluents objects es ≡ Some c)
  change_made [] e c = absurd (Contains-nil e c)
  change_made (x ∷ es) e c = (change_by x.change (expression_of fluents objects x.amount) (map (term_of fluents objects) (x ∷ es)), refl)

-- ---- expressions and conditions

module _ (atoms fluents : List Ground) (s : domain.State) (n : State) (agree : Agree atoms fluents s n) (objects : List ℕ) where
  stays_agrees :
      (e : Expression (Operand AppliedSymbol)) → ((g : Ground) → Contains (fluents_in objects e) g → Contains fluents g)
      → lifted_value.stays_in_range s.values objects e ≡ stays_in_range n.fluents (expression_of fluents objects e)
  stays_agrees (leaf (Number v)) read = refl
  stays_agrees (leaf (Fluent a)) read = ap fits (value_agrees atoms fluents s n agree objects (leaf (Fluent a)) read)
  stays_agrees (negate x) read =
      ap (λ b. b && fits (option_map neg_ℤ (lifted_value.value_of s.values objects x))) (stays_agrees x read)
      ∙ ap (λ v. stays_in_range n.fluents (expression_of fluents objects x) && fits v) (value_agrees atoms fluents s n agree objects (negate x) read)
  stays_agrees (binary o x y) read =
      let left = stays_agrees x (λ g c. read g (Contains-append_left (fluents_in objects x) (fluents_in objects y) g c)) in
      let right = stays_agrees y (λ g c. read g (Contains-append_right (fluents_in objects x) (fluents_in objects y) g c)) in
      let value = of_both (result_of o) (lifted_value.value_of s.values objects x) (lifted_value.value_of s.values objects y) in
      ap (λ b. (b && lifted_value.stays_in_range s.values objects y) && fits value) left
      ∙ (ap (λ b. (stays_in_range n.fluents (expression_of fluents objects x) && b) && fits value) right
      ∙ ap (λ v. (stays_in_range n.fluents (expression_of fluents objects x) && stays_in_range n.fluents (expression_of fluents objects y)) && fits v)
      (value_agrees atoms fluents s n agree objects (binary o x y) read))

  comparison_alike :
      (c : lifted_comparison.Comparison) → ((g : Ground) → Contains (met_by_comparison objects c) g → Contains fluents g)
      → meaning.comparison_stays s.values objects c ≡ comparison_stays n.fluents (comparison_of fluents objects c)
  comparison_alike c read =
      let left = stays_agrees c.left (λ g k. read g (Contains-append_left (fluents_in objects c.left) (fluents_in objects c.right) g k)) in
      let right = stays_agrees c.right (λ g k. read g (Contains-append_right (fluents_in objects c.left) (fluents_in objects c.right) g k)) in
      ap (λ b. b && lifted_value.stays_in_range s.values objects c.right) left
      ∙ ap (λ b. stays_in_range n.fluents (expression_of fluents objects c.left) && b) right

  comparisons_alike :
      (cs : List lifted_comparison.Comparison) → ((g : Ground) → Contains (flat_map (met_by_comparison objects) cs) g → Contains fluents g)
      → list_all (meaning.comparison_stays s.values objects) cs ≡ list_all (comparison_stays n.fluents) (map (comparison_of fluents objects) cs)
  comparisons_alike [] read = refl
  comparisons_alike (c ∷ cs) read =
      let first = comparison_alike c (λ g k. read g (Contains-append_left (met_by_comparison objects c) (flat_map (met_by_comparison objects) cs) g k)) in
      let rest = comparisons_alike cs (λ g k. read g (Contains-append_right (met_by_comparison objects c) (flat_map (met_by_comparison objects) cs) g k)) in
      ap (λ b. b && list_all (meaning.comparison_stays s.values objects) cs) first
      ∙ ap (λ b. comparison_stays n.fluents (comparison_of fluents objects c) && b) rest

  -- a condition departs in both or in neither
  pub condition_alike : (c : lifted_condition.Condition) → IsNumbered atoms fluents objects c
      → meaning.condition_departs s objects c ≡ condition_departs n (condition_of atoms fluents objects c)
  unfolding meaning.condition_departs condition_departs
  condition_alike c numbered =
      ap (λ b. b && not (meaning.comparisons_stay s objects c)) (atoms_hold_alike atoms fluents s n agree objects c numbered)
      ∙ ap (λ b. literals_hold n (condition_of atoms fluents objects c) && not b) (comparisons_alike c.comparisons numbered.read)

  -- ---- amounts of costs

  module _ (t : LiftedTask) (first : KeepsFirstValues t s) where
    fluent_paid :
        (a : AppliedSymbol) (changed : Bool) → is_changed t a.symbol ≡ changed
        → ((g : Ground) → Contains (fluents_in objects (leaf (Fluent a))) g → Contains fluents g)
        → lifted_value.stays_in_range s.values objects (leaf (Fluent a))
        ≡ stays_in_range n.fluents
        (if not changed then leaf (Number (unwrap_or (domain.first_value t.values (domain.ground_form_of objects a)) (pos 0)))
        else expression_of fluents objects (leaf (Fluent a)))
    fluent_paid a true is read = stays_agrees (leaf (Fluent a)) read
    fluent_paid a false is read =
        let now = value_agrees atoms fluents s n agree objects (leaf (Fluent a)) read in
        let at_first = sym (first (domain.ground_form_of objects a) is) ∙ now in
        ap fits now ∙ ap (λ o. in_range (unwrap_or o (pos 0))) (sym at_first)

    pub paid_alike :
        (e : Expression (Operand AppliedSymbol)) → ((g : Ground) → Contains (fluents_in objects e) g → Contains fluents g)
        → lifted_value.stays_in_range s.values objects e ≡ stays_in_range n.fluents (amount_of t fluents objects e)
    paid_alike (leaf (Number v)) read = refl
    paid_alike (leaf (Fluent a)) read = fluent_paid a (is_changed t a.symbol) refl read
    paid_alike (negate x) read = stays_agrees (negate x) read
    paid_alike (binary o x y) read = stays_agrees (binary o x y) read

-- ---- effects

module _ (t : LiftedTask) (u : Task) (made : IsGrounding t u) (i : Instance) (b : Action) (kept : IsKept t i) (of : IsActionOf t made.atoms made.fluents i b) (s : domain.State) (n : State) (agree : Agree made.atoms made.fluents s n) (first : KeepsFirstValues t s) where
  abbrev own : NumericEffect → Bool
  own e = lifted.effect_stays s.values of.schema i.objects e

  -- the effects on a fluent
  abbrev on : Ground → List NumericEffect
  on g = filter (is_on i.objects g) of.schema.effects

  abbrev amount : NumericEffect → Bool
  amount e = amount_stays made.fluents n.fluents i.objects e

  read : (e : NumericEffect) → Contains of.schema.effects e → (g : Ground) → Contains (fluents_in i.objects e.amount) g → Contains made.fluents g
  read e c g k =
      met t u made i b kept of g
      (Contains-flat_map (met_by_effect i.objects) of.schema.effects e g c (Contains-append_right (changed_by i.objects e) (fluents_in i.objects e.amount) g k))

  amount_alike : (e : NumericEffect) → Contains of.schema.effects e → lifted_value.stays_in_range s.values i.objects e.amount ≡ amount e
  amount_alike e c = stays_agrees made.atoms made.fluents s n agree i.objects e.amount (read e c)

  changes_alike : (g : Ground) (c : ValueChange) → change_of made.fluents i.objects (on g) ≡ Some c → change_stays n.fluents c ≡ list_all amount (on g)
  changes_alike g c is =
      change_stays-of made.fluents n.fluents i.objects (on g) c
      (one_or_sums made.atoms made.fluents s n agree i.objects g of.schema.effects (compatible t u made i b kept of)) is

  -- a fluent's new value is in the range in both or in neither
  value_alike : (k : ℕ) (g : Ground) (c : ValueChange) → slice_get made.fluents k ≡ Some g → change_of made.fluents i.objects (on g) ≡ Some c
      → fits (lifted.value_after s.values of.schema i.objects g) ≡ in_range (value_by_change n.fluents c (fluent_of n.fluents k))
  value_alike k g c at is =
      ap fits
      (value_after_agrees made.atoms made.fluents s n agree i.objects g of.schema (fluent_of n.fluents k) (met t u made i b kept of)
      (compatible t u made i b kept of) (agree.same_values k g at)
      ∙ ap (λ o. Some (changed_value n.fluents o (fluent_of n.fluents k))) is)

  -- ---- from the domain to the task

  module _ (stay : list_all own of.schema.effects ≡ true) where
    own_stays : (e : NumericEffect) → Contains of.schema.effects e
        → (lifted_value.stays_in_range s.values i.objects e.amount ≡ true)
        × ((lifted.is_cost e.change || fits (lifted.value_after s.values of.schema i.objects (domain.ground_form_of i.objects e.fluent))) ≡ true)
    own_stays e c =
        and_parts (lifted_value.stays_in_range s.values i.objects e.amount)
        (lifted.is_cost e.change || fits (lifted.value_after s.values of.schema i.objects (domain.ground_form_of i.objects e.fluent)))
        (passes-from_all own of.schema.effects e stay c)

    value_stays : (g : Ground) (e : NumericEffect) → Contains (on g) e → fits (lifted.value_after s.values of.schema i.objects g) ≡ true
    value_stays g e c =
        let is_here = passes-from_filter (is_on i.objects g) of.schema.effects e c in
        let here = on_it made.atoms made.fluents s n agree i.objects g e is_here in
        let free = no_cost made.atoms made.fluents s n agree i.objects g e is_here in
        ap (λ h. fits (lifted.value_after s.values of.schema i.objects h)) (sym here)
        ∙ (ap (λ x. x || fits (lifted.value_after s.values of.schema i.objects (domain.ground_form_of i.objects e.fluent))) (sym free)
        ∙ (own_stays e (Contains-from_filter (is_on i.objects g) of.schema.effects e c)).1)

    effect_there_stays : (e : Effect) → Contains b.effects e → effect_stays n.fluents e ≡ true
    effect_there_stays e c =
        let is = (of.effects.exactly e).1 c in
        let some = effect_there made.fluents n.fluents i.objects (on is.fluent) e.change is.is_change in
        let amounts : list_all amount (on is.fluent) ≡ true =
        list_all-from_each amount (on is.fluent)
        (λ x k. let k = Contains-from_filter (is_on i.objects is.fluent) of.schema.effects x k in sym (amount_alike x k) ∙ (own_stays x k).0) in
        and_from (change_stays n.fluents e.change) (in_range (new_value n.fluents e))
        (changes_alike is.fluent e.change is.is_change ∙ amounts)
        (sym (value_alike e.fluent is.fluent e.change is.is_numbered is.is_change) ∙ value_stays is.fluent some.0 some.1)

    cost_there_stays : (x : Expr) → Contains b.costs x → stays_in_range n.fluents x ≡ true
    cost_there_stays x c =
        let from =
        IsFrom-from_map (λ (e : NumericEffect). amount_of t made.fluents i.objects e.amount) (filter is_paid of.schema.effects) x
        (subst (λ es. Contains es x) of.costs c) in
        let among = Contains-from_filter is_paid of.schema.effects from.source from.among in
        ap (stays_in_range n.fluents) (sym from.is)
        ∙ (sym (paid_alike made.atoms made.fluents s n agree i.objects t first from.source.amount (read from.source among)) ∙ (own_stays from.source among).0)

    there : (list_all (effect_stays n.fluents) b.effects && list_all (stays_in_range n.fluents) b.costs) ≡ true
    there =
        and_from (list_all (effect_stays n.fluents) b.effects) (list_all (stays_in_range n.fluents) b.costs)
        (list_all-from_each (effect_stays n.fluents) b.effects effect_there_stays) (list_all-from_each (stays_in_range n.fluents) b.costs cost_there_stays)

  -- ---- and back

  module _ (effects : list_all (effect_stays n.fluents) b.effects ≡ true) (costs : list_all (stays_in_range n.fluents) b.costs ≡ true) where
    paid_stays : (e : NumericEffect) → Contains of.schema.effects e → lifted.is_cost e.change ≡ true → lifted_value.stays_in_range s.values i.objects e.amount ≡ true
    paid_stays e c paid =
        let among : Contains b.costs (amount_of t made.fluents i.objects e.amount) =
        subst (λ es. Contains es (amount_of t made.fluents i.objects e.amount)) (sym of.costs)
        (Contains-map (λ (e : NumericEffect). amount_of t made.fluents i.objects e.amount) (filter is_paid of.schema.effects) e
        (Contains-filter is_paid of.schema.effects e c paid)) in
        paid_alike made.atoms made.fluents s n agree i.objects t first e.amount (read e c)
        ∙ passes-from_all (stays_in_range n.fluents) b.costs (amount_of t made.fluents i.objects e.amount) costs among

    changed_numbered : (e : NumericEffect) → Contains of.schema.effects e → lifted.is_cost e.change ≡ false → Contains made.fluents (domain.ground_form_of i.objects e.fluent)
    changed_numbered e c free =
        let g = domain.ground_form_of i.objects e.fluent in
        met t u made i b kept of g
        (Contains-flat_map (met_by_effect i.objects) of.schema.effects e g c
        (Contains-append_left (changed_by i.objects e) (fluents_in i.objects e.amount) g
        (subst (λ x. Contains (if x then [] else g ∷ []) g) (sym free) (Contains-first g []))))

    changed_stays : (e : NumericEffect) → Contains of.schema.effects e → lifted.is_cost e.change ≡ false
        → (lifted_value.stays_in_range s.values i.objects e.amount ≡ true)
        × (fits (lifted.value_after s.values of.schema i.objects (domain.ground_form_of i.objects e.fluent)) ≡ true)
    changed_stays e c free =
        let g = domain.ground_form_of i.objects e.fluent in
        let place = place_of made.fluents g (changed_numbered e c free) in
        let is_here : is_on i.objects g e ≡ true = ap (λ x. not x && domain.same g g) free ∙ same-refl g in
        let among : Contains (on g) e = Contains-filter (is_on i.objects g) of.schema.effects e c is_here in
        let change = change_made made.fluents n.fluents i.objects (on g) e among in
        let there = change_there t u made i b kept of s n agree place.0 g change.0 place.1 change.1 in
        let stays = and_parts (change_stays n.fluents change.0) (in_range (value_by_change n.fluents change.0 (fluent_of n.fluents place.0)))
        (passes-from_all (effect_stays n.fluents) b.effects (record { fluent = place.0; change = change.0 }) effects there) in (
          amount_alike e c ∙ passes-from_all amount (on g) e (sym (changes_alike g change.0 change.1) ∙ stays.0) among,
          value_alike place.0 g change.0 place.1 change.1 ∙ stays.1,
        )

    own_back : (e : NumericEffect) → Contains of.schema.effects e → own e ≡ true
    own_back e c =
        let value = lifted.value_after s.values of.schema i.objects (domain.ground_form_of i.objects e.fluent) in
        elim (lifted.is_cost e.change) as (λ x. lifted.is_cost e.change ≡ x → own e ≡ true) [
          | true ↦ λ paid.
              and_from (lifted_value.stays_in_range s.values i.objects e.amount) (lifted.is_cost e.change || fits value)
              (paid_stays e c paid) (ap (λ x. x || fits value) paid)
          | false ↦ λ free.
              let k = changed_stays e c free in
              and_from (lifted_value.stays_in_range s.values i.objects e.amount) (lifted.is_cost e.change || fits value)
              k.0 (ap (λ x. x || fits value) free ∙ k.1)
        ] refl

  -- the effects and the costs stay in the range in both or in neither
  pub effects_alike : lifted.effects_stay s.values of.schema i.objects ≡ effects_stay n b
  unfolding lifted.effects_stay effects_stay
  effects_alike =
      each_way (list_all own of.schema.effects) (list_all (effect_stays n.fluents) b.effects && list_all (stays_in_range n.fluents) b.costs) there
      (λ stay.
      let parts = and_parts (list_all (effect_stays n.fluents) b.effects) (list_all (stays_in_range n.fluents) b.costs) stay in
      list_all-from_each own of.schema.effects (own_back parts.0 parts.1))
