-- What has a fault has no grounding.
use Rattle.std.proofs.Common.{◌≡◌, ℕ, ◌≤◌, Bool, true, not, ◌&&◌, ◌||◌, ◌==◌, List, [], ◌∷◌, map, filter, Contains, Some, inl, inr, refl, sym, ap, ◌∙◌, subst, arith, true≢false}
use Rattle.std.specs.Prelude.{length, is_some, unwrap_or, ℤ, pos, negsuc, ◌+ℤ◌, nat_le, int_le, flat_map, if◌then◌else◌}
use Rattle.std.specs.List.{list_all, fold}
use Rattle.std.proofs.lemmas.Bool.{and_parts, and_from, not-true, leb-true}
use Rattle.std.proofs.lemmas.Option.{same_Some}
use Rattle.std.proofs.lemmas.List.{length-map}
use Rattle.std.proofs.lemmas.List.Elements.{Contains-append_cases}
use Rattle.hd_base.specs.declared.expression.Operand.TheVariants.{Number, Fluent}
use Rattle.hd_base.specs.Expression.{leaf, negate, binary}
use Rattle.hd_base.proofs.Distinct.{length-le_from_members}
use Rattle.hd_base.proofs.Members.{Contains-from_flat_map}
use Rattle.hd_base.proofs.Places.{length-all_zip}
use Rattle.hd_base.proofs.Tests.{find-Some}
use Rattle.hd_lifted.specs.declared.schema.Ground.{Ground}
use Rattle.hd_lifted.specs.declared.schema.NumericEffect.{NumericEffect}
use Rattle.hd_lifted.specs.declared.schema.Schema.{Schema}
use Rattle.hd_lifted.specs.declared.task.LiftedTask.{LiftedTask}
use Rattle.hd_lifted.specs.declared.instance.Instance.{Instance}
use Rattle.hd_lifted.specs.States.{first_value, initial_state}
use Rattle.hd_lifted.specs.Effects as lifted
use Rattle.hd_lifted.specs.Expressions as lifted_value
use Rattle.hd_lifted.specs.Plans.{IsInstance}
use Rattle.hd_task.specs.Expressions.{Expr, value_of}
use Rattle.hd_task.specs.WellFormed.{reads_below, is_constant_amount, constant_sum, costs_fit, constant_cost_fits}
use Rattle.hd_task.specs.declared.action.Action.{Action}
use Rattle.hd_task.specs.declared.task.Task.{Task}
use Rattle.hd_task.specs.declared.task.TheConstants.{MAX_ACTIONS, MAX_ATOMS, MAX_FLUENTS, MAX_AMOUNTS}
use Rattle.hd_lifted.specs.Amounts.{is_constant}
use Rattle.hd_lifted.specs.Kept.{IsKept}
use Rattle.hd_lifted.specs.Met.{met_by, met_by_goal}
use Rattle.hd_lifted.specs.Numbering.{HasMoreThan, IsTaskAtom, IsTaskFluent, NumbersInstances}
use Rattle.hd_lifted.proofs.Passing.{passes-from_all, Contains-slice_get}
use Rattle.hd_lifted.specs.Questions.{is_undefined, is_paid, has_constant_costs, costs_negative}
use Rattle.hd_grounding.specs.Images.{expression_of, amount_of, costs_of}
use Rattle.hd_grounding.specs.Grounding.{form_of, IsActionOf, IsGrounding}
use Rattle.hd_grounding.specs.Faults.{HasMoreAmounts, IsTooLarge, met_with, met_by_instance, met_by_all, negative_with, is_negative_instance, IsUndefined, IsNegative}
use Rattle.hd_grounding.proofs.Grounded.{instance_kept, action_kept, first_there, met_numbered, starts_agree}
use Rattle.hd_grounding.proofs.Paying.{costs_agree}

-- ---- limits

-- a list with each of a kind that is within the limit leaves no room for more
pub no_more : {X : Type 0} (Is : X → Type 0) (limit : ℕ) (xs : List X) → ((x : X) → Is x → Contains xs x) → length xs ≤ limit → HasMoreThan Is limit → ⊥
no_more Is limit xs each fits over =
    let longer = length-le_from_members over.some xs over.distinct (λ x c. each x (over.all x c)) in
    omega (arith, over.more, longer, fits)

-- ---- amounts

-- an action's amounts are within their limit
costs_within : (n : ℕ) (metric : Bool) (b : Action) → costs_fit n metric b ≡ true → length b.costs ≤ MAX_AMOUNTS
costs_within n metric b fits =
    let outer = and_parts ((metric || (length b.costs == 0)) && nat_le (length b.costs) MAX_AMOUNTS) (list_all (reads_below n) b.costs) fits in
    leb-true (length b.costs) MAX_AMOUNTS (and_parts (metric || (length b.costs == 0)) (nat_le (length b.costs) MAX_AMOUNTS) outer.0).1

pub length-costs : (t : LiftedTask) (fluents : List Ground) (objects : List ℕ) (a : Schema)
    → length (costs_of t fluents objects a) ≡ length (filter is_paid a.effects)
length-costs t fluents objects a = length-map (filter is_paid a.effects) (λ (e : NumericEffect). amount_of t fluents objects e.amount)

constant_number : (t : LiftedTask) (fluents : List Ground) (objects : List ℕ) (e : NumericEffect)
    → is_constant t e.amount ≡ true → is_constant_amount (amount_of t fluents objects e.amount) ≡ true
constant_number t fluents objects e constant =
    ap (λ b. is_constant_amount
    (if b then leaf (Number (unwrap_or (lifted_value.value_of (first_value t.values) objects e.amount) (pos 0)))
    else expression_of fluents objects e.amount)) constant

pub constant_numbers : (t : LiftedTask) (fluents : List Ground) (objects : List ℕ) (es : List NumericEffect)
    → list_all (λ (e : NumericEffect). is_constant t e.amount) es ≡ true
    → list_all is_constant_amount (map (λ (e : NumericEffect). amount_of t fluents objects e.amount) es) ≡ true
constant_numbers t fluents objects [] constant = refl
constant_numbers t fluents objects (e ∷ es) constant =
    let parts = and_parts (is_constant t e.amount) (list_all (λ (e : NumericEffect). is_constant t e.amount) es) constant in
    and_from (is_constant_amount (amount_of t fluents objects e.amount)) (list_all is_constant_amount (map (λ (e : NumericEffect). amount_of t fluents objects e.amount) es))
    (constant_number t fluents objects e parts.0) (constant_numbers t fluents objects es parts.1)

same_number : (f : List ℤ) (e : Expr) → is_constant_amount e ≡ true → value_of f e ≡ value_of [] e
same_number f (leaf (Number v)) number = refl
same_number f (leaf (Fluent j)) number = absurd (true≢false (sym number))
same_number f (negate x) number = absurd (true≢false (sym number))
same_number f (binary o x y) number = absurd (true≢false (sym number))

pub same_sum : (f : List ℤ) (es : List Expr) (z : ℤ) → list_all is_constant_amount es ≡ true
    → fold (λ sum e. sum +ℤ value_of f e) z es ≡ fold (λ sum e. sum +ℤ value_of [] e) z es
same_sum f [] z numbers = refl
same_sum f (e ∷ es) z numbers =
    let parts = and_parts (is_constant_amount e) (list_all is_constant_amount es) numbers in
    ap (λ x. fold (λ sum e. sum +ℤ value_of f e) (z +ℤ x) es) (same_number f e parts.0) ∙ same_sum f es (z +ℤ value_of [] e) parts.1

not_both : (z : ℤ) → int_le (pos 0) z ≡ true → lifted.is_negative (Some z) ≡ true → ⊥
not_both (pos n) le negative = true≢false (sym negative)
not_both (negsuc n) le negative = true≢false (sym le)

module _ (t : LiftedTask) (u : Task) (made : IsGrounding t u) where
  -- ---- nothing is too large

  sizes : (nat_le (length u.atoms) MAX_ATOMS ≡ true) × (nat_le (length u.fluents) MAX_FLUENTS ≡ true) × (nat_le (length u.actions) MAX_ACTIONS ≡ true)
  sizes =
      let first = and_parts (nat_le (length u.atoms) MAX_ATOMS && nat_le (length u.fluents) MAX_FLUENTS) (nat_le (length u.actions) MAX_ACTIONS) u.limits in
      let second = and_parts (nat_le (length u.atoms) MAX_ATOMS) (nat_le (length u.fluents) MAX_FLUENTS) first.0 in
      (second.0, second.1, first.1)

  few_amounts : HasMoreAmounts t → ⊥
  few_amounts over =
      let act = action_kept t u made over.instance over.kept in
      let is = act.3 in
      let same : is.schema ≡ over.schema = same_Some is.schema over.schema (sym is.is_schema ∙ over.is_schema) in
      let fits = passes-from_all (costs_fit (length u.fluents) u.metric) u.actions act.1 u.costs_fit (Contains-slice_get u.actions act.0 act.1 act.2) in
      let count = costs_within (length u.fluents) u.metric act.1 fits in
      let long : length act.1.costs ≡ length (filter is_paid over.schema.effects) =
      ap length is.costs ∙ (length-costs t made.fluents over.instance.objects is.schema ∙ ap (λ (a : Schema). length (filter is_paid a.effects)) same) in
      omega (arith, over.more, long, count)

  pub fits : IsTooLarge t → ⊥
  fits (IsTooLarge.actions over) =
      no_more (IsKept t) MAX_ACTIONS made.instances (λ i kept. (made.numbers_instances.exactly i).0 kept)
      (omega (arith, length-all_zip (IsActionOf t made.atoms made.fluents) made.instances u.actions made.actions_are, leb-true (length u.actions) MAX_ACTIONS sizes.2)) over
  fits (IsTooLarge.atoms over) =
      no_more (IsTaskAtom t) MAX_ATOMS made.atoms (λ g is. (made.numbers_atoms.exactly g).0 is)
      (omega (arith, ap length made.atoms_are ∙ length-map made.atoms form_of, leb-true (length u.atoms) MAX_ATOMS sizes.0)) over
  fits (IsTooLarge.fluents over) =
      no_more (IsTaskFluent t) MAX_FLUENTS made.fluents (λ g is. (made.numbers_fluents.exactly g).0 is)
      (omega (arith, ap length made.fluents_are ∙ length-map made.fluents form_of, leb-true (length u.fluents) MAX_FLUENTS sizes.1)) over
  fits (IsTooLarge.amounts over) = few_amounts over

  -- ---- each fluent that is met has a first value

  met_of : (i : Instance) (is : IsInstance t i) → met_by_instance t i ≡ met_by i.objects is.schema
  met_of i is = ap (λ o. met_with o i.objects) is.is_schema

  met_fluent : (instances : List Instance) → NumbersInstances t instances → (g : Ground) → Contains (met_by_all t instances) g → Contains made.fluents g
  met_fluent instances numbers g c =
      elim (Contains-append_cases (flat_map (met_by_instance t) instances) (met_by_goal t) g c) [
        | inl c ↦
            let from = Contains-from_flat_map (met_by_instance t) instances g c in
            let kept : IsKept t from.0 = (numbers.exactly from.0).1 from.1 in
            let is = instance_kept t from.0 kept in
            (made.numbers_fluents.exactly g).0 (IsTaskFluent.met from.0 is kept (subst (λ gs. Contains gs g) (met_of from.0 is) from.2))
        | inr c ↦ (made.numbers_fluents.exactly g).0 (IsTaskFluent.wanted c)
      ]

  pub defined : (g : Ground) → IsUndefined t g → ⊥
  defined g fault =
      let found = find-Some (is_undefined t) (met_by_all t fault.instances) g fault.is_first in
      let there = first_there t u made g (met_fluent fault.instances fault.numbers_instances g found.0) in
      true≢false (sym there ∙ not-true (is_some (first_value t.values g)) found.1)

  -- ---- no constant cost is negative

  costs_nothing_negative : (i : Instance) (is : IsInstance t i) → IsKept t i → costs_negative t is.schema i.objects ≡ true → ⊥
  unfolding initial_state
  costs_nothing_negative i is kept negative =
      let a = is.schema in
      let parts = and_parts (has_constant_costs t a) (lifted.is_negative (lifted.sum_of_costs (first_value t.values) a i.objects)) negative in
      let act = action_kept t u made i kept in
      let of = act.3 in
      let costs = costs_of t made.fluents i.objects a in
      let same : act.1.costs ≡ costs = of.costs ∙ ap (costs_of t made.fluents i.objects) (same_Some of.schema a (sym of.is_schema ∙ is.is_schema)) in
      let numbers : list_all is_constant_amount costs ≡ true = constant_numbers t made.fluents i.objects (filter is_paid a.effects) parts.0 in
      let sum : lifted.sum_of_costs (first_value t.values) a i.objects ≡ Some (constant_sum costs) =
      costs_agree t made.atoms made.fluents (initial_state t) u.initial (starts_agree t u made) (λ g _. refl) i.objects a (met_numbered t u made i is kept)
      ∙ ap Some (same_sum u.initial.fluents costs (pos 0) numbers) in
      let fits : constant_cost_fits act.1 ≡ true =
      passes-from_all constant_cost_fits u.actions act.1 u.constant_costs_fit (Contains-slice_get u.actions act.0 act.1 act.2) in
      let natural : int_le (pos 0) (constant_sum costs) ≡ true =
      sym (ap (λ b. not b || int_le (pos 0) (constant_sum costs)) numbers)
      ∙ (sym (ap (λ es. not (list_all is_constant_amount es) || int_le (pos 0) (constant_sum es)) same) ∙ fits) in
      not_both (constant_sum costs) natural (sym (ap lifted.is_negative sum) ∙ parts.1)

  pub not_negative : (i : Instance) → IsNegative t i → ⊥
  not_negative i fault =
      let found = find-Some (is_negative_instance t) fault.instances i fault.is_first in
      let kept : IsKept t i = (fault.numbers_instances.exactly i).1 found.0 in
      let is = instance_kept t i kept in
      costs_nothing_negative i is kept (sym (ap (λ o. negative_with t o i.objects) is.is_schema) ∙ found.1)
