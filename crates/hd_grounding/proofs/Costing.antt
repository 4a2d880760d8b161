-- The costs of what is counted fit: few amounts, none without a metric, and no constant cost below
-- 0.
use Rattle.std.proofs.Common.{◌≡◌, ℕ, Bool, true, false, List, [], ◌∷◌, map, filter, length, Contains, Some, None, slice_get, refl, sym, ap, ◌∙◌, arith, true≢false}
use Rattle.std.specs.Prelude.{◌&&◌, ◌||◌, ◌==◌, not, is_some, nat_le, int_le, unwrap_or, if◌then◌else◌, ℤ, pos, negsuc}
use Rattle.std.specs.List.{list_all, AllByRecursion}
use Rattle.std.proofs.lemmas.Bool.{and_parts, and_from, eq-eqb, le-leb}
use Rattle.std.proofs.lemmas.List.Folds.{list_all-map}
use Rattle.hd_base.specs.declared.expression.Operand.{Operand}
use Rattle.hd_base.specs.declared.expression.Operand.TheVariants.{Number, Fluent}
use Rattle.hd_base.specs.Expression.{Expression, leaf, negate, binary}
use Rattle.hd_base.proofs.Lists.{AllByRecursion-slice_get}
use Rattle.hd_base.proofs.Members.{Contains-from_filter}
use Rattle.hd_base.proofs.Tests.{find-None, list_all-from_each}
use Rattle.hd_lifted.specs.declared.schema.AppliedSymbol.{AppliedSymbol}
use Rattle.hd_lifted.specs.declared.schema.Ground.{Ground}
use Rattle.hd_lifted.specs.declared.schema.NumericEffect.{NumericEffect}
use Rattle.hd_lifted.specs.declared.schema.Schema.{Schema}
use Rattle.hd_lifted.specs.declared.task.LiftedTask.{LiftedTask}
use Rattle.hd_lifted.specs.declared.instance.Instance.{Instance}
use Rattle.hd_lifted.specs.Checked.{HasCostsByMetric}
use Rattle.hd_lifted.specs.Effects as lifted
use Rattle.hd_lifted.specs.Expressions as lifted_value
use Rattle.hd_lifted.specs.MetricUse.{HasNoCost}
use Rattle.hd_lifted.specs.States.{first_value, initial_state}
use Rattle.hd_task.specs.Expressions.{Expr}
use Rattle.hd_task.specs.WellFormed.{reads_below, is_constant_amount, constant_sum, costs_fit, constant_cost_fits}
use Rattle.hd_task.specs.declared.action.Action.{Action}
use Rattle.hd_task.specs.declared.task.TheConstants.{MAX_AMOUNTS}
use Rattle.hd_lifted.specs.Amounts.{is_changed, is_constant}
use Rattle.hd_lifted.specs.Kept.{IsKept}
use Rattle.hd_lifted.specs.Questions.{is_paid, has_constant_costs, costs_negative}
use Rattle.hd_grounding.specs.Images.{expression_of, amount_of, costs_of}
use Rattle.hd_grounding.specs.Grounding.{IsActionOf, start_in}
use Rattle.hd_grounding.specs.Faults.{negative_with, is_negative_instance}
use Rattle.hd_grounding.proofs.Faulty.{length-costs, same_sum}
use Rattle.hd_grounding.proofs.Paying.{costs_agree}
use Rattle.hd_grounding.specs.Counted.{AreCounted, AreFaultless}
use Rattle.hd_grounding.proofs.FittingActing.{effects_numbered}
use Rattle.hd_grounding.proofs.Reading.{HaveReadAmounts, expression_reads, amounts_read}
use Rattle.hd_grounding.proofs.Starting.{starts_agree}

-- ---- amounts that are paid

no_costs : (es : List NumericEffect) → AllByRecursion (λ (e : NumericEffect). lifted.is_cost e.change ≡ false) es → filter is_paid es ≡ []
no_costs [] none = refl
no_costs (e ∷ es) none = ap (λ b. if b then e ∷ filter is_paid es else filter is_paid es) none.0 ∙ no_costs es none.1

module _ (t : LiftedTask) (fluents : List Ground) (objects : List ℕ) where
  amount_reads : (e : NumericEffect) → reads_below (length fluents) (expression_of fluents objects e.amount) ≡ true
      → reads_below (length fluents) (amount_of t fluents objects e.amount) ≡ true
  amount_reads e reads =
      elim (is_constant t e.amount) as (λ b.
      reads_below (length fluents)
      (if b then leaf (Number (unwrap_or (lifted_value.value_of (first_value t.values) objects e.amount) (pos 0)))
      else expression_of fluents objects e.amount) ≡ true) [ true ↦ refl | false ↦ reads ]

  costs_read : (a : Schema) → HaveReadAmounts fluents objects a.effects → list_all (reads_below (length fluents)) (costs_of t fluents objects a) ≡ true
  costs_read a read =
      list_all-map (reads_below (length fluents)) (λ (e : NumericEffect). amount_of t fluents objects e.amount) (filter is_paid a.effects)
      ∙ list_all-from_each (λ (e : NumericEffect). reads_below (length fluents) (amount_of t fluents objects e.amount)) (filter is_paid a.effects)
      (λ e c. amount_reads e (expression_reads fluents objects e.amount (read e (Contains-from_filter is_paid a.effects e c))))

  paid_by_metric : HasCostsByMetric t → (k : ℕ) (a : Schema) → slice_get t.schemas k ≡ Some a
      → (is_some t.metric || (length (costs_of t fluents objects a) == 0)) ≡ true
  paid_by_metric by k a at =
      elim t.metric as (λ o. t.metric ≡ o → (is_some o || (length (costs_of t fluents objects a) == 0)) ≡ true) [
        | Some f ↦ λ _. refl
        | None ↦ λ e.
            let none : filter is_paid a.effects ≡ [] = no_costs a.effects (AllByRecursion-slice_get HasNoCost t.schemas k a (by e) at) in
            eq-eqb (length (costs_of t fluents objects a)) 0 (length-costs t fluents objects a ∙ ap length none)
      ] refl

  -- ---- amounts that are constant

  -- what became a number was constant
  fluent_constant : (f : AppliedSymbol) (changed : Bool)
      → is_constant_amount
      (if not changed then leaf (Number (unwrap_or (lifted_value.value_of (first_value t.values) objects (leaf (Fluent f))) (pos 0)))
      else expression_of fluents objects (leaf (Fluent f))) ≡ true
      → not changed ≡ true
  fluent_constant f true number = absurd (true≢false (sym number))
  fluent_constant f false number = refl

  constant_from : (x : Expression (Operand AppliedSymbol)) → is_constant_amount (amount_of t fluents objects x) ≡ true → is_constant t x ≡ true
  constant_from (leaf (Number v)) number = refl
  constant_from (leaf (Fluent f)) number = fluent_constant f (is_changed t f.symbol) number
  constant_from (negate x) number = absurd (true≢false (sym number))
  constant_from (binary o x y) number = absurd (true≢false (sym number))

  constants_from : (es : List NumericEffect) → list_all is_constant_amount (map (λ (e : NumericEffect). amount_of t fluents objects e.amount) es) ≡ true
      → list_all (λ (e : NumericEffect). is_constant t e.amount) es ≡ true
  constants_from [] numbers = refl
  constants_from (e ∷ es) numbers =
      let rest = map (λ (e : NumericEffect). amount_of t fluents objects e.amount) es in
      let parts = and_parts (is_constant_amount (amount_of t fluents objects e.amount)) (list_all is_constant_amount rest) numbers in
      and_from (is_constant t e.amount) (list_all (λ (e : NumericEffect). is_constant t e.amount) es)
      (constant_from e.amount parts.0) (constants_from es parts.1)

natural : (z : ℤ) → lifted.is_negative (Some z) ≡ false → int_le (pos 0) z ≡ true
natural (pos n) e = le-leb 0 n (omega arith)
natural (negsuc n) e = absurd (true≢false e)

not_both : (x y : Bool) → (x && y) ≡ false → x ≡ true → y ≡ false
not_both true y e is = e
not_both false y e is = absurd (true≢false (sym is))

module _ (t : LiftedTask) (instances : List Instance) (atoms fluents : List Ground) (counted : AreCounted t instances atoms fluents) (i : Instance) (b : Action) (among : Contains instances i) (kept : IsKept t i) (is : IsActionOf t atoms fluents i b) where
  abbrev a : Schema
  a = is.schema

  abbrev costs : List Expr
  costs = costs_of t fluents i.objects a

  pub pays : HasCostsByMetric t → costs_fit (length fluents) (is_some t.metric) b ≡ true
  pays by =
      let fits =
      and_from ((is_some t.metric || (length costs == 0)) && nat_le (length costs) MAX_AMOUNTS) (list_all (reads_below (length fluents)) costs)
      (and_from (is_some t.metric || (length costs == 0)) (nat_le (length costs) MAX_AMOUNTS)
      (paid_by_metric t fluents i.objects by i.schema a is.is_schema)
      (le-leb (length costs) MAX_AMOUNTS (omega (arith, length-costs t fluents i.objects a, counted.few_amounts i a among is.is_schema))))
      (costs_read t fluents i.objects a (amounts_read fluents i.objects a.effects (effects_numbered t instances atoms fluents counted i b kept is))) in
      ap (λ es. (is_some t.metric || (length es == 0)) && nat_le (length es) MAX_AMOUNTS && list_all (reads_below (length fluents)) es) is.costs ∙ fits

  sum_natural : AreFaultless t instances → list_all is_constant_amount costs ≡ true → int_le (pos 0) (constant_sum costs) ≡ true
  unfolding initial_state
  sum_natural faultless numbers =
      let found = find-None (is_negative_instance t) instances i faultless.none_negative among in
      let none : costs_negative t a i.objects ≡ false = sym (ap (λ o. negative_with t o i.objects) is.is_schema) ∙ found in
      let sum : lifted.sum_of_costs (first_value t.values) a i.objects ≡ Some (constant_sum costs) =
      costs_agree t atoms fluents (initial_state t) (start_in t atoms fluents) (starts_agree t instances atoms fluents counted faultless) (λ g _. refl)
      i.objects a (effects_numbered t instances atoms fluents counted i b kept is)
      ∙ ap Some (same_sum (start_in t atoms fluents).fluents costs (pos 0) numbers) in
      natural (constant_sum costs)
      (sym (ap lifted.is_negative sum)
      ∙ not_both (has_constant_costs t a) (lifted.is_negative (lifted.sum_of_costs (first_value t.values) a i.objects)) none
      (constants_from t fluents i.objects (filter is_paid a.effects) numbers))

  pub pays_nothing_negative : AreFaultless t instances → constant_cost_fits b ≡ true
  pays_nothing_negative faultless =
      ap (λ es. not (list_all is_constant_amount es) || int_le (pos 0) (constant_sum es)) is.costs
      ∙ (elim (list_all is_constant_amount costs) as (λ n. list_all is_constant_amount costs ≡ n → (not n || int_le (pos 0) (constant_sum costs)) ≡ true) [
        | true ↦ λ e. sum_natural faultless e
        | false ↦ λ _. refl
      ] refl)
