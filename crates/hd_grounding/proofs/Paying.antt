-- The costs of an action, in the domain and in numbers.
use Rattle.std.proofs.Common.{◌≡◌, ℕ, Bool, true, false, not, List, [], ◌∷◌, map, filter, Contains, Some, sym, ap, ◌∙◌, refl}
use Rattle.std.specs.Prelude.{if◌then◌else◌, flat_map, unwrap_or, ℤ, pos, ◌+ℤ◌}
use Rattle.std.specs.List.{fold}
use Rattle.std.proofs.lemmas.List.Elements.{Contains-append_left, Contains-append_right}
use Rattle.hd_base.specs.declared.expression.Operand.{Operand}
use Rattle.hd_base.specs.declared.expression.Operand.TheVariants.{Number, Fluent}
use Rattle.hd_base.specs.Expression.{Expression, leaf, negate, binary}
use Rattle.hd_base.specs.Values.{of_both}
use Rattle.hd_lifted.specs.declared.schema.AppliedSymbol.{AppliedSymbol}
use Rattle.hd_lifted.specs.declared.schema.Ground.{Ground}
use Rattle.hd_lifted.specs.declared.schema.NumericEffect.{NumericEffect}
use Rattle.hd_lifted.specs.declared.schema.Schema.{Schema}
use Rattle.hd_lifted.specs.declared.task.LiftedTask.{LiftedTask}
use Rattle.hd_lifted.specs.States as domain
use Rattle.hd_lifted.specs.Expressions as lifted_value
use Rattle.hd_lifted.specs.Effects as lifted
use Rattle.hd_task.specs.declared.state.State.{State}
use Rattle.hd_task.specs.Expressions.{value_of}
use Rattle.hd_task.specs.Effects.{sum_of_costs}
use Rattle.hd_lifted.specs.Amounts.{is_changed}
use Rattle.hd_lifted.specs.Met.{fluents_in, changed_by, met_by_effect}
use Rattle.hd_lifted.specs.Questions.{is_paid}
use Rattle.hd_grounding.specs.Images.{expression_of, amount_of, costs_of}
use Rattle.hd_grounding.specs.Agreement.{Agree, KeepsFirstValues, HasNumberedEffects}
use Rattle.hd_grounding.proofs.Holding.{value_agrees}

module _ (t : LiftedTask) (atoms fluents : List Ground) (s : domain.State) (n : State) (agree : Agree atoms fluents s n) (first : KeepsFirstValues t s) (objects : List ℕ) where
  fluent_amount :
      (f : AppliedSymbol) (changed : Bool) → is_changed t f.symbol ≡ changed
      → ((g : Ground) → Contains (fluents_in objects (leaf (Fluent f))) g → Contains fluents g)
      → lifted_value.value_of s.values objects (leaf (Fluent f))
      ≡ Some (value_of n.fluents
      (if not changed then leaf (Number (unwrap_or (domain.first_value t.values (domain.ground_form_of objects f)) (pos 0)))
      else expression_of fluents objects (leaf (Fluent f))))
  fluent_amount f true is read = value_agrees atoms fluents s n agree objects (leaf (Fluent f)) read
  fluent_amount f false is read =
      let now = value_agrees atoms fluents s n agree objects (leaf (Fluent f)) read in
      let at_first = sym (first (domain.ground_form_of objects f) is) ∙ now in
      now ∙ ap (λ o. Some (unwrap_or o (pos 0))) (sym at_first)

  amount_agrees :
      (e : Expression (Operand AppliedSymbol)) → ((g : Ground) → Contains (fluents_in objects e) g → Contains fluents g)
      → lifted_value.value_of s.values objects e ≡ Some (value_of n.fluents (amount_of t fluents objects e))
  amount_agrees (leaf (Number v)) read = refl
  amount_agrees (leaf (Fluent f)) read = fluent_amount f (is_changed t f.symbol) refl read
  amount_agrees (negate x) read = value_agrees atoms fluents s n agree objects (negate x) read
  amount_agrees (binary o x y) read = value_agrees atoms fluents s n agree objects (binary o x y) read

  abbrev amount : NumericEffect → Expression (Operand ℕ)
  amount e = amount_of t fluents objects e.amount

  abbrev plus : ℤ → Expression (Operand ℕ) → ℤ
  plus sum e = sum +ℤ value_of n.fluents e

  sums_agree :
      (es : List NumericEffect) (z : ℤ) → ((g : Ground) → Contains (flat_map (met_by_effect objects) es) g → Contains fluents g)
      → fold (lifted.with_cost s.values objects) (Some z) es ≡ Some (fold plus z (map amount (filter is_paid es)))
  sums_agree [] z read = refl
  sums_agree (e ∷ es) z read =
      let own = amount_agrees e.amount (λ g c.
      read g (Contains-append_left (met_by_effect objects e) (flat_map (met_by_effect objects) es) g
      (Contains-append_right (changed_by objects e) (fluents_in objects e.amount) g c))) in
      let rest : (g : Ground) → Contains (flat_map (met_by_effect objects) es) g → Contains fluents g =
      λ g c. read g (Contains-append_right (met_by_effect objects e) (flat_map (met_by_effect objects) es) g c) in
      elim (lifted.is_cost e.change) as (λ b.
      fold (lifted.with_cost s.values objects) (if b then of_both (λ x y. x +ℤ y) (Some z) (lifted_value.value_of s.values objects e.amount) else Some z) es
      ≡ Some (fold plus z (map amount (if b then e ∷ filter is_paid es else filter is_paid es)))) [
        | true ↦
            ap (λ v. fold (lifted.with_cost s.values objects) (of_both (λ x y. x +ℤ y) (Some z) v) es) own
            ∙ sums_agree es (plus z (amount e)) rest
        | false ↦ sums_agree es z rest
      ]

  pub costs_agree : (a : Schema) → HasNumberedEffects fluents objects a
      → lifted.sum_of_costs s.values a objects ≡ Some (sum_of_costs n.fluents (costs_of t fluents objects a))
  costs_agree a read = sums_agree a.effects (pos 0) read
