-- A plan's cost with a step's, which is negative or not.
use Rattle.std.proofs.Common.{◌≡◌, ℕ, ◌+◌, true, false, List, Some, is_some, pos, negsuc, refl, sym, ap, ap₂, ◌∙◌}
use Rattle.std.specs.Prelude.{if◌then◌else◌, Ok, ℤ, ◌+ℤ◌}
use Rattle.std.specs.List.{fold}
use Rattle.hd_base.specs.Numbers.{in_range, cost_in_range, fits}
use Rattle.hd_base.specs.Values.{of_both}
use Rattle.hd_lifted.specs.declared.schema.NumericEffect.{NumericEffect}
use Rattle.hd_lifted.specs.declared.schema.Schema.{Schema}
use Rattle.hd_lifted.specs.declared.task.LiftedTask.{LiftedTask}
use Rattle.hd_lifted.specs.States.{Values}
use Rattle.hd_lifted.specs.Effects.{is_negative, with_cost, sum_of_costs, step_cost, effects_stay}
use Rattle.hd_lifted.specs.Steps.{Reached, cost_after}
use Rattle.hd_judge.specs.declared.reason.Reason.{Reason}
use Rattle.hd_judge.specs.declared.reason.Reason.TheVariants as reasons
use Rattle.hd_judge.specs.EffectReasons.{IsReasonOfEffects, IsReasonOfCost, JudgesCost, StaysWithin}

pub natural_total : (before step : ℕ) → in_range (pos before +ℤ pos step) ≡ cost_in_range (before + step)
natural_total before step = refl

pub negative_step : (n : ℕ) → is_negative (Some (negsuc n)) ≡ true
negative_step n = refl

pub step_is : (t : LiftedTask) (v : Values) (a : Schema) (objects : List ℕ) (sum : ℤ) → fold (with_cost v objects) (Some (pos 0)) a.effects ≡ Some sum
    → step_cost t v a objects ≡ Some (if is_some t.metric then sum else pos 1)
unfolding step_cost
step_is t v a objects sum is =
    elim (is_some t.metric) as (λ b. (if b then sum_of_costs v a objects else Some (pos 1)) ≡ Some (if b then sum else pos 1)) [
      | true ↦ is
      | false ↦ refl
    ]

-- what is reported of a cost is reported of the step
pub reason_by : (t : LiftedTask) (r : Reached) (a : Schema) (objects : List ℕ) (before : ℕ) (step : ℤ) (es : List NumericEffect) (reason : Reason)
    → effects_stay r.state.values a objects ≡ true → step_cost t r.state.values a objects ≡ Some step → r.cost ≡ Some (pos before) → es ≡ a.effects
    → IsReasonOfCost before step es reason → IsReasonOfEffects t r a objects reason
reason_by t r a objects before step es (reasons.NegativeCost c) stay value cost same told = (
  stay,
  record { effects = told.0 ∙ same; value = value ∙ ap Some (sym told.1); before = cost ∙ ap (λ n. Some (pos n)) (sym told.2) },
  ap (λ z. is_negative (Some z)) told.1 ∙ told.3,
)
reason_by t r a objects before step es (reasons.PlanCost c) stay value cost same told = (
  stay,
  record { effects = told.0 ∙ same; value = value ∙ ap Some (sym told.1); before = cost ∙ ap (λ n. Some (pos n)) (sym told.2) },
  ap (λ z. is_negative (Some z)) told.1 ∙ told.3,
  ap₂ (λ n z. in_range (pos n +ℤ z)) told.2 told.1 ∙ told.4,
)
reason_by t r a objects before step es _ stay value cost same told = absurd told

pub cost_stays : (t : LiftedTask) (r : Reached) (a : Schema) (objects : List ℕ) (before : ℕ) (step : ℤ) (es : List NumericEffect) (cost : ℕ)
    → effects_stay r.state.values a objects ≡ true → step_cost t r.state.values a objects ≡ Some step → r.cost ≡ Some (pos before)
    → JudgesCost before step es (Ok cost) → StaysWithin t r a objects × (cost_after t r a objects ≡ Some (pos cost))
cost_stays t r a objects before step es cost stay value was told =
    let total : cost_after t r a objects ≡ Some (pos cost) = ap₂ (of_both (λ x y. x +ℤ y)) was value ∙ ap Some (sym told.2) in
    (record { effects = stay; cost = ap is_negative value ∙ told.0; total = ap fits total ∙ told.1 }, total)
