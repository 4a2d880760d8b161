-- The goal, an action and its instance depart in both or in neither.
use Rattle.std.proofs.Common.{◌≡◌, ℕ, not, ◌&&◌, ◌||◌, List, [], Option, Some, None, slice_get, refl, sym, ap, ◌∙◌, subst}
use Rattle.std.proofs.lemmas.Option.{same_Some}
use Rattle.hd_base.specs.Numbers.{fits}
use Rattle.hd_lifted.specs.declared.task.LiftedTask.{LiftedTask}
use Rattle.hd_lifted.specs.declared.instance.Instance.{Instance}
use Rattle.hd_lifted.specs.Conditions as meaning
use Rattle.hd_lifted.specs.Departures as lifted
use Rattle.hd_lifted.specs.Effects as lifted_effects
use Rattle.hd_lifted.specs.Steps as lifted_step
use Rattle.hd_lifted.specs.Steps.{Reached}
use Rattle.hd_lifted.specs.Plans as lifted_plan
use Rattle.hd_task.specs.declared.action.Action.{Action}
use Rattle.hd_task.specs.declared.task.Task.{Task}
use Rattle.hd_task.specs.Conditions.{holds, condition_departs}
use Rattle.hd_task.specs.Departures.{goal_departs, cost_stays, departs_by, action_departs}
use Rattle.hd_task.specs.Effects.{effects_stay}
use Rattle.hd_task.specs.Plans.{Node, step, exec}
use Rattle.hd_lifted.specs.Kept.{IsKept}
use Rattle.hd_grounding.specs.Grounding.{IsActionOf, IsGrounding}
use Rattle.hd_grounding.proofs.Grounded.{kept_action, goal_numbered}
use Rattle.hd_grounding.specs.Instances.{instance_of, instances_of}
use Rattle.hd_grounding.proofs.Ranges.{condition_alike, effects_alike}
use Rattle.hd_grounding.proofs.Runs.{instance_is, end_along}
use Rattle.hd_grounding.proofs.Steps.{IsAlong, AreAlike, numbered, hold_alike, step_alike}

module _ (t : LiftedTask) (u : Task) (made : IsGrounding t u) where
  ends_stay : (o : Option Reached) (q : Option Node) → AreAlike t u made o q → lifted.cost_stays o ≡ cost_stays q
  ends_stay None None alike = refl
  ends_stay None (Some m) alike = absurd alike
  ends_stay (Some r) None alike = absurd alike
  ends_stay (Some r) (Some m) along = ap fits along.cost

  departs_alike : (r : Reached) (m : Node) (i : Instance) (b : Action) → IsAlong t u made r m → IsKept t i → (of : IsActionOf t made.atoms made.fluents i b)
      → lifted.departs_by t r (Some of.schema) i.objects ≡ departs_by u m (Some b)
  departs_alike r m i b along kept of =
      let a = of.schema in
      let s = r.state in
      let condition : meaning.condition_departs s i.objects a.condition ≡ condition_departs m.state b.condition =
      condition_alike made.atoms made.fluents s m.state along.agree i.objects a.condition (numbered t u made i b kept of) ∙ ap (condition_departs m.state) (sym of.condition) in
      let hold = hold_alike t u made i b kept of s m.state along.agree in
      let effects = effects_alike t u made i b kept of s m.state along.agree along.first in
      let cost = ends_stay (lifted_step.step t r a i.objects) (step u m b) (step_alike t u made r m i b along kept of) in
      ap (λ x. x || (meaning.holds s i.objects a.condition && not (lifted_effects.effects_stay s.values a i.objects && lifted.cost_stays (lifted_step.step t r a i.objects)))) condition
      ∙ (ap (λ x. condition_departs m.state b.condition || (x && not (lifted_effects.effects_stay s.values a i.objects && lifted.cost_stays (lifted_step.step t r a i.objects)))) hold
      ∙ (ap (λ x. condition_departs m.state b.condition || (holds m.state b.condition && not (x && lifted.cost_stays (lifted_step.step t r a i.objects)))) effects
      ∙ ap (λ x. condition_departs m.state b.condition || (holds m.state b.condition && not (effects_stay m.state b && x))) cost))

  action_alike : (r : Reached) (m : Node) (k : ℕ) (b : Action) → IsAlong t u made r m → slice_get u.actions k ≡ Some b
      → action_departs u m k ≡ lifted.instance_departs t r (instance_of b)
  unfolding action_departs lifted.instance_departs
  action_alike r m k b along at =
      let from = kept_action t u made k b at in
      let of = from.2 in
      ap (departs_by u m) at
      ∙ (sym (departs_alike r m from.0 b along from.1 of)
      ∙ (sym (ap (λ o. lifted.departs_by t r o from.0.objects) of.is_schema)
      ∙ sym (ap (lifted.instance_departs t r) (instance_is t u made from.0 b of))))

  goal_alike : (r : Reached) (m : Node) → IsAlong t u made r m → goal_departs u m ≡ lifted.goal_departs t r
  unfolding goal_departs lifted.goal_departs
  goal_alike r m along =
      ap (condition_departs m.state) made.goal_is
      ∙ sym (condition_alike made.atoms made.fluents r.state m.state along.agree [] t.goal (goal_numbered t u made))

  along_at : (p : List ℕ) (m : Node) (r : Reached) → exec u p ≡ Some m → lifted_plan.exec t (instances_of u p) ≡ Some r → IsAlong t u made r m
  along_at p m r there here =
      let k = end_along t u made p m there in
      subst (λ r. IsAlong t u made r m) (same_Some k.0 r (sym k.1 ∙ here)) k.2

  pub actions_depart : (p : List ℕ) (m : Node) (r : Reached) (k : ℕ) (b : Action) → exec u p ≡ Some m → lifted_plan.exec t (instances_of u p) ≡ Some r
      → slice_get u.actions k ≡ Some b → action_departs u m k ≡ lifted.instance_departs t r (instance_of b)
  actions_depart p m r k b there here at = action_alike r m k b (along_at p m r there here) at

  pub goals_depart : (p : List ℕ) (m : Node) (r : Reached) → exec u p ≡ Some m → lifted_plan.exec t (instances_of u p) ≡ Some r
      → goal_departs u m ≡ lifted.goal_departs t r
  goals_depart p m r there here = goal_alike r m (along_at p m r there here)
