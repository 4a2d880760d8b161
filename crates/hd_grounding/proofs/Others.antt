-- Instances that are no action of the task depart nowhere.
use Rattle.std.proofs.Common.{◌≡◌, ℕ, true, false, not, ◌&&◌, List, Some, None, slice_get, inl, inr, refl, sym, ap, ◌∙◌, subst, true≢false}
use Rattle.std.specs.Prelude.{option_map, ◌↔◌}
use Rattle.std.proofs.lemmas.Bool.{and_parts, or_cases, false_from_ne_true}
use Rattle.hd_lifted.specs.declared.task.LiftedTask.{LiftedTask}
use Rattle.hd_lifted.specs.declared.instance.Instance.{Instance}
use Rattle.hd_lifted.specs.Conditions as meaning
use Rattle.hd_lifted.specs.Departures as lifted
use Rattle.hd_lifted.specs.Effects as lifted_effects
use Rattle.hd_lifted.specs.Plans as lifted_plan
use Rattle.hd_lifted.specs.Plans.{IsInstance}
use Rattle.hd_lifted.specs.Steps as lifted_step
use Rattle.hd_lifted.specs.Steps.{Reached}
use Rattle.hd_task.specs.declared.action.Action.{Action}
use Rattle.hd_task.specs.declared.task.Task.{Task}
use Rattle.hd_task.specs.Departures.{action_departs, departs_by}
use Rattle.hd_task.specs.Plans.{Node, exec}
use Rattle.hd_lifted.specs.Kept.{IsKept}
use Rattle.hd_lifted.proofs.Sound.{holding-kept}
use Rattle.hd_grounding.specs.Grounding.{IsGrounding}
use Rattle.hd_grounding.proofs.Grounded.{instance_kept, action_kept, kept_action}
use Rattle.hd_grounding.specs.Departures.{NoActionDeparts, NoInstanceDeparts}
use Rattle.hd_grounding.specs.Instances.{instance_of, instances_of, HasAction}
use Rattle.hd_grounding.proofs.Departing.{actions_depart, goals_depart}
use Rattle.hd_grounding.proofs.Runs.{instance_is, run_there}

-- where an instance departs, its conditions on atoms and objects hold
departing_holds : (t : LiftedTask) (r : Reached) (i : Instance) (is : IsInstance t i) → lifted.instance_departs t r i ≡ true
    → meaning.literals_hold r.state i.objects is.schema.condition ≡ true
unfolding lifted.instance_departs meaning.condition_departs meaning.holds
departing_holds t r i is departs =
    let a = is.schema in
    let c = a.condition in
    let stays = lifted_effects.effects_stay r.state.values a i.objects && lifted.cost_stays (lifted_step.step t r a i.objects) in
    let here : lifted.departs_by t r (Some a) i.objects ≡ true = sym (ap (λ o. lifted.departs_by t r o i.objects) is.is_schema) ∙ departs in
    elim (or_cases (meaning.condition_departs r.state i.objects c) (meaning.holds r.state i.objects c && not stays) here) [
      | inl d ↦ (and_parts (meaning.literals_hold r.state i.objects c) (not (meaning.comparisons_stay r.state i.objects c)) d).0
      | inr d ↦
          (and_parts (meaning.literals_hold r.state i.objects c) (meaning.comparisons_hold r.state i.objects c)
          (and_parts (meaning.holds r.state i.objects c) (not stays) d).0).0
    ]

module _ (t : LiftedTask) (u : Task) (made : IsGrounding t u) where
  pub kept-has_action : (i : Instance) → IsKept t i → HasAction u i
  kept-has_action i kept =
      let act = action_kept t u made i kept in
      record { number = act.0; is = ap (option_map instance_of) act.2 ∙ ap Some (instance_is t u made i act.1 act.3) }

  action-is_instance : (k : ℕ) (b : Action) → slice_get u.actions k ≡ Some b → IsInstance t (instance_of b)
  action-is_instance k b at =
      let from = kept_action t u made k b at in
      subst (IsInstance t) (sym (instance_is t u made from.0 b from.2)) (instance_kept t from.0 from.1)

  module _ (p : List ℕ) (m : Node) (r : Reached) (there : exec u p ≡ Some m) (here : lifted_plan.exec t (instances_of u p) ≡ Some r) where
    departing-kept : (i : Instance) → IsInstance t i → lifted.instance_departs t r i ≡ true → IsKept t i
    departing-kept i is departs =
        holding-kept t (instances_of u p) r i is (run_there t u made p m there).instances here (departing_holds t r i is departs)

    pub departing-has_action : (i : Instance) → IsInstance t i → lifted.instance_departs t r i ≡ true → HasAction u i
    departing-has_action i is departs = kept-has_action i (departing-kept i is departs)

    none_there : NoActionDeparts u m → NoInstanceDeparts t r
    none_there none = record {
      instances = λ i is.
          false_from_ne_true (lifted.instance_departs t r i)
          (λ departs.
          let act = action_kept t u made i (departing-kept i is departs) in
          let same : action_departs u m act.0 ≡ lifted.instance_departs t r i =
          actions_depart t u made p m r act.0 act.1 there here act.2 ∙ ap (lifted.instance_departs t r) (instance_is t u made i act.1 act.3) in
          true≢false (sym departs ∙ (sym same ∙ none.actions act.0)));
      goal = sym (goals_depart t u made p m r there here) ∙ none.goal;
    }

    none_back : NoInstanceDeparts t r → NoActionDeparts u m
    unfolding action_departs
    none_back none = record {
      actions = λ n.
          elim (slice_get u.actions n) as (λ o. slice_get u.actions n ≡ o → action_departs u m n ≡ false) [
            | None ↦ λ at. ap (departs_by u m) at
            | Some b ↦ λ at. actions_depart t u made p m r n b there here at ∙ none.instances (instance_of b) (action-is_instance n b at)
          ] refl;
      goal = goals_depart t u made p m r there here ∙ none.goal;
    }

    pub none_both : NoActionDeparts u m ↔ NoInstanceDeparts t r
    none_both = (none_there, none_back)
