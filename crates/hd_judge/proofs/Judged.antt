-- One step of a validation, as the code comes to it: first the questions before it, and then the
-- step.
use Rattle.std.proofs.Common.{◌≡◌, ℕ, true, false, Some, None, inl, inr, slice_get, refl, sym, ap, ◌∙◌}
use Rattle.std.specs.Option.{option_or}
use Rattle.std.proofs.lemmas.Bool.{and_from}
use Rattle.std.proofs.lemmas.Option.{same_Some}
use Rattle.hd_lifted.specs.declared.schema.Schema.{Schema}
use Rattle.hd_lifted.specs.declared.task.LiftedTask.{LiftedTask}
use Rattle.hd_lifted.specs.declared.instance.Instance.{Instance}
use Rattle.hd_lifted.specs.Conditions.{holds}
use Rattle.hd_lifted.specs.Effects.{effects_clash, effects_stay}
use Rattle.hd_lifted.specs.Steps.{Reached, step}
use Rattle.hd_lifted.specs.Plans.{IsInstance, step_of, step_by}
use Rattle.hd_lifted.specs.Departures.{cost_stays}
use Rattle.hd_lifted.specs.Met.{met_by}
use Rattle.hd_judge.specs.declared.fault.PlanFault.TheVariants.{NotApplicable, NoSuchAction, Departs, GoalUnmet}
use Rattle.hd_judge.specs.declared.fault.PlanStop.TheVariants as stops
use Rattle.hd_judge.specs.declared.refusal.PlanRefusal.{PlanRefusal}
use Rattle.hd_judge.specs.declared.refusal.PlanRefusal.TheVariants as refusals
use Rattle.hd_judge.specs.Fault.{unless, StopsAt, StopsBy}
use Rattle.hd_lifted.specs.Questions.{first_undefined}
use Rattle.hd_judge.specs.Asking.{asked_after, asked_of_goal}
use Rattle.hd_judge.specs.EffectReasons.{StaysWithin, IsReasonOfEffects}
use Rattle.hd_judge.specs.Refusals.{stop_of, RefusesBy, RefusesFor, IsBefore, IsReasonBefore, TellsBefore, IsReasonOfStep, TellsUnexplained, IsReasonOfGoal, GoalUnexplained}
use Rattle.hd_judge.specs.Validity.{Passes, TellsStep, no_instance, fails}
use Rattle.hd_judge.specs.Way.{IsOnWay}
use Rattle.hd_judge.proofs.Asked.{met-holds, asked-schema, unasked-before}
use Rattle.hd_judge.proofs.Along.{passed-on_way}
use Rattle.hd_judge.proofs.Reasoned.{reason_asked, goal_reason_asked}
use Rattle.hd_judge.proofs.Stepping.{step_stays}

-- ---- what the questions before a step leave for the step

pub holds_before : (t : LiftedTask) (r : Reached) (i : Instance) (a : Schema) → IsBefore t r i a → holds r.state i.objects a.condition ≡ true
holds_before t r i a k = met-holds r.state i.objects a.condition k.met

pub defined_before : (t : LiftedTask) (r : Reached) (i : Instance) (a : Schema) → IsBefore t r i a → first_undefined t (met_by i.objects a) ≡ None
defined_before t r i a k = k.defined

pub compatible_by : (t : LiftedTask) (i : Instance) (a : Schema) → IsInstance t i → slice_get t.schemas i.schema ≡ Some a → effects_clash i.objects a.effects ≡ false
compatible_by t i a is at =
    ap (λ (b : Schema). effects_clash i.objects b.effects) (same_Some a is.schema (sym at ∙ is.is_schema)) ∙ is.compatible

-- ---- what is refused

pub unknown_told : (t : LiftedTask) (r : Reached) (n : ℕ) (i : Instance) → (IsInstance t i → ⊥) → TellsUnexplained t r n i (NoSuchAction n)
unknown_told t r n i none = (no_instance none refl, refl)

pub refused_before : (t : LiftedTask) (r : Reached) (n : ℕ) (i : Instance) (a : Schema) (e : PlanRefusal) → IsInstance t i → slice_get t.schemas i.schema ≡ Some a
    → RefusesBy (IsReasonBefore t r i a) (TellsBefore t r n i a) e
    → RefusesBy (λ reason. IsReasonOfStep t r i reason × (r ≡ r)) (TellsUnexplained t r n i) e
refused_before t r n i a (refusals.For reason) is at why = ((is, a, at, inl why), refl)
refused_before t r n i a (refusals.At (stops.At f)) is at told =
    (fails is (asked-schema t r n i a at ∙ ap (λ o. option_or o (asked_after t r n i a)) told.0), told.1)
refused_before t r n i a (refusals.At stops.NoMemory) is at told = tt

pub refused_then : (t : LiftedTask) (r to : Reached) (n : ℕ) (i : Instance) (a : Schema) (e : PlanRefusal) → IsInstance t i
    → slice_get t.schemas i.schema ≡ Some a → IsBefore t r i a
    → RefusesFor (λ reason. IsReasonOfEffects t r a i.objects reason × (to ≡ r)) e
    → RefusesBy (λ reason. IsReasonOfStep t r i reason × (to ≡ r)) (TellsUnexplained t r n i) e
refused_then t r to n i a (refusals.For reason) is at before why = ((is, a, at, inr (before, why.0)), why.1)
refused_then t r to n i a (refusals.At (stops.At f)) is at before told = absurd told
refused_then t r to n i a (refusals.At stops.NoMemory) is at before told = tt

-- ---- what is reported

pub refusal_told : (t : LiftedTask) (r to : Reached) (n : ℕ) (i : Instance) (e : PlanRefusal)
    → RefusesBy (λ reason. IsReasonOfStep t r i reason × (to ≡ r)) (TellsUnexplained t r n i) e
    → StopsBy (TellsStep t r n i) (stop_of (NotApplicable n) (Departs n) e)
refusal_told t r to n i (refusals.For reason) why = fails why.0.0 (reason_asked t r n i reason why.0)
refusal_told t r to n i (refusals.At (stops.At f)) told = told.0
refusal_told t r to n i (refusals.At stops.NoMemory) told = tt

pub goal_told : (t : LiftedTask) (r : Reached) (n : ℕ) (e : PlanRefusal) → RefusesBy (IsReasonOfGoal t r) (GoalUnexplained t r) e
    → StopsAt (stop_of GoalUnmet (Departs n) e) (asked_of_goal t r n)
goal_told t r n (refusals.For reason) why = goal_reason_asked t r n reason why
goal_told t r n (refusals.At (stops.At f)) told = told.0 n
goal_told t r n (refusals.At stops.NoMemory) told = tt

-- ---- what passes

pub passes_then : (t : LiftedTask) (r to : Reached) (n : ℕ) (i : Instance) (a : Schema) → IsInstance t i → slice_get t.schemas i.schema ≡ Some a
    → IsBefore t r i a → StaysWithin t r a i.objects → step t r a i.objects ≡ Some to → Passes t r n i to
unfolding asked_after step_by
passes_then t r to n i a is at before stay leads =
    let paid = step_stays t r a i.objects false (met-holds r.state i.objects a.condition before.met) stay.cost ∙ stay.total in
    let stays = and_from (effects_stay r.state.values a i.objects) (cost_stays (step t r a i.objects)) stay.effects paid in record {
      instance = is;
      unasked = asked-schema t r n i a at
          ∙ (ap (λ o. option_or o (asked_after t r n i a)) (unasked-before t r n i a before) ∙ ap (λ b. unless b (Departs n)) stays);
      leads = ap (λ o. step_of t r o i.objects) at ∙ leads;
    }

pub on_way_then : (t : LiftedTask) (r : Reached) (n : ℕ) (i : Instance) (to : Reached) → IsOnWay t r → Passes t r n i to → IsOnWay t to
on_way_then t r n i to way passes = passed-on_way t r n i to way passes
