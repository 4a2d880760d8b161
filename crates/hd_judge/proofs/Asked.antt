-- What it says that no question about a step or the goal reports a fault, and when none does.
use Rattle.std.proofs.Common.{◌≡◌, ℕ, Bool, true, false, not, ◌&&◌, ◌||◌, List, [], Contains, Option, Some, None, slice_get, refl, sym, ap, ap₂, ◌∙◌, true≢false}
use Rattle.std.specs.Prelude.{option_map}
use Rattle.std.specs.Option.{option_or}
use Rattle.std.proofs.lemmas.Bool.{and_parts, and_from, not-true}
use Rattle.std.proofs.lemmas.Option.{none-some}
use Rattle.hd_base.proofs.Options.{option_or_none}
use Rattle.hd_base.proofs.Tests.{find-None, find-Some}
use Rattle.hd_lifted.specs.declared.schema.Ground.{Ground}
use Rattle.hd_lifted.specs.declared.schema.Condition.{Condition}
use Rattle.hd_lifted.specs.declared.schema.Schema.{Schema}
use Rattle.hd_lifted.specs.declared.task.LiftedTask.{LiftedTask}
use Rattle.hd_lifted.specs.declared.instance.Instance.{Instance}
use Rattle.hd_lifted.specs.States.{State}
use Rattle.hd_lifted.specs.Conditions.{literals_hold, comparisons_stay, comparisons_hold, holds, condition_departs}
use Rattle.hd_lifted.specs.Effects.{effects_stay}
use Rattle.hd_lifted.specs.Steps.{Reached, step}
use Rattle.hd_lifted.specs.Plans.{IsInstance, step_of, step_by}
use Rattle.hd_lifted.specs.Departures.{cost_stays, departs_by, instance_departs, goal_departs}
use Rattle.hd_lifted.specs.Met.{met_by, met_by_goal}
use Rattle.hd_judge.specs.declared.fault.PlanFault.{PlanFault}
use Rattle.hd_judge.specs.declared.fault.PlanFault.TheVariants.{NotApplicable, Undefined, NegativeCost, Departs, GoalUnmet}
use Rattle.hd_judge.specs.Fault.{unless}
use Rattle.hd_lifted.specs.Questions.{is_defined, first_undefined, costs_negative}
use Rattle.hd_judge.specs.Reasons.{HoldWithin}
use Rattle.hd_judge.specs.Refusals.{IsMetBy, IsBefore}
use Rattle.hd_judge.specs.Asking.{asked_of_fluents, asked_of_comparisons, asked_before, asked_after, asked_of_schema, asked_of_step, asked_of_goal}

-- ---- single questions

unless-none : (b : Bool) (f : PlanFault) → unless b f ≡ None → b ≡ true
unless-none true f e = refl
unless-none false f e = absurd (none-some f (sym e))

mapped-none : (o : Option Ground) → option_map (λ g. Undefined g) o ≡ None → o ≡ None
mapped-none None e = refl
mapped-none (Some g) e = absurd (none-some (Undefined g) (sym e))

-- fluents of which none is reported are defined, and the other way round
not-false : (b : Bool) → not b ≡ false → b ≡ true
not-false true e = refl
not-false false e = absurd (true≢false e)

pub all_defined : (t : LiftedTask) (fluents : List Ground) → first_undefined t fluents ≡ None → (g : Ground) → Contains fluents g → is_defined t g ≡ true
all_defined t fluents e g c = not-false (is_defined t g) (find-None (λ h. not (is_defined t h)) fluents g e c)

none_undefined : (t : LiftedTask) (fluents : List Ground) → ((g : Ground) → Contains fluents g → is_defined t g ≡ true) → first_undefined t fluents ≡ None
none_undefined t fluents all =
    elim (first_undefined t fluents) as (λ o. first_undefined t fluents ≡ o → o ≡ None) [
      | None ↦ λ _. refl
      | Some g ↦ λ e.
          let k = find-Some (λ h. not (is_defined t h)) fluents g e in
          absurd (true≢false (sym (all g k.0) ∙ not-true (is_defined t g) k.1))
    ] refl

-- ---- a condition that is met: it holds, and doesn't depart

pub met-holds : (s : State) (objects : List ℕ) (c : Condition) → IsMetBy s objects c → holds s objects c ≡ true
unfolding holds
met-holds s objects c m = and_from (literals_hold s objects c) (comparisons_hold s objects c) m.literals m.hold

pub met-stays : (s : State) (objects : List ℕ) (c : Condition) → IsMetBy s objects c → condition_departs s objects c ≡ false
unfolding condition_departs
met-stays s objects c m = ap₂ (λ (a b : Bool). a && not b) m.literals m.stay

pub met-from : (s : State) (objects : List ℕ) (c : Condition) → holds s objects c ≡ true → condition_departs s objects c ≡ false → IsMetBy s objects c
unfolding holds condition_departs
met-from s objects c h d =
    let parts = and_parts (literals_hold s objects c) (comparisons_hold s objects c) h in record {
      literals = parts.0;
      stay = not-false (comparisons_stay s objects c) (ap (λ b. b && not (comparisons_stay s objects c)) (sym parts.0) ∙ d);
      hold = parts.1;
    }

-- ---- a step

-- what no question about a step reports
pub record IsTaken (t : LiftedTask) (r : Reached) (i : Instance) (a : Schema) : Type 0 where
  pub met : IsMetBy r.state i.objects a.condition
  pub defined : first_undefined t (met_by i.objects a) ≡ None
  pub not_negative : costs_negative t a i.objects ≡ false
  pub stays : effects_stay r.state.values a i.objects ≡ true
  pub cost_stays : cost_stays (step t r a i.objects) ≡ true

pub before-from_unasked : (t : LiftedTask) (r : Reached) (n : ℕ) (i : Instance) (a : Schema) → asked_before t r n i a ≡ None → IsBefore t r i a
unfolding asked_before
before-from_unasked t r n i a e =
    let c = a.condition in
    let literals = unless (literals_hold r.state i.objects c) (NotApplicable n) in
    let fluents = asked_of_fluents t (met_by i.objects a) in
    let negative = unless (not (costs_negative t a i.objects)) (NegativeCost i) in
    let comparisons = asked_of_comparisons r.state i.objects c (Departs n) (NotApplicable n) in
    let p1 = option_or_none literals (option_or fluents (option_or negative comparisons)) e in
    let p2 = option_or_none fluents (option_or negative comparisons) p1.1 in
    let p3 = option_or_none negative comparisons p2.1 in
    let p4 = option_or_none (unless (comparisons_stay r.state i.objects c) (Departs n)) (unless (comparisons_hold r.state i.objects c) (NotApplicable n)) p3.1 in record {
      met = record {
        literals = unless-none (literals_hold r.state i.objects c) (NotApplicable n) p1.0;
        stay = unless-none (comparisons_stay r.state i.objects c) (Departs n) p4.0;
        hold = unless-none (comparisons_hold r.state i.objects c) (NotApplicable n) p4.1;
      };
      defined = mapped-none (first_undefined t (met_by i.objects a)) p2.0;
      not_negative = not-true (costs_negative t a i.objects) (unless-none (not (costs_negative t a i.objects)) (NegativeCost i) p3.0);
    }

-- all questions about a step, by its schema
pub asked-schema : (t : LiftedTask) (r : Reached) (n : ℕ) (i : Instance) (a : Schema) → slice_get t.schemas i.schema ≡ Some a
    → asked_of_step t r n i ≡ option_or (asked_before t r n i a) (asked_after t r n i a)
unfolding asked_of_step
asked-schema t r n i a at = ap (asked_of_schema t r n i) at

pub taken-from_unasked : (t : LiftedTask) (r : Reached) (n : ℕ) (i : Instance) (is : IsInstance t i) → asked_of_step t r n i ≡ None → IsTaken t r i is.schema
unfolding asked_after
taken-from_unasked t r n i is e =
    let a = is.schema in
    let p = option_or_none (asked_before t r n i a) (asked_after t r n i a) (sym (asked-schema t r n i a is.is_schema) ∙ e) in
    let before = before-from_unasked t r n i a p.0 in
    let after = and_parts (effects_stay r.state.values a i.objects) (cost_stays (step t r a i.objects))
    (unless-none (effects_stay r.state.values a i.objects && cost_stays (step t r a i.objects)) (Departs n) p.1) in record {
      met = before.met;
      defined = before.defined;
      not_negative = before.not_negative;
      stays = after.0;
      cost_stays = after.1;
    }

-- ---- what is asked before a step, one question after the other

-- what follows its literals and its fluents
abbrev asked_then : LiftedTask → Reached → ℕ → Instance → Schema → Option PlanFault
asked_then t r n i a =
    option_or (unless (not (costs_negative t a i.objects)) (NegativeCost i))
    (asked_of_comparisons r.state i.objects a.condition (Departs n) (NotApplicable n))

past_literals : (t : LiftedTask) (r : Reached) (n : ℕ) (i : Instance) (a : Schema) (b : Bool) → literals_hold r.state i.objects a.condition ≡ b
    → asked_before t r n i a ≡ option_or (unless b (NotApplicable n)) (option_or (asked_of_fluents t (met_by i.objects a)) (asked_then t r n i a))
unfolding asked_before
past_literals t r n i a b hold =
    ap (λ b. option_or (unless b (NotApplicable n)) (option_or (asked_of_fluents t (met_by i.objects a)) (asked_then t r n i a))) hold

past_fluents : (t : LiftedTask) (r : Reached) (n : ℕ) (i : Instance) (a : Schema) (o : Option Ground) → literals_hold r.state i.objects a.condition ≡ true
    → first_undefined t (met_by i.objects a) ≡ o → asked_before t r n i a ≡ option_or (option_map (λ g. Undefined g) o) (asked_then t r n i a)
past_fluents t r n i a o hold is =
    past_literals t r n i a true hold ∙ ap (λ (o : Option Ground). option_or (option_map (λ g. Undefined g) o) (asked_then t r n i a)) is

past_cost : (t : LiftedTask) (r : Reached) (n : ℕ) (i : Instance) (a : Schema) (b : Bool) → literals_hold r.state i.objects a.condition ≡ true
    → first_undefined t (met_by i.objects a) ≡ None → costs_negative t a i.objects ≡ b
    → asked_before t r n i a
    ≡ option_or (unless (not b) (NegativeCost i)) (asked_of_comparisons r.state i.objects a.condition (Departs n) (NotApplicable n))
past_cost t r n i a b hold none is =
    past_fluents t r n i a None hold none
    ∙ ap (λ b. option_or (unless (not b) (NegativeCost i)) (asked_of_comparisons r.state i.objects a.condition (Departs n) (NotApplicable n))) is

pub asked_literals : (t : LiftedTask) (r : Reached) (n : ℕ) (i : Instance) (a : Schema) → literals_hold r.state i.objects a.condition ≡ false
    → asked_before t r n i a ≡ Some (NotApplicable n)
asked_literals t r n i a fail = past_literals t r n i a false fail

pub asked_undefined : (t : LiftedTask) (r : Reached) (n : ℕ) (i : Instance) (a : Schema) (g : Ground) → literals_hold r.state i.objects a.condition ≡ true
    → first_undefined t (met_by i.objects a) ≡ Some g → asked_before t r n i a ≡ Some (Undefined g)
asked_undefined t r n i a g hold some = past_fluents t r n i a (Some g) hold some

pub asked_negative : (t : LiftedTask) (r : Reached) (n : ℕ) (i : Instance) (a : Schema) → literals_hold r.state i.objects a.condition ≡ true
    → first_undefined t (met_by i.objects a) ≡ None → costs_negative t a i.objects ≡ true → asked_before t r n i a ≡ Some (NegativeCost i)
asked_negative t r n i a hold none negative = past_cost t r n i a true hold none negative

pub asked_comparisons : (t : LiftedTask) (r : Reached) (n : ℕ) (i : Instance) (a : Schema) → literals_hold r.state i.objects a.condition ≡ true
    → first_undefined t (met_by i.objects a) ≡ None → costs_negative t a i.objects ≡ false
    → asked_before t r n i a ≡ asked_of_comparisons r.state i.objects a.condition (Departs n) (NotApplicable n)
asked_comparisons t r n i a hold none free = past_cost t r n i a false hold none free

pub unasked-before : (t : LiftedTask) (r : Reached) (n : ℕ) (i : Instance) (a : Schema) → IsBefore t r i a → asked_before t r n i a ≡ None
unasked-before t r n i a k =
    asked_comparisons t r n i a k.met.literals k.defined k.not_negative
    ∙ ap₂ (λ a b. option_or (unless a (Departs n)) (unless b (NotApplicable n))) k.met.stay k.met.hold

-- ---- all that is asked of a step

pub unasked-from_taken : (t : LiftedTask) (r : Reached) (n : ℕ) (i : Instance) (is : IsInstance t i) → IsTaken t r i is.schema → asked_of_step t r n i ≡ None
unfolding asked_after
unasked-from_taken t r n i is k =
    let a = is.schema in
    asked-schema t r n i a is.is_schema
    ∙ (ap (λ o. option_or o (asked_after t r n i a))
    (unasked-before t r n i a (record { met = k.met; defined = k.defined; not_negative = k.not_negative }))
    ∙ ap₂ (λ (a b : Bool). unless (a && b) (Departs n)) k.stays k.cost_stays)

-- such a step leads somewhere
there : (o : Option Reached) → cost_stays o ≡ true → (to : Reached) × (o ≡ Some to)
there None e = absurd (true≢false (sym e))
there (Some to) e = (to, refl)

pub schema-steps : (t : LiftedTask) (r : Reached) (i : Instance) (is : IsInstance t i) → step_by t r i ≡ step t r is.schema i.objects
unfolding step_by
schema-steps t r i is = ap (λ o. step_of t r o i.objects) is.is_schema

pub taken-leads : (t : LiftedTask) (r : Reached) (i : Instance) (is : IsInstance t i) → IsTaken t r i is.schema → (to : Reached) × (step_by t r i ≡ Some to)
taken-leads t r i is k =
    let found = there (step t r is.schema i.objects) k.cost_stays in
    (found.0, schema-steps t r i is ∙ found.1)

-- and doesn't depart
pub taken-stays : (t : LiftedTask) (r : Reached) (i : Instance) (is : IsInstance t i) → IsTaken t r i is.schema → instance_departs t r i ≡ false
unfolding instance_departs
taken-stays t r i is k =
    let a = is.schema in
    ap (λ o. departs_by t r o i.objects) is.is_schema
    ∙ (ap₂ (λ (d : Bool) (b : Bool). d || (holds r.state i.objects a.condition && not b)) (met-stays r.state i.objects a.condition k.met)
    (and_from (effects_stay r.state.values a i.objects) (cost_stays (step t r a i.objects)) k.stays k.cost_stays)
    ∙ ap (λ b. b && false) (met-holds r.state i.objects a.condition k.met))

or-false : (a b : Bool) → (a || b) ≡ false → (a ≡ false) × (b ≡ false)
or-false true b e = absurd (true≢false e)
or-false false b e = (refl, e)

-- a step that is defined and doesn't depart is taken
pub taken-from_step : (t : LiftedTask) (r to : Reached) (i : Instance) (is : IsInstance t i) → step_by t r i ≡ Some to → instance_departs t r i ≡ false
    → first_undefined t (met_by i.objects is.schema) ≡ None → costs_negative t is.schema i.objects ≡ false → holds r.state i.objects is.schema.condition ≡ true
    → IsTaken t r i is.schema
unfolding instance_departs
taken-from_step t r to i is leads stays defined not_negative hold =
    let a = is.schema in
    let b = effects_stay r.state.values a i.objects && cost_stays (step t r a i.objects) in
    let parts = or-false (condition_departs r.state i.objects a.condition) (holds r.state i.objects a.condition && not b)
    (sym (ap (λ o. departs_by t r o i.objects) is.is_schema) ∙ stays) in
    let after = and_parts (effects_stay r.state.values a i.objects) (cost_stays (step t r a i.objects))
    (not-false b (ap (λ h. h && not b) (sym hold) ∙ parts.1)) in record {
      met = met-from r.state i.objects a.condition hold parts.0;
      defined = defined;
      not_negative = not_negative;
      stays = after.0;
      cost_stays = after.1;
    }

-- ---- the goal

pub record IsGoalMet (t : LiftedTask) (r : Reached) : Type 0 where
  pub met : IsMetBy r.state [] t.goal
  pub defined : first_undefined t (met_by_goal t) ≡ None

pub goal_met-from_unasked : (t : LiftedTask) (r : Reached) (n : ℕ) → asked_of_goal t r n ≡ None → IsGoalMet t r
unfolding asked_of_goal
goal_met-from_unasked t r n e =
    let literals = unless (literals_hold r.state [] t.goal) GoalUnmet in
    let fluents = asked_of_fluents t (met_by_goal t) in
    let stay = unless (comparisons_stay r.state [] t.goal) (Departs n) in
    let hold = unless (comparisons_hold r.state [] t.goal) GoalUnmet in
    let p1 = option_or_none literals (option_or fluents (option_or stay hold)) e in
    let p2 = option_or_none fluents (option_or stay hold) p1.1 in
    let p3 = option_or_none stay hold p2.1 in record {
      met = record {
        literals = unless-none (literals_hold r.state [] t.goal) GoalUnmet p1.0;
        stay = unless-none (comparisons_stay r.state [] t.goal) (Departs n) p3.0;
        hold = unless-none (comparisons_hold r.state [] t.goal) GoalUnmet p3.1;
      };
      defined = mapped-none (first_undefined t (met_by_goal t)) p2.0;
    }

goal_past_literals : (t : LiftedTask) (r : Reached) (n : ℕ) (b : Bool) → literals_hold r.state [] t.goal ≡ b
    → asked_of_goal t r n
    ≡ option_or (unless b GoalUnmet) (option_or (asked_of_fluents t (met_by_goal t)) (asked_of_comparisons r.state [] t.goal (Departs n) GoalUnmet))
unfolding asked_of_goal
goal_past_literals t r n b hold =
    ap (λ b. option_or (unless b GoalUnmet) (option_or (asked_of_fluents t (met_by_goal t)) (asked_of_comparisons r.state [] t.goal (Departs n) GoalUnmet))) hold

goal_past_fluents : (t : LiftedTask) (r : Reached) (n : ℕ) (o : Option Ground) → literals_hold r.state [] t.goal ≡ true → first_undefined t (met_by_goal t) ≡ o
    → asked_of_goal t r n ≡ option_or (option_map (λ g. Undefined g) o) (asked_of_comparisons r.state [] t.goal (Departs n) GoalUnmet)
goal_past_fluents t r n o hold is =
    goal_past_literals t r n true hold
    ∙ ap (λ (o : Option Ground). option_or (option_map (λ g. Undefined g) o) (asked_of_comparisons r.state [] t.goal (Departs n) GoalUnmet)) is

pub goal_literals : (t : LiftedTask) (r : Reached) (n : ℕ) → literals_hold r.state [] t.goal ≡ false → asked_of_goal t r n ≡ Some GoalUnmet
goal_literals t r n fail = goal_past_literals t r n false fail

pub goal_undefined : (t : LiftedTask) (r : Reached) (n : ℕ) (g : Ground) → literals_hold r.state [] t.goal ≡ true → first_undefined t (met_by_goal t) ≡ Some g
    → asked_of_goal t r n ≡ Some (Undefined g)
goal_undefined t r n g hold some = goal_past_fluents t r n (Some g) hold some

pub goal_comparisons : (t : LiftedTask) (r : Reached) (n : ℕ) → literals_hold r.state [] t.goal ≡ true → first_undefined t (met_by_goal t) ≡ None
    → asked_of_goal t r n ≡ asked_of_comparisons r.state [] t.goal (Departs n) GoalUnmet
goal_comparisons t r n hold none = goal_past_fluents t r n None hold none

pub unasked-from_goal_met : (t : LiftedTask) (r : Reached) (n : ℕ) → IsGoalMet t r → asked_of_goal t r n ≡ None
unasked-from_goal_met t r n k =
    goal_comparisons t r n k.met.literals k.defined
    ∙ ap₂ (λ a b. option_or (unless a (Departs n)) (unless b GoalUnmet)) k.met.stay k.met.hold

pub goal_unasked : (t : LiftedTask) (r : Reached) (n : ℕ) → literals_hold r.state [] t.goal ≡ true → first_undefined t (met_by_goal t) ≡ None
    → HoldWithin r.state.values [] t.goal.comparisons → asked_of_goal t r n ≡ None
goal_unasked t r n hold none within =
    unasked-from_goal_met t r n (record { met = record { literals = hold; stay = within.0; hold = within.1 }; defined = none })

pub goal-stays : (t : LiftedTask) (r : Reached) → IsGoalMet t r → goal_departs t r ≡ false
unfolding goal_departs
goal-stays t r k = met-stays r.state [] t.goal k.met

pub goal_met-from : (t : LiftedTask) (r : Reached) → holds r.state [] t.goal ≡ true → goal_departs t r ≡ false
    → ((g : Ground) → Contains (met_by_goal t) g → is_defined t g ≡ true) → IsGoalMet t r
unfolding goal_departs
goal_met-from t r h d all = record { met = met-from r.state [] t.goal h d; defined = none_undefined t (met_by_goal t) all }

pub none_undefined-in : (t : LiftedTask) (fluents : List Ground) → ((g : Ground) → Contains fluents g → is_defined t g ≡ true) → first_undefined t fluents ≡ None
none_undefined-in t fluents all = none_undefined t fluents all
