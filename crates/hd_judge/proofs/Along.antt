-- A plan is validated exactly where no question reports a fault.
use Rattle.std.proofs.Common.{◌≡◌, ℕ, ◌+◌, Bool, true, false, not, ◌&&◌, List, [], ◌∷◌, ◌++◌, All, Contains, Option, Some, None, is_some, IsTrue, slice_get, pos, negsuc, inl, inr, refl, sym, ap, ap₂, ◌∙◌, subst, true≢false}
use Rattle.std.specs.Prelude.{if◌then◌else◌, ℤ, ◌+ℤ◌, flat_map}
use Rattle.std.proofs.lemmas.Bool.{and_parts, not-true}
use Rattle.std.proofs.lemmas.Option.{none-some, same_Some}
use Rattle.std.proofs.lemmas.List.Elements.{All-nil, All-cons, All-head, All-tail, Contains-append_right}
use Rattle.hd_base.proofs.Options.{cond_then_some}
use Rattle.hd_base.proofs.Lists.{cons_parts}
use Rattle.hd_base.proofs.Members.{Contains-first, Contains-later, Contains-cons_cases, Contains-nil}
use Rattle.hd_base.specs.Values.{of_both}
use Rattle.hd_lifted.specs.declared.schema.Ground.{Ground}
use Rattle.hd_lifted.specs.declared.schema.Schema.{Schema}
use Rattle.hd_lifted.specs.declared.task.LiftedTask.{LiftedTask}
use Rattle.hd_lifted.specs.declared.instance.Instance.{Instance}
use Rattle.hd_lifted.specs.States.{initial_state}
use Rattle.hd_lifted.specs.Conditions.{holds}
use Rattle.hd_lifted.specs.Effects.{state_after, step_cost, is_negative}
use Rattle.hd_lifted.specs.Steps.{Reached, step, start, cost_after}
use Rattle.hd_lifted.specs.Plans.{IsInstance, step_by, exec_from, exec}
use Rattle.hd_lifted.specs.Departures.{instance_departs, goal_departs}
use Rattle.hd_lifted.specs.Met.{met_by, met_by_goal, met_by_comparison, met_by_effect}
use Rattle.hd_lifted.proofs.Sound.{exec_from-none}
use Rattle.hd_judge.specs.declared.fault.PlanFault.{PlanFault}
use Rattle.hd_lifted.specs.Questions.{is_defined, costs_negative}
use Rattle.hd_judge.specs.Asking.{asked_of_goal}
use Rattle.hd_judge.specs.Way.{IsOnWay}
use Rattle.hd_judge.specs.Validity.{StepsAreDefined, NoStepIsNegative, IsValidated, Passes, ClearsFrom, IsFirstFault, IsFaultless}
use Rattle.hd_judge.proofs.Asked.{IsTaken, IsGoalMet, all_defined, none_undefined-in, met-holds, taken-from_unasked, unasked-from_taken, schema-steps, taken-stays, taken-from_step, goal_met-from_unasked, unasked-from_goal_met, goal-stays, goal_met-from}
use Rattle.hd_judge.proofs.Deciding.{clears_tells, tells_once, clears_or_tells}
use Rattle.hd_judge.specs.Effects.{HaveValues}
use Rattle.hd_judge.proofs.Defined.{effects_some, costs_some}

-- ---- what is defined along the way

pub on_way-start : (t : LiftedTask) → IsOnWay t (start t)
unfolding start initial_state
on_way-start t = record { values = λ g d. d; cost = (0, refl) }

natural : (o : Option ℤ) → is_some o ≡ true → is_negative o ≡ false → (m : ℕ) × (o ≡ Some (pos m))
natural None some e = absurd (true≢false (sym some))
natural (Some (pos m)) some e = (m, refl)
natural (Some (negsuc m)) some e = absurd (true≢false e)

either_some : (b : Bool) (x y : Option ℤ) → is_some x ≡ true → is_some y ≡ true → is_some (if b then x else y) ≡ true
either_some true x y a b = a
either_some false x y a b = b

pub on_way-step : (t : LiftedTask) (r to : Reached) (i : Instance) (a : Schema) → IsTaken t r i a → step t r a i.objects ≡ Some to → IsOnWay t r → IsOnWay t to
unfolding step state_after step_cost
on_way-step t r to i a taken leads way =
    let v = r.state.values in
    let cost = step_cost t v a i.objects in
    let next : Reached = record { state = state_after r.state a i.objects; cost = cost_after t r a i.objects } in
    let parts = cond_then_some (holds r.state i.objects a.condition && not (is_negative cost)) (Some next) to leads in
    let passed = and_parts (holds r.state i.objects a.condition) (not (is_negative cost)) parts.0 in
    let have : HaveValues v (flat_map (met_by_effect i.objects) a.effects) = record {
      each = λ g c.
          way.values g
          (all_defined t (met_by i.objects a) taken.defined g
          (Contains-append_right (flat_map (met_by_comparison i.objects) a.condition.comparisons) (flat_map (met_by_effect i.objects) a.effects) g c));
    } in
    let paid = natural cost
    (either_some (is_some t.metric) _ (Some (pos 1)) (costs_some v i.objects a.effects (Some (pos 0)) have refl) refl)
    (not-true (is_negative cost) passed.1) in
    subst (IsOnWay t) (same_Some next to parts.1) (record {
      values = λ g d. effects_some v i.objects g a.effects (v g) have (way.values g d);
      cost = (way.cost.0 + paid.0, ap₂ (of_both (λ x y. x +ℤ y)) way.cost.1 paid.1);
    })

-- ---- from a place on

-- from here on the steps are defined and lead there, nothing departs, and what is met is defined
pub record IsValidFrom (t : LiftedTask) (r : Reached) (p : List Instance) (end : Reached) : Type 0 where
  pub instances : All (IsInstance t) p
  pub executes : exec_from t (Some r) p ≡ Some end
  pub goal : holds end.state [] t.goal ≡ true
  pub goal_stays : goal_departs t end ≡ false
  pub goal_defined : (g : Ground) → Contains (met_by_goal t) g → is_defined t g ≡ true
  pub steps_stay :
      (before after : List Instance) (i : Instance) (to : Reached)
      → p ≡ before ++ i ∷ after → exec_from t (Some r) before ≡ Some to → instance_departs t to i ≡ false
  pub steps_defined : StepsAreDefined t p
  pub not_negative : NoStepIsNegative t p

nil-split : (before after : List Instance) (i : Instance) → [] ≡ before ++ i ∷ after → ⊥
nil-split [] after i e = cc
nil-split (b ∷ before) after i e = cc

valid-nil : (t : LiftedTask) (r end : Reached) (n : ℕ) → r ≡ end → asked_of_goal t r n ≡ None → IsValidFrom t r [] end
valid-nil t r end n same unasked =
    let met : IsGoalMet t end = subst (IsGoalMet t) same (goal_met-from_unasked t r n unasked) in record {
      instances = All-nil (IsInstance t);
      executes = ap Some same;
      goal = met-holds end.state [] t.goal met.met;
      goal_stays = goal-stays t end met;
      goal_defined = all_defined t (met_by_goal t) met.defined;
      steps_stay = λ before after i to e _. absurd (nil-split before after i e);
      steps_defined = λ i is g c _. absurd (Contains-nil i c);
      not_negative = λ i is c. absurd (Contains-nil i c);
    }

stays-along : (t : LiftedTask) (r mid : Reached) (i : Instance) (p : List Instance) → step_by t r i ≡ Some mid → instance_departs t r i ≡ false
    → ((before after : List Instance) (j : Instance) (to : Reached) → p ≡ before ++ j ∷ after → exec_from t (Some mid) before ≡ Some to → instance_departs t to j ≡ false)
    → (before after : List Instance) (j : Instance) (to : Reached) → i ∷ p ≡ before ++ j ∷ after → exec_from t (Some r) before ≡ Some to
    → instance_departs t to j ≡ false
stays-along t r mid i p leads here later [] after j to e ex =
    let same = cons_parts i j p after e in
    ap₂ (λ (q : Reached) (k : Instance). instance_departs t q k) (sym (same_Some r to ex)) (sym same.0) ∙ here
stays-along t r mid i p leads here later (b ∷ before) after j to e ex =
    let same = cons_parts i b p (before ++ j ∷ after) e in
    later before after j to same.1 (ap (λ o. exec_from t o before) (sym leads ∙ ap (step_by t r) same.0) ∙ ex)

schemas-same : (t : LiftedTask) (j i : Instance) (other : IsInstance t j) (is : IsInstance t i) → j ≡ i → other.schema ≡ is.schema
schemas-same t j i other is e = same_Some other.schema is.schema (sym other.is_schema ∙ (ap (λ (k : Instance). slice_get t.schemas k.schema) e ∙ is.is_schema))

met-same : (t : LiftedTask) (j i : Instance) (other : IsInstance t j) (is : IsInstance t i) → j ≡ i → met_by j.objects other.schema ≡ met_by i.objects is.schema
met-same t j i other is e = ap₂ met_by (ap (λ (k : Instance). k.objects) e) (schemas-same t j i other is e)

negative-same : (t : LiftedTask) (j i : Instance) (other : IsInstance t j) (is : IsInstance t i) → j ≡ i
    → costs_negative t other.schema j.objects ≡ costs_negative t is.schema i.objects
negative-same t j i other is e = ap₂ (costs_negative t) (schemas-same t j i other is e) (ap (λ (k : Instance). k.objects) e)

valid-cons : (t : LiftedTask) (r mid end : Reached) (i : Instance) (p : List Instance) (is : IsInstance t i)
    → IsTaken t r i is.schema → step_by t r i ≡ Some mid → IsValidFrom t mid p end → IsValidFrom t r (i ∷ p) end
valid-cons t r mid end i p is taken leads rest = record {
  instances = All-cons (IsInstance t) i p is rest.instances;
  executes = ap (λ o. exec_from t o p) leads ∙ rest.executes;
  goal = rest.goal;
  goal_stays = rest.goal_stays;
  goal_defined = rest.goal_defined;
  steps_stay = stays-along t r mid i p leads (taken-stays t r i is taken) rest.steps_stay;
  steps_defined = λ j other g c m.
      elim (Contains-cons_cases i p j c) [
        | inl same ↦
            all_defined t (met_by i.objects is.schema) taken.defined g
            (subst (λ (x : List Ground). Contains x g) (met-same t j i other is (sym same)) m)
        | inr later ↦ rest.steps_defined j other g later m
      ];
  not_negative = λ j other c.
      elim (Contains-cons_cases i p j c) [
        | inl same ↦ negative-same t j i other is (sym same) ∙ taken.not_negative
        | inr later ↦ rest.not_negative j other later
      ];
}

-- a plan without a fault is valid, and its cost is there
pub record IsClearedFrom (t : LiftedTask) (r : Reached) (p : List Instance) (end : Reached) : Type 0 where
  pub valid : IsValidFrom t r p end
  pub way : IsOnWay t end

pub cleared : (t : LiftedTask) (r : Reached) (n : ℕ) (p : List Instance) (end : Reached) → IsOnWay t r → ClearsFrom t r n p end → IsClearedFrom t r p end
cleared t r n [] end way clears = record { valid = valid-nil t r end n clears.0 clears.1; way = subst (IsOnWay t) clears.0 way }
cleared t r n (i ∷ p) end way clears =
    let to = clears.0 in
    let is = clears.1.instance in
    let taken = taken-from_unasked t r n i is clears.1.unasked in
    let next = on_way-step t r to i is.schema taken (sym (schema-steps t r i is) ∙ clears.1.leads) way in
    let rest = cleared t to (n + 1) p end next clears.2 in
    record { valid = valid-cons t r to end i p is taken clears.1.leads rest.valid; way = rest.way }

-- what a defined step says
step-holds : (t : LiftedTask) (r to : Reached) (a : Schema) (objects : List ℕ) → step t r a objects ≡ Some to → holds r.state objects a.condition ≡ true
unfolding step
step-holds t r to a objects e =
    let next : Reached = record { state = state_after r.state a objects; cost = cost_after t r a objects } in
    let cost = step_cost t r.state.values a objects in
    (and_parts (holds r.state objects a.condition) (not (is_negative cost))
    (cond_then_some (holds r.state objects a.condition && not (is_negative cost)) (Some next) to e).0).0

-- the other way round
pub clears-from_valid : (t : LiftedTask) (r : Reached) (n : ℕ) (p : List Instance) (end : Reached) → IsValidFrom t r p end → ClearsFrom t r n p end
clears-from_valid t r n [] end valid =
    let same = same_Some r end valid.executes in (
      same,
      subst (λ (q : Reached). asked_of_goal t q n ≡ None) (sym same)
          (unasked-from_goal_met t end n (goal_met-from t end valid.goal valid.goal_stays valid.goal_defined)),
    )
clears-from_valid t r n (i ∷ p) end valid =
    let is : IsInstance t i = All-head (IsInstance t) i p valid.instances in
    elim (step_by t r i) as (λ o. step_by t r i ≡ o → exec_from t o p ≡ Some end → ClearsFrom t r n (i ∷ p) end) [
      | None ↦ λ _ e. absurd (none-some end (sym (exec_from-none t p) ∙ e))
      | Some to ↦ λ leads e.
          let among : Contains (i ∷ p) i = Contains-first i p in
          let taken = taken-from_step t r to i is leads (valid.steps_stay [] p i r refl refl)
          (none_undefined-in t (met_by i.objects is.schema) (λ g c. valid.steps_defined i is g among c))
          (valid.not_negative i is among) (step-holds t r to is.schema i.objects (sym (schema-steps t r i is) ∙ leads)) in
          let passes : Passes t r n i to = record { instance = is; unasked = unasked-from_taken t r n i is taken; leads = leads } in
          let rest : IsValidFrom t to p end = record {
            instances = All-tail (IsInstance t) i p valid.instances;
            executes = e;
            goal = valid.goal;
            goal_stays = valid.goal_stays;
            goal_defined = valid.goal_defined;
            steps_stay = λ before after j q split ex.
                valid.steps_stay (i ∷ before) after j q (ap (λ (xs : List Instance). i ∷ xs) split) (ap (λ o. exec_from t o before) leads ∙ ex);
            steps_defined = λ j other g c m. valid.steps_defined j other g (Contains-later i p j c) m;
            not_negative = λ j other c. valid.not_negative j other (Contains-later i p j c);
          } in
          (to, passes, clears-from_valid t to (n + 1) p end rest)
    ] refl valid.executes

-- ---- whole plans

true-is : (b : Bool) → b ≡ true → IsTrue b
true-is b e = e

pub validated-from_faultless : (t : LiftedTask) (p : List Instance) (end : Reached) (cost : ℕ) → IsFaultless t p end → end.cost ≡ Some (pos cost) → IsValidated t p cost
validated-from_faultless t p end cost clears is =
    let k = cleared t (start t) 1 p end (on_way-start t) clears in
    let v = k.valid in
    let ends : (r : Reached) → exec t p ≡ Some r → end ≡ r = λ r e. same_Some end r (sym v.executes ∙ e) in record {
      valid = record {
        valid = record { instances = v.instances; end = end; executes = v.executes; meets_goal = true-is _ v.goal };
        costs = is;
      };
      steps_stay = λ before after i r split ex. v.steps_stay before after i r split ex;
      goal_stays = λ r e. ap (goal_departs t) (sym (ends r e)) ∙ v.goal_stays;
      steps_defined = v.steps_defined;
      goal_defined = v.goal_defined;
      not_negative = v.not_negative;
    }

-- the cost that a plan without a fault has
pub faultless-cost : (t : LiftedTask) (p : List Instance) (end : Reached) → IsFaultless t p end → (cost : ℕ) × (end.cost ≡ Some (pos cost))
faultless-cost t p end clears = (cleared t (start t) 1 p end (on_way-start t) clears).way.cost

is-true : (b : Bool) → IsTrue b → b ≡ true
is-true b e = e

pub faultless-from_validated : (t : LiftedTask) (p : List Instance) (cost : ℕ) → IsValidated t p cost → (end : Reached) × IsFaultless t p end × (end.cost ≡ Some (pos cost))
faultless-from_validated t p cost k =
    let valid = k.valid.valid in (
      valid.end,
      clears-from_valid t (start t) 1 p valid.end (record {
        instances = valid.instances;
        executes = valid.executes;
        goal = is-true _ valid.meets_goal;
        goal_stays = k.goal_stays valid.end valid.executes;
        goal_defined = k.goal_defined;
        steps_stay = k.steps_stay;
        steps_defined = k.steps_defined;
        not_negative = k.not_negative;
      }),
      k.valid.costs,
    )

-- ---- the laws

pub validated-no_fault : (t : LiftedTask) (p : List Instance) (cost : ℕ) (e : PlanFault) → IsValidated t p cost → IsFirstFault t p e → ⊥
validated-no_fault t p cost e k tells =
    let f = faultless-from_validated t p cost k in
    clears_tells t (start t) 1 p f.0 e f.1 tells

pub first_fault-one : (t : LiftedTask) (p : List Instance) (d e : PlanFault) → IsFirstFault t p d → IsFirstFault t p e → d ≡ e
first_fault-one t p d e one other = tells_once t (start t) 1 p d e one other

pub judged : (t : LiftedTask) (p : List Instance) → ((cost : ℕ) → IsValidated t p cost → ⊥) → ((e : PlanFault) → IsFirstFault t p e → ⊥) → ⊥
judged t p validated tells =
    clears_or_tells t (start t) 1 p
    (λ end clears. let c = faultless-cost t p end clears in validated c.0 (validated-from_faultless t p end c.0 clears c.1)) tells

-- ---- one step of a validation

pub passed-on_way : (t : LiftedTask) (r : Reached) (n : ℕ) (i : Instance) (to : Reached) → IsOnWay t r → Passes t r n i to → IsOnWay t to
passed-on_way t r n i to way p =
    on_way-step t r to i p.instance.schema (taken-from_unasked t r n i p.instance p.unasked) (sym (schema-steps t r i p.instance) ∙ p.leads) way
