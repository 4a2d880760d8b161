-- The plan of a bound is sound: nothing of it departs, and it is valid at a cost within the range.
use Rattle.std.proofs.Common.{◌≡◌, ℕ, ◌+◌, ◌<◌, ◌≤◌, ◌^◌, true, false, not, ◌&&◌, is_some, List, [], ◌∷◌, ◌++◌, Contains, Option, Some, None, refl, sym, ◌∙◌, subst, arith, option_and_then}
use Rattle.std.proofs.lemmas.Bool.{and_parts, not-true, leb-true}
use Rattle.std.proofs.lemmas.Option.{none-some, same_Some, cond_some}
use Rattle.std.proofs.lemmas.List.Elements.{Contains-get_or}
use Rattle.hd_base.specs.Numbers.{cost_in_range}
use Rattle.hd_base.specs.declared.range.TheConstants.{RANGE_END}
use Rattle.hd_task.specs.declared.task.Task.{Task}
use Rattle.hd_task.specs.declared.applying.Applied.{Applied}
use Rattle.hd_task.specs.declared.applying.Applied.TheVariants as Answer
use Rattle.hd_task.specs.Applying.{applied_at, goes_on}
use Rattle.hd_task.specs.Conditions.{holds}
use Rattle.hd_task.specs.Departures.{action_departs, goal_departs}
use Rattle.hd_task.specs.Expansions.{is_applicable, goal_cost, IsLegal}
use Rattle.hd_task.specs.Plans.{Node, start, step_by, exec, exec_from, IsValidAt}
use Rattle.hd_task.proofs.Deciding.{applicable-is, leads-is}
use Rattle.hd_task.proofs.Optimal.{goal_plan_valid}
use Rattle.hd_task.proofs.Runs.{exec_from-none}
use Rattle.hd_entries.specs.Answers.{IsBoundPlan}
use Rattle.hd_texts.specs.Printing.{GoesThrough, GroundGoalStays}
use Rattle.hplan.specs.PlanText.{goes_from, goes_through}
use Rattle.hplan.proofs.Legal.{legal_goes}

-- a plan of a task from which nothing departs, and which is valid at a cost that can be written
pub record IsSound (t : Task) (p : List ℕ) : Type 0 where
  pub cost : ℕ
  pub valid : IsValidAt t p cost
  pub small : cost < 2 ^ 64
  pub goes : GoesThrough t p
  pub stays : GroundGoalStays t p

-- ---- no step departs

applicable_at_step : (t : Task) (r : Option Node) (before after : List ℕ) (n : ℕ) → goes_from t r (before ++ n ∷ after) ≡ true
    → is_applicable t (exec_from t r before) n ≡ true
applicable_at_step t r [] after n through =
    (and_parts (is_applicable t r n) (goes_from t (option_and_then (λ (q : Node). step_by t q n) r) after) through).0
applicable_at_step t r (m ∷ before) after n through =
    let next = option_and_then (λ (q : Node). step_by t q m) r in
    applicable_at_step t next before after n (and_parts (is_applicable t r m) (goes_from t next (before ++ n ∷ after)) through).1

no_step_departs : (t : Task) (p : List ℕ) → goes_through t p ≡ true → GoesThrough t p
no_step_departs t p through before after n m is at =
    let parted : goes_through t (before ++ n ∷ after) ≡ true = subst (λ (q : List ℕ). goes_through t q ≡ true) is through in
    let applicable : is_applicable t (Some m) n ≡ true =
    subst (λ (r : Option Node). is_applicable t r n ≡ true) at (applicable_at_step t (Some (start t)) before after n parted)
    in
    not-true (action_departs t m n) (and_parts (is_some (step_by t m n)) (not (action_departs t m n)) applicable).1

-- ---- the cost stays in the range

stays_by : (t : Task) (r to : Node) (n : ℕ) (x : Applied) → applied_at t r.state n ≡ x → goes_on r.cost x ≡ true → step_by t r n ≡ Some to
    → cost_in_range to.cost ≡ true
stays_by t r to n Answer.No is goes e = absurd (cc)
stays_by t r to n (Answer.Next s c) is goes e =
    let same : record { state = s; cost = r.cost + c } ≡ to = same_Some _ to (sym (leads-is t r n s c is) ∙ e) in
    subst (λ (x : Node). cost_in_range x.cost ≡ true) same goes
stays_by t r to n Answer.Departs is goes e = absurd (cc)

step_stays : (t : Task) (r to : Node) (n : ℕ) → is_applicable t (Some r) n ≡ true → step_by t r n ≡ Some to → cost_in_range to.cost ≡ true
step_stays t r to n applicable e =
    stays_by t r to n (applied_at t r.state n) refl (sym (applicable-is t r n) ∙ applicable) e

cost_stays : (t : Task) (r : Node) (p : List ℕ) (to : Node) → cost_in_range r.cost ≡ true → goes_from t (Some r) p ≡ true
    → exec_from t (Some r) p ≡ Some to → cost_in_range to.cost ≡ true
cost_stays t r [] to within through e = subst (λ (x : Node). cost_in_range x.cost ≡ true) (same_Some r to e) within
cost_stays t r (n ∷ p) to within through e =
    let k = and_parts (is_applicable t (Some r) n) (goes_from t (step_by t r n) p) through in
    elim (step_by t r n) as (λ o. step_by t r n ≡ o → goes_from t o p ≡ true → exec_from t o p ≡ Some to → cost_in_range to.cost ≡ true) [
      | None ↦ λ _ _ e. absurd (none-some to (sym (exec_from-none t p) ∙ e))
      | Some m ↦ λ is through e. cost_stays t m p to (step_stays t r m n k.0 is) through e
    ] refl k.1 e

begins_within : (t : Task) → cost_in_range (start t).cost ≡ true
unfolding start
begins_within t = refl

can_be_written : (cost : ℕ) → cost_in_range cost ≡ true → cost < 2 ^ 64
can_be_written cost within =
    let least : cost ≤ RANGE_END = leb-true cost RANGE_END within in
    omega (arith, least)

-- ---- the goal does not depart

goal_stays_by : (t : Task) (m : Node) (o : Option Node) (cost : ℕ) → o ≡ Some m → goal_cost t o ≡ Some cost → goal_departs t m ≡ false
goal_stays_by t m None cost at meets = absurd (none-some m at)
goal_stays_by t m (Some r) cost at meets =
    let k = cond_some (holds r.state t.goal && not (goal_departs t r)) r.cost cost meets in
    subst (λ (x : Node). goal_departs t x ≡ false) (same_Some r m at)
    (not-true (goal_departs t r) (and_parts (holds r.state t.goal) (not (goal_departs t r)) k.0).1)

-- ---- the plan of the bound

goes_sound : (t : Task) (p : List ℕ) (cost : ℕ) → goes_through t p ≡ true → goal_cost t (exec t p) ≡ Some cost → IsSound t p
goes_sound t p cost through meets =
    let valid = goal_plan_valid t p cost meets in
    let within = cost_stays t (start t) p valid.end (begins_within t) through valid.executes in
    record {
      cost = cost;
      valid = valid;
      small = can_be_written cost (subst (λ (c : ℕ). cost_in_range c ≡ true) valid.costs within);
      goes = no_step_departs t p through;
      stays = λ m at. goal_stays_by t m (exec t p) cost at meets;
    }

pub bound_plan_goes : (t : Task) (expanded : List (List ℕ)) (p : List ℕ) → IsLegal t expanded → IsBoundPlan t expanded p → goes_through t p ≡ true
bound_plan_goes t expanded p legal b =
    legal_goes t expanded p legal (subst (Contains expanded) b.plan (Contains-get_or expanded b.number [] b.among))

pub bound_plan_sound : (t : Task) (expanded : List (List ℕ)) (p : List ℕ) → IsLegal t expanded → IsBoundPlan t expanded p → IsSound t p
bound_plan_sound t expanded p legal b = goes_sound t p b.cost (bound_plan_goes t expanded p legal b) b.meets
