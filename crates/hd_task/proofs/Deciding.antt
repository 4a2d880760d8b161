-- What `apply` and `goal` answer decides what happens at a plan, given the plan's cost.
use Rattle.std.proofs.Common.{◌≡◌, ℕ, ◌+◌, Bool, true, false, cond, not, ◌&&◌, ◌||◌, Option, Some, None, is_some, slice_get, refl, ap, ◌∙◌}
use Rattle.hd_base.specs.Numbers.{cost_in_range}
use Rattle.hd_base.proofs.Truth.{not-not}
use Rattle.hd_task.specs.declared.state.State.{State}
use Rattle.hd_task.specs.declared.action.Action.{Action}
use Rattle.hd_task.specs.declared.task.Task.{Task}
use Rattle.hd_task.specs.declared.applying.GoalTest.TheVariants as Test
use Rattle.hd_task.specs.declared.applying.Applied.TheVariants as Answer
use Rattle.hd_task.specs.Conditions.{holds, condition_departs}
use Rattle.hd_task.specs.Effects.{state_after, step_cost, effects_stay}
use Rattle.hd_task.specs.Plans.{Node, after_step, step, step_of, step_by}
use Rattle.hd_task.specs.Departures.{cost_stays, departs_by, goal_departs, action_departs}
use Rattle.hd_task.specs.Applying.{test_of, goal_of, departs_aside, next_of, applied_of, applied_by, applied_at, goes_on, leaves_range, says_yes, says_departs}
use Rattle.hd_task.specs.Expansions.{is_applicable, goal_cost}

-- ---- an action: d says that its condition departs, h that it holds, es that its effects stay in
-- the range

applicable_cases :
    (t : Task) (r : Node) (a : Action) (d h es : Bool) (c : Option ℕ)
    → (is_some (cond h (after_step t r a c) None) && not (d || (h && not (es && cost_stays (cond h (after_step t r a c) None)))))
    ≡ goes_on r.cost (cond (d || (h && not (es && is_some c))) Answer.Departs (cond h (next_of (state_after t r.state a) c) Answer.No))
applicable_cases t r a true true es None = refl
applicable_cases t r a true true es (Some c) = refl
applicable_cases t r a true false es c = refl
applicable_cases t r a false false es c = refl
applicable_cases t r a false true true None = refl
applicable_cases t r a false true true (Some c) = not-not (cost_in_range (r.cost + c))
applicable_cases t r a false true false None = refl
applicable_cases t r a false true false (Some c) = refl

departs_cases :
    (t : Task) (r : Node) (a : Action) (d h es : Bool) (c : Option ℕ)
    → (d || (h && not (es && cost_stays (cond h (after_step t r a c) None))))
    ≡ leaves_range r.cost (cond (d || (h && not (es && is_some c))) Answer.Departs (cond h (next_of (state_after t r.state a) c) Answer.No))
departs_cases t r a true h es c = refl
departs_cases t r a false false es c = refl
departs_cases t r a false true true None = refl
departs_cases t r a false true true (Some c) = refl
departs_cases t r a false true false None = refl
departs_cases t r a false true false (Some c) = refl

leads_cases :
    (t : Task) (r : Node) (a : Action) (d h es : Bool) (c : Option ℕ) (s : State) (n : ℕ)
    → cond (d || (h && not (es && is_some c))) Answer.Departs (cond h (next_of (state_after t r.state a) c) Answer.No) ≡ Answer.Next s n
    → cond h (after_step t r a c) None ≡ Some (record { state = s; cost = r.cost + n })
leads_cases t r a true h es c s n e = absurd (cc)
leads_cases t r a false false es c s n e = absurd (cc)
leads_cases t r a false true true None s n e = absurd (cc)
leads_cases t r a false true true (Some c) s n e =
    let same : state_after t r.state a ≡ s = cc in
    let cost : c ≡ n = cc in
    ap (λ (x : State). Some (record { state = x; cost = r.cost + c })) same
    ∙ ap (λ (m : ℕ). Some (record { state = s; cost = r.cost + m })) cost
leads_cases t r a false true false None s n e = absurd (cc)
leads_cases t r a false true false (Some c) s n e = absurd (cc)

applicable_by : (t : Task) (r : Node) (o : Option Action) → (is_some (step_of t r o) && not (departs_by t r o)) ≡ goes_on r.cost (applied_by t r.state o)
unfolding step applied_of departs_aside
applicable_by t r None = refl
applicable_by t r (Some a) = applicable_cases t r a (condition_departs r.state a.condition) (holds r.state a.condition) (effects_stay r.state a) (step_cost t r.state a)

pub applicable-is : (t : Task) (r : Node) (n : ℕ) → is_applicable t (Some r) n ≡ goes_on r.cost (applied_at t r.state n)
unfolding step_by action_departs
applicable-is t r n = applicable_by t r (slice_get t.actions n)

departs_of : (t : Task) (r : Node) (o : Option Action) → departs_by t r o ≡ leaves_range r.cost (applied_by t r.state o)
unfolding step applied_of departs_aside
departs_of t r None = refl
departs_of t r (Some a) = departs_cases t r a (condition_departs r.state a.condition) (holds r.state a.condition) (effects_stay r.state a) (step_cost t r.state a)

pub departs-is : (t : Task) (r : Node) (n : ℕ) → action_departs t r n ≡ leaves_range r.cost (applied_at t r.state n)
unfolding action_departs
departs-is t r n = departs_of t r (slice_get t.actions n)

leads_by : (t : Task) (r : Node) (o : Option Action) (s : State) (c : ℕ) → applied_by t r.state o ≡ Answer.Next s c → step_of t r o ≡ Some (record { state = s; cost = r.cost + c })
unfolding step applied_of departs_aside
leads_by t r None s c e = absurd (cc)
leads_by t r (Some a) s c e = leads_cases t r a (condition_departs r.state a.condition) (holds r.state a.condition) (effects_stay r.state a) (step_cost t r.state a) s c e

pub leads-is : (t : Task) (r : Node) (n : ℕ) (s : State) (c : ℕ) → applied_at t r.state n ≡ Answer.Next s c → step_by t r n ≡ Some (record { state = s; cost = r.cost + c })
unfolding step_by
leads-is t r n s c e = leads_by t r (slice_get t.actions n) s c e

-- ---- the goal: d says that it departs, h that it holds

goal_cases : (d h : Bool) (cost : ℕ) → cond (h && not d) (Some cost) None ≡ cond (says_yes (cond d Test.Departs (cond h Test.Yes Test.No))) (Some cost) None
goal_cases true true cost = refl
goal_cases true false cost = refl
goal_cases false true cost = refl
goal_cases false false cost = refl

pub goal-is : (t : Task) (r : Node) → goal_cost t (Some r) ≡ cond (says_yes (goal_of t r.state)) (Some r.cost) None
unfolding test_of goal_departs
goal-is t r = goal_cases (condition_departs r.state t.goal) (holds r.state t.goal) r.cost

goal_departs_cases : (d h : Bool) → d ≡ says_departs (cond d Test.Departs (cond h Test.Yes Test.No))
goal_departs_cases true h = refl
goal_departs_cases false true = refl
goal_departs_cases false false = refl

pub goal_departs-is : (t : Task) (r : Node) → goal_departs t r ≡ says_departs (goal_of t r.state)
unfolding test_of goal_departs
goal_departs-is t r = goal_departs_cases (condition_departs r.state t.goal) (holds r.state t.goal)
