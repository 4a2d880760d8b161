-- What `apply` answers decides what `step` answers, given the plan's cost.
use Rattle.std.proofs.Common.{◌≡◌, ℕ, ◌+◌, Bool, true, false, cond, not, ◌&&◌, ◌||◌, [], ◌∷◌, Option, Some, None, is_some, slice_get, refl, sym, ap, ◌∙◌}
use Rattle.std.proofs.lemmas.Bool.{cond-true, cond-false}
use Rattle.hd_base.specs.Numbers.{cost_in_range}
use Rattle.hd_task.specs.declared.state.State.{State}
use Rattle.hd_task.specs.declared.action.Action.{Action}
use Rattle.hd_task.specs.declared.task.Task.{Task}
use Rattle.hd_task.specs.declared.applying.Applied.{Applied}
use Rattle.hd_task.specs.declared.applying.Applied.TheVariants as Answer
use Rattle.hd_task.specs.declared.stepping.Reached.{Reached}
use Rattle.hd_task.specs.declared.stepping.Reached.TheVariants.{No, Next, Departs}
use Rattle.hd_task.specs.Conditions.{holds, condition_departs}
use Rattle.hd_task.specs.Effects.{state_after, step_cost, effects_stay}
use Rattle.hd_task.specs.Plans.{IsStateOf, Node, node, after_step, step, step_of, step_by}
use Rattle.hd_task.specs.Departures.{cost_stays, departs_by, action_departs}
use Rattle.hd_task.specs.Applying.{departs_aside, next_of, applied_of, applied_by, applied_at}
use Rattle.hd_task.specs.Stepping.{reached_by, step_at, is_step_next, is_departure, IsStepAnswer}
use Rattle.hd_task.proofs.Runs.{exec_from-state}

-- ---- by the answer of `apply`

-- what `step` answers at a plan of some cost, by what `apply` answers
abbrev pub reached_from : ℕ → Applied → Reached
reached_from cost Answer.No = No
reached_from cost (Answer.Next s c) = cond (cost_in_range (cost + c)) (Next s (cost + c)) Departs
reached_from cost Answer.Departs = Departs

cond-not : (b : Bool) (x : Reached) → cond (not b) Departs x ≡ cond b x Departs
cond-not true x = refl
cond-not false x = refl

-- d says that the action's condition departs, h that it holds, es that its effects stay in the
-- range
step_cases :
    (t : Task) (r : Node) (a : Action) (d h es : Bool) (c : Option ℕ)
    → cond (d || (h && not (es && cost_stays (cond h (after_step t r a c) None)))) Departs (reached_by (cond h (after_step t r a c) None))
    ≡ reached_from r.cost (cond (d || (h && not (es && is_some c))) Answer.Departs (cond h (next_of (state_after t r.state a) c) Answer.No))
step_cases t r a true h es c = refl
step_cases t r a false false es c = refl
step_cases t r a false true true None = refl
step_cases t r a false true true (Some c) = cond-not (cost_in_range (r.cost + c)) (Next (state_after t r.state a) (r.cost + c))
step_cases t r a false true false None = refl
step_cases t r a false true false (Some c) = refl

step_of-is :
    (t : Task) (r : Node) (o : Option Action)
    → cond (departs_by t r o) Departs (reached_by (step_of t r o)) ≡ reached_from r.cost (applied_by t r.state o)
unfolding step applied_of departs_aside
step_of-is t r None = refl
step_of-is t r (Some a) = step_cases t r a (condition_departs r.state a.condition) (holds r.state a.condition) (effects_stay r.state a) (step_cost t r.state a)

pub step_at-is : (t : Task) (r : Node) (n : ℕ) → step_at t r n ≡ reached_from r.cost (applied_at t r.state n)
unfolding step_at step_by action_departs
step_at-is t r n = step_of-is t r (slice_get t.actions n)

-- ---- what an answer says

is_next-cond : (d : Bool) (o : Option Node) → is_step_next (cond d Departs (reached_by o)) ≡ (is_some o && not d)
is_next-cond true None = refl
is_next-cond true (Some r) = refl
is_next-cond false None = refl
is_next-cond false (Some r) = refl

is_departure-cond : (d : Bool) (o : Option Node) → is_departure (cond d Departs (reached_by o)) ≡ d
is_departure-cond true o = refl
is_departure-cond false None = refl
is_departure-cond false (Some r) = refl

leads_cond : (d : Bool) (o : Option Node) (s : State) (cost : ℕ) → cond d Departs (reached_by o) ≡ Next s cost → o ≡ Some (node s cost)
leads_cond true o s cost e = absurd (cc)
leads_cond false None s cost e = absurd (cc)
leads_cond false (Some r) s cost e =
    let same : r.state ≡ s = cc in
    let at : r.cost ≡ cost = cc in
    ap (λ (x : State). Some (node x r.cost)) same ∙ ap (λ (m : ℕ). Some (node s m)) at

pub step_at-says : (t : Task) (r : Node) (n : ℕ) → IsStateOf t r.state → IsStepAnswer t r n (step_at t r n)
unfolding step_at
step_at-says t r n of_task = record {
  applicable = is_next-cond (action_departs t r n) (step_by t r n);
  departs = is_departure-cond (action_departs t r n) (step_by t r n);
  leads = leads_cond (action_departs t r n) (step_by t r n);
  next_of_task = λ s cost e. exec_from-state t (n ∷ []) r (node s cost) of_task (leads_cond (action_departs t r n) (step_by t r n) s cost e);
}

-- the answer by what `apply` answered
pub step_at-from : (t : Task) (r : Node) (n : ℕ) (x : Reached) (y : Applied) → y ≡ applied_at t r.state n → x ≡ reached_from r.cost y → x ≡ step_at t r n
step_at-from t r n x y ey ex = ex ∙ (ap (reached_from r.cost) ey ∙ sym (step_at-is t r n))

-- the plan's cost stays in the range, or leaves it
pub reached_within : (s : State) (cost c total : ℕ) → cost_in_range (cost + c) ≡ true → total ≡ cost + c → Next s total ≡ reached_from cost (Answer.Next s c)
reached_within s cost c total within is =
    ap (λ (m : ℕ). Next s m) is ∙ sym (cond-true (cost_in_range (cost + c)) (Next s (cost + c)) Departs within)

pub reached_beyond : (s : State) (cost c : ℕ) → cost_in_range (cost + c) ≡ false → Departs ≡ reached_from cost (Answer.Next s c)
reached_beyond s cost c out = sym (cond-false (cost_in_range (cost + c)) (Next s (cost + c)) Departs out)
