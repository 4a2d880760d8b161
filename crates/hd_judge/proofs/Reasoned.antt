-- Which fault the questions about a step and the goal tell, if there is a reason, and where
-- there is none.
use Rattle.std.proofs.Common.{◌≡◌, ℕ, true, false, ◌&&◌, List, [], Some, inl, inr, refl, sym, ap, ap₂, ◌∙◌}
use Rattle.std.specs.Prelude.{◌+ℤ◌}
use Rattle.std.specs.List.{list_all}
use Rattle.std.specs.Option.{option_or}
use Rattle.hd_base.specs.Numbers.{fits}
use Rattle.hd_base.specs.Values.{of_both}
use Rattle.hd_lifted.specs.declared.schema.Condition.{Condition}
use Rattle.hd_lifted.specs.declared.schema.Schema.{Schema}
use Rattle.hd_lifted.specs.declared.task.LiftedTask.{LiftedTask}
use Rattle.hd_lifted.specs.declared.instance.Instance.{Instance}
use Rattle.hd_lifted.specs.States.{State}
use Rattle.hd_lifted.specs.Conditions.{literal_holds, equality_holds, comparison_holds, comparison_stays, literals_hold, comparisons_hold, holds}
use Rattle.hd_lifted.specs.Effects.{is_negative, effects_stay}
use Rattle.hd_lifted.specs.Steps.{Reached, step}
use Rattle.hd_lifted.specs.Departures.{cost_stays}
use Rattle.hd_judge.specs.declared.fault.PlanFault.{PlanFault}
use Rattle.hd_judge.specs.declared.fault.PlanFault.TheVariants.{NotApplicable, Departs, GoalUnmet}
use Rattle.hd_judge.specs.declared.reason.Reason.{Reason}
use Rattle.hd_judge.specs.declared.reason.Reason.TheVariants as reasons
use Rattle.hd_judge.specs.Fault.{unless}
use Rattle.hd_judge.specs.Asking.{asked_of_comparisons, asked_before, asked_after, asked_of_step, asked_of_goal}
use Rattle.hd_judge.specs.Effects.{amount_stays}
use Rattle.hd_judge.specs.Reasons.{IsReasonOfLiterals, IsReasonOfComparisons}
use Rattle.hd_judge.specs.EffectReasons.{new_value_stays, IsReasonOfEffects}
use Rattle.hd_judge.specs.Refusals.{fault_of, IsReasonBefore, IsReasonOfStep, IsReasonOfGoal}
use Rattle.hd_judge.proofs.Asked.{met-holds, asked-schema, asked_literals, asked_comparisons, unasked-before, goal_literals, goal_comparisons}
use Rattle.hd_judge.proofs.Failing.{fails_where_some, both_first, both_second}
use Rattle.hd_judge.proofs.Leaving.{and_false, false_and}
use Rattle.hd_judge.proofs.Stepping.{step_stays}

-- ---- parts of a condition

literals_fail : (s : State) (objects : List ℕ) (c : Condition) (unmet departs : PlanFault) (reason : Reason) → IsReasonOfLiterals s objects c reason
    → (literals_hold s objects c ≡ false) × (fault_of unmet departs reason ≡ unmet)
literals_fail s objects c unmet departs (reasons.Literal l) why = (
  false_and (list_all (literal_holds s.atoms objects) c.literals) (list_all (equality_holds objects) c.equalities)
      (fails_where_some (literal_holds s.atoms objects) c.literals l.now why),
  refl,
)
literals_fail s objects c unmet departs (reasons.Equality e) why = (
  and_false (list_all (literal_holds s.atoms objects) c.literals) (list_all (equality_holds objects) c.equalities)
      (fails_where_some (equality_holds objects) c.equalities e why.1),
  refl,
)
literals_fail s objects c unmet departs _ why = absurd why

comparisons_fail : (s : State) (objects : List ℕ) (c : Condition) (unmet departs : PlanFault) (reason : Reason)
    → IsReasonOfComparisons s.values objects c.comparisons reason
    → asked_of_comparisons s objects c departs unmet ≡ Some (fault_of unmet departs reason)
comparisons_fail s objects c unmet departs (reasons.Subexpression d) why =
    ap (λ b. option_or (unless b departs) (unless (comparisons_hold s objects c) unmet))
    (fails_where_some (comparison_stays s.values objects) c.comparisons why.0 why.1)
comparisons_fail s objects c unmet departs (reasons.Comparison d) why =
    ap₂ (λ a b. option_or (unless a departs) (unless b unmet)) why.0
    (fails_where_some (comparison_holds s.values objects) c.comparisons d.now why.1)
comparisons_fail s objects c unmet departs _ why = absurd why

-- ---- effects

effects_fail : (t : LiftedTask) (r : Reached) (a : Schema) (objects : List ℕ) (unmet departs : PlanFault) (reason : Reason)
    → holds r.state objects a.condition ≡ true → IsReasonOfEffects t r a objects reason
    → ((effects_stay r.state.values a objects && cost_stays (step t r a objects)) ≡ false) × (fault_of unmet departs reason ≡ departs)
unfolding effects_stay
effects_fail t r a objects unmet departs (reasons.Subexpression d) hold why = (
  false_and (effects_stay r.state.values a objects) (cost_stays (step t r a objects))
      (both_first (amount_stays r.state.values objects) (new_value_stays r.state.values a objects) a.effects
      (fails_where_some (amount_stays r.state.values objects) a.effects why.0 why.1)),
  refl,
)
effects_fail t r a objects unmet departs (reasons.NewValue n) hold why = (
  false_and (effects_stay r.state.values a objects) (cost_stays (step t r a objects))
      (both_second (amount_stays r.state.values objects) (new_value_stays r.state.values a objects) a.effects
      (fails_where_some (new_value_stays r.state.values a objects) a.effects n.effect.now why.2)),
  refl,
)
effects_fail t r a objects unmet departs (reasons.NegativeCost c) hold why = (
  and_false (effects_stay r.state.values a objects) (cost_stays (step t r a objects))
      (step_stays t r a objects true hold (ap is_negative why.1.value ∙ why.2)),
  refl,
)
effects_fail t r a objects unmet departs (reasons.PlanCost c) hold why = (
  and_false (effects_stay r.state.values a objects) (cost_stays (step t r a objects))
      (step_stays t r a objects false hold (ap is_negative why.1.value ∙ why.2)
      ∙ (ap₂ (λ x y. fits (of_both (λ x y. x +ℤ y) x y)) why.1.before why.1.value ∙ why.3)),
  refl,
)
effects_fail t r a objects unmet departs _ hold why = absurd why

-- ---- a step

after_departs : (t : LiftedTask) (r : Reached) (n : ℕ) (i : Instance) (a : Schema)
    → (effects_stay r.state.values a i.objects && cost_stays (step t r a i.objects)) ≡ false → asked_after t r n i a ≡ Some (Departs n)
unfolding asked_after
after_departs t r n i a leave = ap (λ b. unless b (Departs n)) leave

-- what has a reason before a step has its fault
before_asked : (t : LiftedTask) (r : Reached) (n : ℕ) (i : Instance) (a : Schema) (reason : Reason) → IsReasonBefore t r i a reason
    → asked_before t r n i a ≡ Some (fault_of (NotApplicable n) (Departs n) reason)
before_asked t r n i a reason why =
    elim why [
      | inl literals ↦
          let told = literals_fail r.state i.objects a.condition (NotApplicable n) (Departs n) reason literals in
          asked_literals t r n i a told.0 ∙ ap Some (sym told.1)
      | inr numbers ↦
          asked_comparisons t r n i a numbers.0 numbers.1 numbers.2
          ∙ comparisons_fail r.state i.objects a.condition (NotApplicable n) (Departs n) reason numbers.3
    ]

-- a step with a reason has its fault
pub reason_asked : (t : LiftedTask) (r : Reached) (n : ℕ) (i : Instance) (reason : Reason) → IsReasonOfStep t r i reason
    → asked_of_step t r n i ≡ Some (fault_of (NotApplicable n) (Departs n) reason)
reason_asked t r n i reason why =
    let a = why.1 in
    asked-schema t r n i a why.2
    ∙ elim why.3 [
      | inl before ↦ ap (λ o. option_or o (asked_after t r n i a)) (before_asked t r n i a reason before)
      | inr effects ↦
          let told = effects_fail t r a i.objects (NotApplicable n) (Departs n) reason (met-holds r.state i.objects a.condition effects.0.met) effects.1 in
          ap (λ o. option_or o (asked_after t r n i a)) (unasked-before t r n i a effects.0) ∙ (after_departs t r n i a told.0 ∙ ap Some (sym told.1))
    ]

-- ---- the goal

pub goal_reason_asked : (t : LiftedTask) (r : Reached) (n : ℕ) (reason : Reason) → IsReasonOfGoal t r reason
    → asked_of_goal t r n ≡ Some (fault_of GoalUnmet (Departs n) reason)
goal_reason_asked t r n reason why =
    elim why [
      | inl literals ↦
          let told = literals_fail r.state [] t.goal GoalUnmet (Departs n) reason literals in
          goal_literals t r n told.0 ∙ ap Some (sym told.1)
      | inr numbers ↦
          goal_comparisons t r n numbers.0 numbers.1 ∙ comparisons_fail r.state [] t.goal GoalUnmet (Departs n) reason numbers.2
    ]
