-- Why a plan of steps is not valid: of one step, of the goal, and of the whole.
use Rattle.std.proofs.Common.{◌≡◌, ◌≤◌, ℕ, ◌+◌, ◌-◌, take, drop, List, [], ◌∷◌, Some, None, length, get_or, arith, inl, inr, refl, sym, ap, ◌∙◌, subst}
use Rattle.std.proofs.lemmas.List.{take_rest}
use Rattle.hd_plan.specs.declared.step.Step.{Step}
use Rattle.hd_lifted.specs.declared.task.LiftedTask.{LiftedTask}
use Rattle.hd_lifted.specs.declared.instance.Instance.{Instance}
use Rattle.hd_lifted.specs.WellFormed.{HasDistinctNames}
use Rattle.hd_lifted.specs.Steps.{Reached, start}
use Rattle.hd_judge.specs.declared.fault.PlanFault.{PlanFault}
use Rattle.hd_judge.specs.declared.fault.PlanFault.TheVariants.{NoSuchAction, NotApplicable, Departs, GoalUnmet}
use Rattle.hd_judge.specs.declared.fault.PlanStop.TheVariants as stops
use Rattle.hd_judge.specs.Asking.{asked_of_goal}
use Rattle.hd_judge.specs.Refusals.{fault_of, IsReasonOfStep, TellsUnexplained, IsReasonOfGoal, GoalUnexplained}
use Rattle.hd_judge.specs.Validity.{Passes}
use Rattle.hd_judge.specs.Way.{IsOnWay}
use Rattle.hd_judge.proofs.Reasoned.{reason_asked, goal_reason_asked}
use Rattle.hd_plan.specs.Naming.{HasNamesOf}
use Rattle.hd_plan.specs.Plans.{PassesBy, names_none, fails_named, TellsFromBy}
use Rattle.hd_plan.proofs.Judged.{validated_from}
use Rattle.hd_plan.proofs.Stepping.{stops_named}
use Rattle.hd_judge.specs.declared.reason.Reason.{Reason}
use Rattle.hd_explain.specs.declared.plan.PlanReason.{PlanReason}
use Rattle.hd_explain.specs.declared.plan.Halt.{Halt}
use Rattle.hd_explain.specs.declared.plan.Halt.TheVariants as halts
use Rattle.hd_explain.specs.Plans.{objects_of, ExplainsFrom, TellsReason, NeedsNoReason, HasReasonFrom, NeedsNoReasonFrom, HaltsAt, HaltsFrom}
use Rattle.hd_explain.specs.Texts.{text_of}

-- ---- one step

pub step_unnamed : (t : LiftedTask) (r here : Reached) (n : ℕ) (s : Step) → ((i : Instance) → HasNamesOf t s i → ⊥) → HaltsAt t r n s here halts.Untold
step_unnamed t r here n s none = (NoSuchAction n, names_none (λ i step. none i step.names) refl, refl)

pub step_told : (t : LiftedTask) (r here : Reached) (n : ℕ) (s : Step) (i : Instance) (reason : Reason) → HasNamesOf t s i → IsReasonOfStep t r i reason × (here ≡ r)
    → HaltsAt t r n s here (halts.Told (record { instance = Some i; reason = reason }))
step_told t r here n s i reason names why = (
  fault_of (NotApplicable n) (Departs n) reason,
  record {
    instance = i;
    is_step = record { instance = why.0.0; names = names };
    is_here = sym why.1;
    is_of = refl;
    is_reason = why.0;
    is_fault = refl;
  },
)

pub step_passes : (t : LiftedTask) (r here : Reached) (n : ℕ) (s : Step) (i : Instance) → HasNamesOf t s i → Passes t r n i here → PassesBy t r n s here
step_passes t r here n s i names passes = record { instance = i; is_step = record { instance = passes.instance; names = names }; passes = passes }

pub step_untold : (t : LiftedTask) (r here : Reached) (n : ℕ) (s : Step) (i : Instance) (fault : PlanFault) → HasDistinctNames t → HasNamesOf t s i
    → TellsUnexplained t r n i fault → HaltsAt t r n s here halts.Untold
step_untold t r here n s i fault distinct names told = (fault, stops_named t r n s i (stops.At fault) distinct names told.0, told.1)

-- where the way ends at the first step, it does so for the steps
pub halts_first : (t : LiftedTask) (r here : Reached) (n : ℕ) (s : Step) (rest : List Step) (h : Halt) → HaltsAt t r n s here h → HaltsFrom t r n (s ∷ rest) here h
halts_first t r here n s rest halts.Untold told = inr (told.0, inl told.1, told.2)
halts_first t r here n s rest (halts.Told p) told = (told.0, inl told.1)

-- where it ends after a step that passes, too
pub halts_behind : (t : LiftedTask) (r to here : Reached) (n : ℕ) (s : Step) (rest : List Step) (h : Halt) → PassesBy t r n s to → HaltsFrom t to (n + 1) rest here h
    → HaltsFrom t r n (s ∷ rest) here h
halts_behind t r to here n s rest halts.Untold passes told =
    elim told [
      | inl clears ↦ inl (clears.0, (to, passes, clears.1), clears.2)
      | inr fault ↦ inr (fault.0, inr (to, passes, fault.1), fault.2)
    ]
halts_behind t r to here n s rest (halts.Told p) passes told = (told.0, inr (to, passes, told.1))

no_less : 1 ≤ 0 → ⊥
no_less h = omega (arith, h)

-- where it ends at the first of the steps that are left, it does so for the whole
pub halts_whole : (t : LiftedTask) (r here from : Reached) (n : ℕ) (rest steps : List Step) (s d : Step) (h : Halt) → 1 ≤ length rest → s ≡ get_or rest 0 d
    → ((end : Reached) (g : Halt) → HaltsFrom t r n rest end g → HaltsFrom t from 1 steps end g) → HaltsAt t r n s here h
    → HaltsFrom t from 1 steps here h
halts_whole t r here from n [] steps s d h some first whole told = absurd (no_less some)
halts_whole t r here from n (x ∷ after) steps s d h some first whole told =
    whole here h (halts_first t r here n x after h (subst (λ (y : Step). HaltsAt t r n y here h) first told))

-- where a step passes, what holds of the steps after it holds of the whole
pub halts_next : (t : LiftedTask) (r to from : Reached) (n : ℕ) (rest steps : List Step) (s d : Step) → 1 ≤ length rest → s ≡ get_or rest 0 d → PassesBy t r n s to
    → ((end : Reached) (g : Halt) → HaltsFrom t r n rest end g → HaltsFrom t from 1 steps end g)
    → (end : Reached) (g : Halt) → HaltsFrom t to (n + 1) (take (length rest - 1) (drop 1 rest)) end g → HaltsFrom t from 1 steps end g
halts_next t r to from n [] steps s d some first passes whole end g later = absurd (no_less some)
halts_next t r to from n (x ∷ after) steps s d some first passes whole end g later =
    whole end g
    (halts_behind t r to end n x after g (subst (λ (y : Step). PassesBy t r n y to) first passes)
    (subst (λ (ys : List Step). HaltsFrom t to (n + 1) ys end g) (take_rest (x ∷ after) 1) later))

-- ---- the goal

pub goal_told : (t : LiftedTask) (r : Reached) (reason : Reason) → IsReasonOfGoal t r reason
    → (n : ℕ) → HaltsFrom t r n [] r (halts.Told (record { instance = None; reason = reason }))
goal_told t r reason why n = (fault_of GoalUnmet (Departs n) reason, (refl, refl, why, refl))

pub goal_met : (t : LiftedTask) (r : Reached) → IsOnWay t r → ((n : ℕ) → asked_of_goal t r n ≡ None) → (n : ℕ) → HaltsFrom t r n [] r halts.Untold
goal_met t r way met n = inl (r, (refl, met n), way)

pub goal_untold : (t : LiftedTask) (r : Reached) (fault : PlanFault) → GoalUnexplained t r fault → (n : ℕ) → HaltsFrom t r n [] r halts.Untold
goal_untold t r fault told n = inr (fault, told.0 n, told.1)

-- ---- the whole

-- a reason is that of a fault which is reported
explains_tells : (t : LiftedTask) (r : Reached) (n : ℕ) (steps : List Step) (fault : PlanFault) (here : Reached) (p : PlanReason)
    → ExplainsFrom t r n steps fault here p.instance p.reason → TellsFromBy t r n steps fault
explains_tells t r n [] fault here p e = goal_reason_asked t r n p.reason e.2 ∙ ap Some (sym e.3)
explains_tells t r n (s ∷ steps) fault here p e =
    elim e [
      | inl step ↦ inl (fails_named step.instance step.is_step (reason_asked t r n step.instance p.reason step.is_reason ∙ ap Some (sym step.is_fault)))
      | inr later ↦ inr (later.0, later.1, explains_tells t later.0 (n + 1) steps fault here p later.2)
    ]

pub plan_explained : (t : LiftedTask) (r here : Reached) (steps : List Step) (p : PlanReason) (line : List ℕ) → r ≡ start t → HasReasonFrom t r 1 steps here p
    → line ≡ text_of t here (objects_of p.instance) p.reason → TellsReason t steps line
plan_explained t r here steps p line begins has is =
    let e = subst (λ (q : Reached). ExplainsFrom t q 1 steps has.0 here p.instance p.reason) begins has.1 in record {
      here = here;
      of = p.instance;
      reason = p.reason;
      is_reason = record {
        fault = has.0;
        is_first = explains_tells t (start t) 1 steps has.0 here p e;
        explains = e;
      };
      is_line = is;
    }

pub plan_unexplained : (t : LiftedTask) (r : Reached) (steps : List Step) → r ≡ start t → NeedsNoReasonFrom t r 1 steps → NeedsNoReason t steps
plan_unexplained t r steps begins needs =
    elim needs [
      | inl clears ↦ inl (clears.2.cost.0, validated_from t r steps clears.0 clears.2.cost.0 begins clears.1 clears.2.cost.1)
      | inr told ↦ inr (told.0, subst (λ (q : Reached). TellsFromBy t q 1 steps told.0) begins told.1, told.2)
    ]
