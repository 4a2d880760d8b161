-- Why a step of a plan is refused, or the goal at its end, and what is reported. (The order is our
-- own.)
use Rattle.std.specs.Prelude.{◌≡◌, ℕ, Bool, true, false, ◌⊎◌, List, [], Some, None, slice_get}
use Rattle.hd_lifted.specs.declared.schema.Condition.{Condition}
use Rattle.hd_lifted.specs.declared.schema.Schema.{Schema}
use Rattle.hd_lifted.specs.declared.task.LiftedTask.{LiftedTask}
use Rattle.hd_lifted.specs.declared.instance.Instance.{Instance}
use Rattle.hd_lifted.specs.States.{State}
use Rattle.hd_lifted.specs.Conditions.{literals_hold, comparisons_stay, comparisons_hold}
use Rattle.hd_lifted.specs.Steps.{Reached}
use Rattle.hd_lifted.specs.Plans.{IsInstance}
use Rattle.hd_lifted.specs.Met.{met_by, met_by_goal}
use Rattle.hd_judge.specs.declared.fault.PlanFault.{PlanFault}
use Rattle.hd_judge.specs.declared.fault.PlanFault.TheVariants.{NoSuchAction, NotApplicable, Undefined, NegativeCost, Departs, GoalUnmet}
use Rattle.hd_judge.specs.declared.fault.PlanStop.{PlanStop}
use Rattle.hd_judge.specs.declared.fault.PlanStop.TheVariants as stops
use Rattle.hd_judge.specs.declared.reason.Reason.{Reason}
use Rattle.hd_judge.specs.declared.reason.Reason.TheVariants as reasons
use Rattle.hd_judge.specs.declared.refusal.PlanRefusal.{PlanRefusal}
use Rattle.hd_judge.specs.declared.refusal.PlanRefusal.TheVariants as refusals
use Rattle.hd_judge.specs.Fault.{StopsBy}
use Rattle.hd_lifted.specs.Questions.{first_undefined, costs_negative}
use Rattle.hd_judge.specs.Asking.{asked_before, asked_of_goal}
use Rattle.hd_judge.specs.Validity.{TellsStep}
use Rattle.hd_judge.specs.Reasons.{IsReasonOfLiterals, IsReasonOfComparisons}
use Rattle.hd_judge.specs.EffectReasons.{IsReasonOfEffects}

-- ---- reasons and their faults

-- the fault that a reason is one of: a part of a condition that does not hold is of the one, what
-- leaves the range of the other
abbrev pub fault_of : PlanFault → PlanFault → Reason → PlanFault
fault_of unmet departs (reasons.Literal l) = unmet
fault_of unmet departs (reasons.Equality e) = unmet
fault_of unmet departs (reasons.Comparison c) = unmet
fault_of unmet departs (reasons.Subexpression d) = departs
fault_of unmet departs (reasons.NewValue n) = departs
fault_of unmet departs (reasons.NegativeCost c) = departs
fault_of unmet departs (reasons.PlanCost c) = departs

-- a fault is one that a reason belongs to; the others say all that there is to say
abbrev pub is_explained : PlanFault → Bool
is_explained (NoSuchAction n) = false
is_explained (NotApplicable n) = true
is_explained (Undefined g) = false
is_explained (NegativeCost i) = false
is_explained (Departs n) = true
is_explained GoalUnmet = true

-- what is reported of a refusal
abbrev pub stop_of : PlanFault → PlanFault → PlanRefusal → PlanStop
stop_of unmet departs (refusals.For reason) = stops.At (fault_of unmet departs reason)
stop_of unmet departs (refusals.At stop) = stop

-- a refusal is for such a reason, or at such a fault, or for lack of memory
abbrev pub RefusesBy : (Reason → Type 0) → (PlanFault → Type 0) → PlanRefusal → Type 0
RefusesBy IsReason Tells (refusals.For reason) = IsReason reason
RefusesBy IsReason Tells (refusals.At stop) = StopsBy Tells stop

-- it is for such a reason, or for lack of memory
abbrev pub RefusesFor : (Reason → Type 0) → PlanRefusal → Type 0
RefusesFor IsReason refusal = RefusesBy IsReason (λ fault. ⊥) refusal

-- ---- a step

-- a condition is met: it holds, and doesn't depart
pub record IsMetBy (s : State) (objects : List ℕ) (c : Condition) : Type 0 where
  pub literals : literals_hold s objects c ≡ true
  pub stay : comparisons_stay s objects c ≡ true
  pub hold : comparisons_hold s objects c ≡ true

-- no question before a step reports a fault: its condition is met, all that the step meets has
-- first values, and its cost is not the same in each state and negative
pub record IsBefore (t : LiftedTask) (r : Reached) (i : Instance) (a : Schema) : Type 0 where
  pub met : IsMetBy r.state i.objects a.condition
  pub defined : first_undefined t (met_by i.objects a) ≡ None
  pub not_negative : costs_negative t a i.objects ≡ false

-- this is why a question before a step does: the first literal or equality that does not hold; or,
-- where these hold, all that the step meets has first values, and its cost is not the same in each
-- state and negative, why its comparisons do not hold, or depart
abbrev pub IsReasonBefore : LiftedTask → Reached → Instance → Schema → Reason → Type 0
IsReasonBefore t r i a reason =
    IsReasonOfLiterals r.state i.objects a.condition reason
    ⊎ ((literals_hold r.state i.objects a.condition ≡ true) × (first_undefined t (met_by i.objects a) ≡ None)
    × (costs_negative t a i.objects ≡ false) × IsReasonOfComparisons r.state.values i.objects a.condition.comparisons reason)

-- or it does without a reason
abbrev pub TellsBefore : LiftedTask → Reached → ℕ → Instance → Schema → PlanFault → Type 0
TellsBefore t r n i a fault = (asked_before t r n i a ≡ Some fault) × (is_explained fault ≡ false)

-- this is why a step of an instance is refused: why a question before it reports a fault; or, where
-- none does, why its effects depart
abbrev pub IsReasonOfStep : LiftedTask → Reached → Instance → Reason → Type 0
IsReasonOfStep t r i reason =
    IsInstance t i × (a : Schema) × (slice_get t.schemas i.schema ≡ Some a)
    × (IsReasonBefore t r i a reason ⊎ (IsBefore t r i a × IsReasonOfEffects t r a i.objects reason))

-- or it is refused without a reason
abbrev pub TellsUnexplained : LiftedTask → Reached → ℕ → Instance → PlanFault → Type 0
TellsUnexplained t r n i fault = TellsStep t r n i fault × (is_explained fault ≡ false)

-- ---- the goal

-- this is why the goal is not met: the first literal or equality that does not hold; or, where
-- these hold and all that the goal meets has first values, why its comparisons do not hold, or
-- depart
abbrev pub IsReasonOfGoal : LiftedTask → Reached → Reason → Type 0
IsReasonOfGoal t r reason =
    IsReasonOfLiterals r.state [] t.goal reason
    ⊎ ((literals_hold r.state [] t.goal ≡ true) × (first_undefined t (met_by_goal t) ≡ None)
    × IsReasonOfComparisons r.state.values [] t.goal.comparisons reason)

-- or it is not met without a reason, whatever the number of steps
abbrev pub GoalUnexplained : LiftedTask → Reached → PlanFault → Type 0
GoalUnexplained t r fault = ((n : ℕ) → asked_of_goal t r n ≡ Some fault) × (is_explained fault ≡ false)
