-- When a plan is validated, and otherwise which fault is the first.
use Rattle.std.specs.Prelude.{◌≡◌, ℕ, ◌+◌, true, false, ◌⊎◌, List, ◌∷◌, [], ◌++◌, Contains, Some, None, pos}
use Rattle.hd_lifted.specs.declared.schema.Ground.{Ground}
use Rattle.hd_lifted.specs.declared.task.LiftedTask.{LiftedTask}
use Rattle.hd_lifted.specs.declared.instance.Instance.{Instance}
use Rattle.hd_lifted.specs.Steps.{Reached, start}
use Rattle.hd_lifted.specs.Plans.{IsInstance, step_by, exec, IsValidAt}
use Rattle.hd_lifted.specs.Departures.{instance_departs, goal_departs}
use Rattle.hd_lifted.specs.Met.{met_by, met_by_goal}
use Rattle.hd_judge.specs.declared.fault.PlanFault.{PlanFault}
use Rattle.hd_judge.specs.declared.fault.PlanFault.TheVariants.{NoSuchAction}
use Rattle.hd_lifted.specs.Questions.{is_defined, costs_negative}
use Rattle.hd_judge.specs.Asking.{asked_of_step, asked_of_goal}

-- ---- a validated plan, without any order of questions

-- no step departs where it is taken
abbrev pub NoStepDeparts : LiftedTask → List Instance → Type 0
NoStepDeparts t p =
    (before after : List Instance) (i : Instance) (r : Reached)
    → p ≡ before ++ i ∷ after → exec t before ≡ Some r → instance_departs t r i ≡ false

-- the goal doesn't depart at the end
abbrev pub GoalStays : LiftedTask → List Instance → Type 0
GoalStays t p = (r : Reached) → exec t p ≡ Some r → goal_departs t r ≡ false

-- each fluent that the steps or the goal meet has a first value
abbrev pub StepsAreDefined : LiftedTask → List Instance → Type 0
StepsAreDefined t p =
    (i : Instance) (is : IsInstance t i) (g : Ground) → Contains p i → Contains (met_by i.objects is.schema) g → is_defined t g ≡ true

-- each fluent that the goal meets has a first value
abbrev pub GoalIsDefined : LiftedTask → Type 0
GoalIsDefined t = (g : Ground) → Contains (met_by_goal t) g → is_defined t g ≡ true

-- no step of constant amounts costs less than 0
abbrev pub NoStepIsNegative : LiftedTask → List Instance → Type 0
NoStepIsNegative t p = (i : Instance) (is : IsInstance t i) → Contains p i → costs_negative t is.schema i.objects ≡ false

-- a plan is validated at a cost if it is valid at this cost, nothing of it departs, and what it
-- meets is defined
pub record IsValidated (t : LiftedTask) (p : List Instance) (cost : ℕ) : Type 0 where
  pub valid : IsValidAt t p (pos cost)
  pub steps_stay : NoStepDeparts t p
  pub goal_stays : GoalStays t p
  pub steps_defined : StepsAreDefined t p
  pub goal_defined : GoalIsDefined t
  pub not_negative : NoStepIsNegative t p

-- ---- the first fault, by the order of the questions

-- the n-th step is one of an instance, no question about it reports a fault, and it leads here
pub record Passes (t : LiftedTask) (r : Reached) (n : ℕ) (i : Instance) (to : Reached) : Type 0 where
  pub instance : IsInstance t i
  pub unasked : asked_of_step t r n i ≡ None
  pub leads : step_by t r i ≡ Some to

-- the n-th step is one of no instance, or else it is the fault that the first failing question
-- about it reports
pub data TellsStep (t : LiftedTask) (r : Reached) (n : ℕ) (i : Instance) (fault : PlanFault) : Type 0 where
  no_instance : (IsInstance t i → ⊥) → fault ≡ NoSuchAction n → TellsStep t r n i fault
  fails : IsInstance t i → asked_of_step t r n i ≡ Some fault → TellsStep t r n i fault

-- of a list of steps, the first of which is the n-th, and then of the goal, the first failing
-- question reports this fault
abbrev pub TellsFrom : LiftedTask → Reached → ℕ → List Instance → PlanFault → Type 0
TellsFrom t r n [] fault = asked_of_goal t r n ≡ Some fault
TellsFrom t r n (i ∷ p) fault = TellsStep t r n i fault ⊎ ((to : Reached) × Passes t r n i to × TellsFrom t to (n + 1) p fault)

-- no question about them reports a fault, and they lead here
abbrev pub ClearsFrom : LiftedTask → Reached → ℕ → List Instance → Reached → Type 0
ClearsFrom t r n [] end = (r ≡ end) × (asked_of_goal t r n ≡ None)
ClearsFrom t r n (i ∷ p) end = (to : Reached) × Passes t r n i to × ClearsFrom t to (n + 1) p end

-- a plan's first fault
abbrev pub IsFirstFault : LiftedTask → List Instance → PlanFault → Type 0
IsFirstFault t p fault = TellsFrom t (start t) 1 p fault

-- a plan without a fault, and where it leads
abbrev pub IsFaultless : LiftedTask → List Instance → Reached → Type 0
IsFaultless t p end = ClearsFrom t (start t) 1 p end
