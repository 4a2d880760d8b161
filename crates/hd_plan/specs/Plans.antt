-- When a plan of steps is validated, and otherwise which fault is the first. (The order of the
-- questions is our own.)
use Rattle.std.specs.Prelude.{◌≡◌, ℕ, ◌+◌, ◌⊎◌, List, [], ◌∷◌, Some, None}
use Rattle.std.specs.List.{AllZip}
use Rattle.hd_plan.specs.declared.step.Step.{Step}
use Rattle.hd_lifted.specs.declared.instance.Instance.{Instance}
use Rattle.hd_lifted.specs.declared.task.LiftedTask.{LiftedTask}
use Rattle.hd_lifted.specs.Steps.{Reached, start}
use Rattle.hd_judge.specs.declared.fault.PlanFault.{PlanFault}
use Rattle.hd_judge.specs.declared.fault.PlanFault.TheVariants.{NoSuchAction}
use Rattle.hd_judge.specs.Asking.{asked_of_step, asked_of_goal}
use Rattle.hd_judge.specs.Validity.{IsValidated, Passes}
use Rattle.hd_plan.specs.Naming.{IsStep}

-- a plan of steps is validated at a cost if its steps, in order, are those of a list of instances
-- that is
pub record IsValidatedBy (t : LiftedTask) (steps : List Step) (cost : ℕ) : Type 0 where
  pub plan : List Instance
  pub are_steps : AllZip (IsStep t) steps plan
  pub validated : IsValidated t plan cost

-- ---- the first fault

-- the n-th step is one of an instance, no question about it reports a fault, and it leads here
pub record PassesBy (t : LiftedTask) (r : Reached) (n : ℕ) (s : Step) (to : Reached) : Type 0 where
  pub instance : Instance
  pub is_step : IsStep t s instance
  pub passes : Passes t r n instance to

-- the n-th step is one of no instance, or else it is the fault that the first failing question
-- about it reports
pub data TellsStepBy (t : LiftedTask) (r : Reached) (n : ℕ) (s : Step) (fault : PlanFault) : Type 0 where
  names_none : ((i : Instance) → IsStep t s i → ⊥) → fault ≡ NoSuchAction n → TellsStepBy t r n s fault
  fails_named : (i : Instance) → IsStep t s i → asked_of_step t r n i ≡ Some fault → TellsStepBy t r n s fault

-- of a list of steps, the first of which is the n-th, and then of the goal, the first failing
-- question reports this fault
abbrev pub TellsFromBy : LiftedTask → Reached → ℕ → List Step → PlanFault → Type 0
TellsFromBy t r n [] fault = asked_of_goal t r n ≡ Some fault
TellsFromBy t r n (s ∷ steps) fault = TellsStepBy t r n s fault ⊎ ((to : Reached) × PassesBy t r n s to × TellsFromBy t to (n + 1) steps fault)

-- no question about them reports a fault, and they lead here
abbrev pub ClearsFromBy : LiftedTask → Reached → ℕ → List Step → Reached → Type 0
ClearsFromBy t r n [] end = (r ≡ end) × (asked_of_goal t r n ≡ None)
ClearsFromBy t r n (s ∷ steps) end = (to : Reached) × PassesBy t r n s to × ClearsFromBy t to (n + 1) steps end

-- the first fault of a plan of steps
abbrev pub IsFirstFaultBy : LiftedTask → List Step → PlanFault → Type 0
IsFirstFaultBy t steps fault = TellsFromBy t (start t) 1 steps fault
