-- Why a plan of steps is not valid: the reason of its first fault. (Our own.)
use Rattle.std.specs.Prelude.{◌≡◌, ℕ, false, ◌+◌, ◌⊎◌, List, [], ◌∷◌, Option, Some, None}
use Rattle.hd_plan.specs.declared.step.Step.{Step}
use Rattle.hd_lifted.specs.declared.task.LiftedTask.{LiftedTask}
use Rattle.hd_lifted.specs.declared.instance.Instance.{Instance}
use Rattle.hd_lifted.specs.Steps.{Reached, start}
use Rattle.hd_judge.specs.declared.fault.PlanFault.{PlanFault}
use Rattle.hd_judge.specs.declared.fault.PlanFault.TheVariants.{NotApplicable, Departs, GoalUnmet}
use Rattle.hd_judge.specs.declared.reason.Reason.{Reason}
use Rattle.hd_judge.specs.Refusals.{fault_of, is_explained, IsReasonOfStep, IsReasonOfGoal}
use Rattle.hd_judge.specs.Way.{IsOnWay}
use Rattle.hd_plan.specs.Naming.{IsStep}
use Rattle.hd_plan.specs.Plans.{IsValidatedBy, PassesBy, TellsStepBy, TellsFromBy, ClearsFromBy, IsFirstFaultBy}
use Rattle.hd_explain.specs.declared.plan.PlanReason.{PlanReason}
use Rattle.hd_explain.specs.declared.plan.Halt.{Halt}
use Rattle.hd_explain.specs.declared.plan.Halt.TheVariants as halts
use Rattle.hd_explain.specs.Texts.{text_of}

-- the n-th step, which is one of this instance, has the fault for this reason, and is taken here
pub record IsReasonOfNamed (t : LiftedTask) (r : Reached) (n : ℕ) (s : Step) (fault : PlanFault) (here : Reached) (of : Option Instance) (reason : Reason) : Type 0 where
  pub instance : Instance
  pub is_step : IsStep t s instance
  pub is_here : r ≡ here
  pub is_of : of ≡ Some instance
  pub is_reason : IsReasonOfStep t r instance reason
  pub is_fault : fault ≡ fault_of (NotApplicable n) (Departs n) reason

-- of a list of steps, the first of which is the n-th, and then of the goal, the first that does not
-- pass has the fault for this reason: it is a step of this instance, or the goal, which is of none,
-- and those before it lead here
abbrev pub ExplainsFrom : LiftedTask → Reached → ℕ → List Step → PlanFault → Reached → Option Instance → Reason → Type 0
ExplainsFrom t r n [] fault here of reason =
    (r ≡ here) × (of ≡ None) × IsReasonOfGoal t r reason × (fault ≡ fault_of GoalUnmet (Departs n) reason)
ExplainsFrom t r n (s ∷ steps) fault here of reason =
    IsReasonOfNamed t r n s fault here of reason ⊎ ((to : Reached) × PassesBy t r n s to × ExplainsFrom t to (n + 1) steps fault here of reason)

-- this is why a plan of steps is not valid: it is the reason of the plan's first fault, a step's of
-- this instance or the goal's, where the steps before lead
pub record IsReasonOfPlan (t : LiftedTask) (steps : List Step) (here : Reached) (of : Option Instance) (reason : Reason) : Type 0 where
  pub fault : PlanFault
  pub is_first : IsFirstFaultBy t steps fault
  pub explains : ExplainsFrom t (start t) 1 steps fault here of reason

-- the objects that stand for the parameters of a step's action; for the goal there are none
abbrev pub objects_of : Option Instance → List ℕ
objects_of None = []
objects_of (Some i) = i.objects

-- a line is the text of the reason of a plan
pub record TellsReason (t : LiftedTask) (steps : List Step) (line : List ℕ) : Type 0 where
  pub here : Reached
  pub of : Option Instance
  pub reason : Reason
  pub is_reason : IsReasonOfPlan t steps here of reason
  pub is_line : line ≡ text_of t here (objects_of of) reason

-- a plan has no reason: it is validated, or its first fault says all that there is to say
abbrev pub NeedsNoReason : LiftedTask → List Step → Type 0
NeedsNoReason t steps =
    ((cost : ℕ) × IsValidatedBy t steps cost)
    ⊎ ((fault : PlanFault) × IsFirstFaultBy t steps fault × (is_explained fault ≡ false))

-- ---- what the code answers

-- no question about these steps and the goal reports a fault, or one that says all that there is to
-- say
abbrev pub NeedsNoReasonFrom : LiftedTask → Reached → ℕ → List Step → Type 0
NeedsNoReasonFrom t r n steps =
    ((end : Reached) × ClearsFromBy t r n steps end × IsOnWay t end)
    ⊎ ((fault : PlanFault) × TellsFromBy t r n steps fault × (is_explained fault ≡ false))

-- they have a reason
abbrev pub HasReasonFrom : LiftedTask → Reached → ℕ → List Step → Reached → PlanReason → Type 0
HasReasonFrom t r n steps here p = (fault : PlanFault) × ExplainsFrom t r n steps fault here p.instance p.reason

-- the way ends at the n-th step: it has a fault that says all that there is to say, or one with a
-- reason
abbrev pub HaltsAt : LiftedTask → Reached → ℕ → Step → Reached → Halt → Type 0
HaltsAt t r n s here halts.Untold = (fault : PlanFault) × TellsStepBy t r n s fault × (is_explained fault ≡ false)
HaltsAt t r n s here (halts.Told p) = (fault : PlanFault) × IsReasonOfNamed t r n s fault here p.instance p.reason

-- the same of steps and the goal
abbrev pub HaltsFrom : LiftedTask → Reached → ℕ → List Step → Reached → Halt → Type 0
HaltsFrom t r n steps here halts.Untold = NeedsNoReasonFrom t r n steps
HaltsFrom t r n steps here (halts.Told p) = HasReasonFrom t r n steps here p
