-- What an error reports of a plan. (Our own.)
use Rattle.std.specs.Prelude.{◌≡◌, ℕ, List, string_bytes}
use Rattle.hd_plan.specs.declared.step.Step.{Step}
use Rattle.hd_lifted.specs.declared.schema.Ground.{Ground}
use Rattle.hd_lifted.specs.declared.instance.Instance.{Instance}
use Rattle.hd_lifted.specs.declared.task.LiftedTask.{LiftedTask}
use Rattle.hd_judge.specs.declared.fault.PlanFault.TheVariants as faults
use Rattle.hd_plan.specs.declared.error.PlanError.{PlanError}
use Rattle.hd_plan.specs.declared.error.PlanError.TheVariants.{NoSuchAction, NotApplicable, Undefined, NegativeCost, Departs, GoalUnmet, NoMemory}
use Rattle.hd_plan.specs.Texts.{fluent_text, instance_text}
use Rattle.hd_plan.specs.Plans.{IsFirstFaultBy}

-- the first fault is that a fluent has no first value, and the text is this fluent's
pub record NamesFirstUndefined (t : LiftedTask) (steps : List Step) (text : List ℕ) : Type 0 where
  pub fluent : Ground
  pub first : IsFirstFaultBy t steps (faults.Undefined fluent)
  pub is : text ≡ fluent_text t fluent

-- the first fault is that an instance is of a negative cost, and the text is this instance's
pub record NamesFirstNegative (t : LiftedTask) (steps : List Step) (text : List ℕ) : Type 0 where
  pub instance : Instance
  pub first : IsFirstFaultBy t steps (faults.NegativeCost instance)
  pub is : text ≡ instance_text t instance

-- an error reports the first fault; lack of memory reports nothing
abbrev pub Tells : LiftedTask → List Step → PlanError → Type 0
Tells t steps (NoSuchAction n) = IsFirstFaultBy t steps (faults.NoSuchAction n)
Tells t steps (NotApplicable n) = IsFirstFaultBy t steps (faults.NotApplicable n)
Tells t steps (Undefined fluent) = NamesFirstUndefined t steps (string_bytes fluent)
Tells t steps (NegativeCost action) = NamesFirstNegative t steps (string_bytes action)
Tells t steps (Departs n) = IsFirstFaultBy t steps (faults.Departs n)
Tells t steps GoalUnmet = IsFirstFaultBy t steps faults.GoalUnmet
Tells t steps NoMemory = Unit {0}
