-- What is refused, and what is not.
use Rattle.std.proofs.Common.{◌≡◌, ℕ, List, refl}
use Rattle.hd_plan.specs.declared.step.Step.{Step}
use Rattle.hd_lifted.specs.declared.task.LiftedTask.{LiftedTask}
use Rattle.hd_lifted.specs.WellFormed.{HasDistinctNames}
use Rattle.hd_judge.specs.declared.fault.PlanFault.TheVariants as faults
use Rattle.hd_plan.specs.declared.error.PlanError.{PlanError}
use Rattle.hd_plan.specs.declared.error.PlanError.TheVariants.{NoSuchAction, NotApplicable, Undefined, NegativeCost, Departs, GoalUnmet, NoMemory}
use Rattle.hd_plan.specs.Plans.{IsValidatedBy}
use Rattle.hd_plan.specs.Telling.{Tells}
use Rattle.hd_plan.proofs.Judged.{validated-no_fault}

-- of a plan that is validated nothing is reported but lack of memory
pub only_memory : (t : LiftedTask) (steps : List Step) (cost : ℕ) (error : PlanError) → HasDistinctNames t → Tells t steps error → IsValidatedBy t steps cost
    → error ≡ NoMemory
only_memory t steps cost (NoSuchAction n) distinct told v = absurd (validated-no_fault t steps cost (faults.NoSuchAction n) distinct v told)
only_memory t steps cost (NotApplicable n) distinct told v = absurd (validated-no_fault t steps cost (faults.NotApplicable n) distinct v told)
only_memory t steps cost (Undefined text) distinct told v = absurd (validated-no_fault t steps cost (faults.Undefined told.fluent) distinct v told.first)
only_memory t steps cost (NegativeCost text) distinct told v = absurd (validated-no_fault t steps cost (faults.NegativeCost told.instance) distinct v told.first)
only_memory t steps cost (Departs n) distinct told v = absurd (validated-no_fault t steps cost (faults.Departs n) distinct v told)
only_memory t steps cost GoalUnmet distinct told v = absurd (validated-no_fault t steps cost faults.GoalUnmet distinct v told)
only_memory t steps cost NoMemory distinct told v = refl
