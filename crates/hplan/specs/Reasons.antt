-- What is reported of the plan in a third text beside its fault. (Our own.)
use Rattle.std.specs.Prelude.{◌≡◌, ℕ, Bool, true, false, List}
use Rattle.hd_explain.specs.Plans.{TellsReason, NeedsNoReason}
use Rattle.hd_lifted.specs.declared.task.LiftedTask.{LiftedTask}
use Rattle.hd_plan.specs.declared.text_error.PlanTextError.TheVariants.{BadLine}
use Rattle.hd_plan.specs.declared.step.Step.{Step}
use Rattle.hd_plan.specs.Text.{ReadsAs, IsPlanTextFault}
use Rattle.hd_texts.specs.declared.fault.TaskFault.{TaskFault}
use Rattle.hd_texts.specs.declared.fault.TaskFault.TheVariants.{Read, Check, Ground, NoMemory}
use Rattle.hd_texts.specs.Tasks.{IsLiftedOf, ExplainsTexts}

-- a line reports why the steps that a text says are not valid in a lifted task: the reason of their
-- first fault
pub record TellsReasonIn (l : LiftedTask) (plan : List ℕ) (line : List ℕ) : Type 0 where
  pub steps : List Step
  pub reads : ReadsAs plan steps
  pub tells : TellsReason l steps line

-- a line reports why the plan of three texts is not valid: two of them say a lifted task, and the
-- third such steps
pub record TellsReasonOf (domain problem plan : List ℕ) (line : List ℕ) : Type 0 where
  pub lifted : LiftedTask
  pub is_lifted : IsLiftedOf domain problem lifted
  pub tells : TellsReasonIn lifted plan line

-- a text needs no reason: it has a first bad line, or says steps that are validated, or whose
-- first fault says all that there is to say
pub data NeedsNoReasonIn (l : LiftedTask) (plan : List ℕ) : Type 0 where
  Unread : (line : ℕ) → IsPlanTextFault plan (BadLine line) → NeedsNoReasonIn l plan
  OfSteps : (steps : List Step) → ReadsAs plan steps → NeedsNoReason l steps → NeedsNoReasonIn l plan

-- a fault of texts stands in them: it is no lack of memory
abbrev pub is_in_texts : TaskFault → Bool
is_in_texts (Read source error) = true
is_in_texts (Check source fault) = true
is_in_texts (Ground error) = true
is_in_texts NoMemory = false

-- three texts need none: there is a fault in the first two; or they say a lifted task, and the
-- third needs none in it
pub data NeedsNoReasonOf (domain problem plan : List ℕ) : Type 0 where
  InTexts : (f : TaskFault) → ExplainsTexts domain problem f → is_in_texts f ≡ true → NeedsNoReasonOf domain problem plan
  InPlan : (l : LiftedTask) → IsLiftedOf domain problem l → NeedsNoReasonIn l plan → NeedsNoReasonOf domain problem plan
