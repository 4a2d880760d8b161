-- What is reported of the plan in a third text, and why nothing is. (Our own.)
use Rattle.std.specs.Prelude.{◌≡◌, ℕ, List, Option, ◌++◌, codes, decimal}
use Rattle.std.specs.declared.io.ErrorKind.{ErrorKind}
use Rattle.hd_lifted.specs.declared.task.LiftedTask.{LiftedTask}
use Rattle.hd_plan.specs.declared.text_error.PlanTextError.{PlanTextError}
use Rattle.hd_plan.specs.declared.step.Step.{Step}
use Rattle.hd_plan.specs.PlanText.{line_end}
use Rattle.hd_plan.specs.Text.{ReadsAs, IsPlanTextFault}
use Rattle.hd_plan.specs.declared.error.PlanError.{PlanError}
use Rattle.hd_plan.specs.Plans.{IsValidatedBy}
use Rattle.hd_plan.specs.Telling.{Tells}
use Rattle.hd_texts.specs.declared.fault.TaskFault.{TaskFault}
use Rattle.hd_texts.specs.Tasks.{IsLiftedOf, ExplainsTexts}
use Rattle.hplan.specs.declared.fault.Fault.{Fault}
use Rattle.hplan.specs.declared.fault.Fault.TheVariants.{NoMemory}
use Rattle.hplan.specs.Fault.{task_in, plan_read_in, judged_in}
use Rattle.hplan.specs.Written.{IsUntouched, FailsToWrite}

-- how it is told that a plan is valid
abbrev pub valid_text : ℕ → List ℕ
valid_text cost = codes "valid; cost = " ++ decimal cost ++ line_end

-- a text says steps that are validated in a lifted task, at a cost
pub record IsValidIn (l : LiftedTask) (plan : List ℕ) (cost : ℕ) : Type 0 where
  pub steps : List Step
  pub reads : ReadsAs plan steps
  pub validated : IsValidatedBy l steps cost

-- what a fault reports of a text and a lifted task: lack of memory reports nothing
pub data ExplainsPlan (l : LiftedTask) (plan : List ℕ) : Fault → Type 0 where
  Memory : ExplainsPlan l plan NoMemory
  -- the text's first bad line
  Unread : (error : PlanTextError) → IsPlanTextFault plan error → ExplainsPlan l plan (plan_read_in error)
  -- the text says steps, and the validator reports so of them
  Invalid : (steps : List Step) (error : PlanError) → ReadsAs plan steps → Tells l steps error → ExplainsPlan l plan (judged_in error)

-- three texts say a plan that is valid at a cost: two of them a lifted task, and the third steps
-- that are validated in it
pub record AreValid (domain problem plan : List ℕ) (cost : ℕ) : Type 0 where
  pub lifted : LiftedTask
  pub is_lifted : IsLiftedOf domain problem lifted
  pub valid : IsValidIn lifted plan cost

-- a text is the verdict on the plan of three texts
pub record IsVerdictOf (domain problem plan : List ℕ) (text : List ℕ) : Type 0 where
  pub cost : ℕ
  pub valid : AreValid domain problem plan cost
  pub is : text ≡ valid_text cost

-- why no verdict is written: what is reported of the first two texts; or they say a lifted task,
-- and what is reported of the third in it; or the plan is valid, a beginning of the verdict is
-- written, and what is reported of the error that the writer has answered. The writer is untouched
-- where it is not to blame
pub data HasNoVerdict (domain problem plan : List ℕ) (old new : Option (List ℕ)) (before noted : Option ErrorKind) : Fault → Type 0 where
  InTexts : IsUntouched old new before noted → (f : TaskFault) → ExplainsTexts domain problem f
      → HasNoVerdict domain problem plan old new before noted (task_in f)
  InPlan : IsUntouched old new before noted → (l : LiftedTask) (f : Fault) → IsLiftedOf domain problem l → ExplainsPlan l plan f
      → HasNoVerdict domain problem plan old new before noted f
  InOutput : (f : Fault) → FailsToWrite (IsVerdictOf domain problem plan) old new noted f
      → HasNoVerdict domain problem plan old new before noted f

-- the same, if nothing was to be written yet: whatever a writer holds, and is noted of it
abbrev pub HasNoVerdictYet : List ℕ → List ℕ → List ℕ → Fault → Type 0
HasNoVerdictYet domain problem plan f =
    (bytes : Option (List ℕ)) (noted : Option ErrorKind) → HasNoVerdict domain problem plan bytes bytes noted noted f
