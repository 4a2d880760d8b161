-- What is reported of the steps of the plan in a third text, and why nothing is. (Our own.)
use Rattle.std.specs.Prelude.{ℕ, List}
use Rattle.hd_explain.specs.Traces.{IsTrace}
use Rattle.hd_lifted.specs.declared.task.LiftedTask.{LiftedTask}
use Rattle.hd_plan.specs.declared.step.Step.{Step}
use Rattle.hd_plan.specs.declared.text_error.PlanTextError.{PlanTextError}
use Rattle.hd_plan.specs.Text.{ReadsAs, IsPlanTextFault}
use Rattle.hd_texts.specs.declared.fault.TaskFault.{TaskFault}
use Rattle.hd_texts.specs.Tasks.{IsLiftedOf, ExplainsTexts}
use Rattle.hplan.specs.declared.fault.Fault.{Fault}
use Rattle.hplan.specs.declared.fault.Fault.TheVariants.{NoMemory}
use Rattle.hplan.specs.Fault.{task_in, plan_read_in}

-- a text is the trace of the steps that a plan's text says, in a lifted task
pub record IsTraceIn (l : LiftedTask) (plan : List ℕ) (text : List ℕ) : Type 0 where
  pub steps : List Step
  pub reads : ReadsAs plan steps
  pub is : IsTrace l steps text

-- a text is the trace of the plan of three texts: two of them say a lifted task, and the third such
-- steps
pub record IsTraceOf (domain problem plan : List ℕ) (text : List ℕ) : Type 0 where
  pub lifted : LiftedTask
  pub is_lifted : IsLiftedOf domain problem lifted
  pub is : IsTraceIn lifted plan text

-- why the steps of a plan's text are not traced: its first bad line; lack of memory reports nothing
pub data ExplainsNoTrace (plan : List ℕ) : Fault → Type 0 where
  Memory : ExplainsNoTrace plan NoMemory
  Unread : (error : PlanTextError) → IsPlanTextFault plan error → ExplainsNoTrace plan (plan_read_in error)

-- why the plan of three texts has no trace: what is reported of the first two, or of the third. A
-- plan that is not valid has one
pub data HasNoTrace (domain problem plan : List ℕ) : Fault → Type 0 where
  InTexts : (f : TaskFault) → ExplainsTexts domain problem f → HasNoTrace domain problem plan (task_in f)
  InPlan : (f : Fault) → ExplainsNoTrace plan f → HasNoTrace domain problem plan f
