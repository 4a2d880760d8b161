-- What faults tell of texts.
use Rattle.std.proofs.Common.{◌≡◌, ◌⊎◌, inl, inr, ℕ, List, Option, subst, sym}
use Rattle.std.specs.declared.io.ErrorKind.{ErrorKind}
use Rattle.hd_lifted.specs.declared.task.LiftedTask.{LiftedTask}
use Rattle.hd_plan.specs.declared.text_error.PlanTextError.{PlanTextError}
use Rattle.hd_plan.specs.declared.text_error.PlanTextError.TheVariants as plan_text
use Rattle.hd_plan.specs.Output.{AppendsShort}
use Rattle.hd_plan.specs.Text.{IsPlanTextFault}
use Rattle.hd_texts.specs.declared.fault.TaskFault.{TaskFault}
use Rattle.hd_texts.specs.declared.fault.TaskFault.TheVariants as texts
use Rattle.hd_texts.specs.Tasks.{ExplainsTask, ExplainsTexts, Memory, Unlifted}
use Rattle.hplan.specs.Fault.{task_in, plan_read_in, AnswersFault}
use Rattle.hplan.specs.declared.fault.Fault.{Fault}
use Rattle.hplan.specs.declared.fault.Fault.TheVariants.{NoMemory}
use Rattle.hplan.specs.Printing.{IsPrintOf, IsNotPrinted, IsNotPrintedYet, InTexts, InOutput}
use Rattle.hplan.specs.Traces as traces
use Rattle.hplan.specs.Traces.{ExplainsNoTrace}
use Rattle.hplan.specs.Verdict as verdict
use Rattle.hplan.specs.Verdict.{ExplainsPlan, IsVerdictOf, HasNoVerdict, HasNoVerdictYet}
use Rattle.hplan.proofs.Writing.{untouched, failed}

-- ---- a task that is not printed

pub memory_unprinted : (domain problem : List ℕ) → IsNotPrintedYet domain problem NoMemory
memory_unprinted domain problem bytes noted = InTexts (untouched bytes noted) texts.NoMemory (Unlifted texts.NoMemory Memory)

pub task_unprinted : (domain problem : List ℕ) (f : TaskFault) (fault : Fault) → fault ≡ task_in f → ExplainsTask domain problem f
    → IsNotPrintedYet domain problem fault
task_unprinted domain problem f fault is told bytes noted =
    subst (IsNotPrinted domain problem bytes bytes noted noted) (sym is) (InTexts (untouched bytes noted) f told)

-- a fault of the output
pub printing_fails : (domain problem text : List ℕ) (old new : Option (List ℕ)) (before noted : Option ErrorKind) (f : Fault)
    → IsPrintOf domain problem text → AppendsShort old new text → AnswersFault noted f → IsNotPrinted domain problem old new before noted f
printing_fails domain problem text old new before noted f s short told =
    InOutput f (failed (IsPrintOf domain problem) text old new noted f s short told)

-- ---- no verdict

-- of a plan's text
pub plan_unread : (l : LiftedTask) (plan : List ℕ) (error : PlanTextError)
    → (error ≡ plan_text.NoMemory) ⊎ IsPlanTextFault plan error → ExplainsPlan l plan (plan_read_in error)
plan_unread l plan plan_text.NoMemory told = verdict.Memory
plan_unread l plan (plan_text.BadLine n) (inl e) = let no = e in absurd (cc)
plan_unread l plan (plan_text.BadLine n) (inr bad) = verdict.Unread (plan_text.BadLine n) bad

-- the same, if its steps were to be traced
pub plan_untraced : (plan : List ℕ) (error : PlanTextError)
    → (error ≡ plan_text.NoMemory) ⊎ IsPlanTextFault plan error → ExplainsNoTrace plan (plan_read_in error)
plan_untraced plan plan_text.NoMemory told = traces.Memory
plan_untraced plan (plan_text.BadLine n) (inl e) = let no = e in absurd (cc)
plan_untraced plan (plan_text.BadLine n) (inr bad) = traces.Unread (plan_text.BadLine n) bad

pub memory_without_verdict : (domain problem plan : List ℕ) → HasNoVerdictYet domain problem plan NoMemory
memory_without_verdict domain problem plan bytes noted = verdict.InTexts (untouched bytes noted) texts.NoMemory Memory

pub texts_without_verdict : (domain problem plan : List ℕ) (f : TaskFault) (fault : Fault) → fault ≡ task_in f
    → ExplainsTexts domain problem f → HasNoVerdictYet domain problem plan fault
texts_without_verdict domain problem plan f fault is told bytes noted =
    subst (HasNoVerdict domain problem plan bytes bytes noted noted) (sym is) (verdict.InTexts (untouched bytes noted) f told)

-- a fault of the output
pub verdict_fails : (domain problem plan text : List ℕ) (old new : Option (List ℕ)) (before noted : Option ErrorKind) (f : Fault)
    → IsVerdictOf domain problem plan text → AppendsShort old new text → AnswersFault noted f
    → HasNoVerdict domain problem plan old new before noted f
verdict_fails domain problem plan text old new before noted f s short told =
    verdict.InOutput f (failed (IsVerdictOf domain problem plan) text old new noted f s short told)
