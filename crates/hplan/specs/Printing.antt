-- How the task of two texts is printed, and why it is not. (Our own.)
use Rattle.std.specs.Prelude.{◌≡◌, ℕ, List, Option}
use Rattle.std.specs.declared.io.ErrorKind.{ErrorKind}
use Rattle.hd_task.specs.declared.task.Task.{Task}
use Rattle.hd_texts.specs.declared.fault.TaskFault.{TaskFault}
use Rattle.hd_texts.specs.Tasks.{IsTaskOf, ExplainsTask}
use Rattle.hplan.specs.declared.fault.Fault.{Fault}
use Rattle.hplan.specs.Fault.{task_in}
use Rattle.hplan.specs.TaskText.{task_text}
use Rattle.hplan.specs.Written.{IsUntouched, FailsToWrite}

-- a text is that of the task that two texts say
pub record IsPrintOf (domain problem : List ℕ) (text : List ℕ) : Type 0 where
  pub task : Task
  pub is_task : IsTaskOf domain problem task
  pub is : text ≡ task_text task

-- why the task of two texts is not printed: what is reported of the texts; or they say a task, of
-- whose text a beginning is written, and what is reported of the error that the writer has
-- answered. The writer is untouched where it is not to blame
pub data IsNotPrinted (domain problem : List ℕ) (old new : Option (List ℕ)) (before noted : Option ErrorKind) : Fault → Type 0 where
  InTexts : IsUntouched old new before noted → (f : TaskFault) → ExplainsTask domain problem f
      → IsNotPrinted domain problem old new before noted (task_in f)
  InOutput : (f : Fault) → FailsToWrite (IsPrintOf domain problem) old new noted f → IsNotPrinted domain problem old new before noted f

-- the same, if nothing was to be written yet: whatever a writer holds, and is noted of it
abbrev pub IsNotPrintedYet : List ℕ → List ℕ → Fault → Type 0
IsNotPrintedYet domain problem f =
    (bytes : Option (List ℕ)) (noted : Option ErrorKind) → IsNotPrinted domain problem bytes bytes noted noted f
