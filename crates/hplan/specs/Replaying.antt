-- What is reported of the schedule in a third text, and why nothing is. (Our own.)
use Rattle.std.specs.Prelude.{◌≡◌, ℕ, List, [], Option, Some, None, Ok, pos}
use Rattle.std.specs.declared.io.ErrorKind.{ErrorKind}
use Rattle.hd_lifted.specs.declared.instance.Instance.{Instance}
use Rattle.hd_lifted.specs.declared.task.LiftedTask.{LiftedTask}
use Rattle.hd_lifted.specs.Plans as plans
use Rattle.hd_task.specs.declared.task.Task.{Task}
use Rattle.hd_world.specs.declared.schedule_error.ScheduleError.{ScheduleError}
use Rattle.hd_world.specs.declared.moves.Move.{Move}
use Rattle.hd_world.specs.Schedule.{schedule_of, IsScheduleFault}
use Rattle.hd_replay.specs.declared.fault.ReplayFault.{ReplayFault}
use Rattle.hd_replay.specs.declared.report.Report.{Report}
use Rattle.hd_replay.specs.declared.report.Says.{Says}
use Rattle.hd_replay.specs.declared.report.Says.TheVariants.{Optimal, NoPlan, RangeLeft}
use Rattle.hd_replay.specs.Playing.{IsReported}
use Rattle.hd_replay.specs.ReportText.{report_text}
use Rattle.hd_texts.specs.Digest.{digest_of}
use Rattle.hd_texts.specs.declared.fault.TaskFault.{TaskFault}
use Rattle.hd_texts.specs.Tasks.{IsTaskOf, ExplainsTask}
use Rattle.hplan.specs.declared.fault.Fault.{Fault}
use Rattle.hplan.specs.declared.fault.Fault.TheVariants.{NoMemory}
use Rattle.hplan.specs.Fault.{task_in, schedule_in, replay_in}
use Rattle.hplan.specs.Written.{IsUntouched, FailsToWrite}

-- ---- the report

-- a text says moves, and they end with this report of a task's search, whose journal is empty at
-- first
pub record IsPlayed (t : Task) (digest schedule : List ℕ) (report : Report) : Type 0 where
  pub moves : List Move
  pub says : schedule_of schedule ≡ Ok moves
  pub left : List ℕ
  pub reported : IsReported t digest [] moves left report

-- what is said is true of all plans of the domain: one is valid at this cost, and optimal; or
-- none is valid
abbrev pub IsTrueThere : LiftedTask → Option Says → Type 0
IsTrueThere l None = Unit {0}
IsTrueThere l (Some (Optimal cost)) = (p : List Instance) × plans.IsValidAt l p (pos cost) × plans.IsOptimal l p
IsTrueThere l (Some NoPlan) = plans.HasNoPlan l
IsTrueThere l (Some (RangeLeft entry)) = Unit {0}

-- three texts say a task and moves that end with this report; what it says is true of all plans
-- of the domain
pub record IsReportOfTexts (domain problem schedule : List ℕ) (report : Report) : Type 0 where
  pub task : Task
  pub is_task : IsTaskOf domain problem task
  pub played : IsPlayed task (digest_of domain problem) schedule report
  pub truth : IsTrueThere is_task.lifted report.verdict

-- a text is the four lines of that report
pub record IsReportText (domain problem schedule : List ℕ) (text : List ℕ) : Type 0 where
  pub report : Report
  pub is_report : IsReportOfTexts domain problem schedule report
  pub is : text ≡ report_text report

-- ---- why nothing is reported

-- why the schedule of a text is not played on a task: memory ran out; or the text's first bad
-- line; or it says moves, and this is reported where they are not played to their end
pub data ExplainsSchedule (schedule : List ℕ) : Fault → Type 0 where
  Memory : ExplainsSchedule schedule NoMemory
  Unread : (error : ScheduleError) → IsScheduleFault schedule error → ExplainsSchedule schedule (schedule_in error)
  Unplayed : (moves : List Move) (fault : ReplayFault) → schedule_of schedule ≡ Ok moves → ExplainsSchedule schedule (replay_in fault)

-- why nothing is reported, or not all: what is reported of the first two texts; or they say a task,
-- and what is reported of the third; or a beginning of the report is written, and what is reported
-- of the error that the writer has answered. The writer is untouched where it is not to blame
pub data HasNoReport (domain problem schedule : List ℕ) (old new : Option (List ℕ)) (before noted : Option ErrorKind) : Fault → Type 0 where
  InTexts : IsUntouched old new before noted → (f : TaskFault) → ExplainsTask domain problem f
      → HasNoReport domain problem schedule old new before noted (task_in f)
  InSchedule : IsUntouched old new before noted → (t : Task) (f : Fault) → IsTaskOf domain problem t → ExplainsSchedule schedule f
      → HasNoReport domain problem schedule old new before noted f
  InOutput : (f : Fault) → FailsToWrite (IsReportText domain problem schedule) old new noted f
      → HasNoReport domain problem schedule old new before noted f

-- the same, if nothing was to be written yet: whatever a writer holds, and is noted of it
abbrev pub HasNoReportYet : List ℕ → List ℕ → List ℕ → Fault → Type 0
HasNoReportYet domain problem schedule f =
    (bytes : Option (List ℕ)) (noted : Option ErrorKind) → HasNoReport domain problem schedule bytes bytes noted noted f
