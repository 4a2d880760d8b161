-- Why there is no answer. (Our own.)
use Rattle.std.specs.Prelude.{◌≡◌, ◌≢◌, ◌⊎◌, ℕ, List, Option, Some, Result, MatchResult, codes}
use Rattle.std.specs.declared.io.ErrorKind.{ErrorKind}
use Rattle.std.specs.declared.io.ErrorKind.TheVariants.{OutOfMemory}
use Rattle.hd_store.specs.declared.error.StoreError.{StoreError}
use Rattle.hd_store.specs.declared.error.StoreError.TheVariants as store
use Rattle.hd_journal.specs.declared.error.JournalError.{JournalError}
use Rattle.hd_journal.specs.declared.error.JournalError.TheVariants as journaling
use Rattle.hd_journal.specs.Error as journal
use Rattle.hd_threads.specs.declared.fault.RunFault.{RunFault}
use Rattle.hd_threads.specs.declared.fault.RunFault.TheVariants as searching
use Rattle.hd_threads.specs.Faults as search
use Rattle.hd_search.specs.declared.fault.ThreadsFault.{ThreadsFault}
use Rattle.hd_search.specs.declared.fault.ThreadsFault.TheVariants.{Run}
use Rattle.hd_search.specs.declared.fault.ThreadsFault.TheVariants as threads
use Rattle.hd_replay.specs.declared.fault.ReplayFault.{ReplayFault}
use Rattle.hd_replay.specs.declared.fault.ReplayFault.TheVariants as replaying
use Rattle.hd_replay.specs.Faults as replay
use Rattle.hd_certify.specs.declared.error.RecoverError.{RecoverError}
use Rattle.hd_certify.specs.declared.error.RecoverError.TheVariants as certifying
use Rattle.hd_plan.specs.declared.text_error.PlanTextError.{PlanTextError}
use Rattle.hd_plan.specs.declared.text_error.PlanTextError.TheVariants as plan_text
use Rattle.hd_plan.specs.TextError as plan_reader
use Rattle.hd_world.specs.declared.schedule_error.ScheduleError.{ScheduleError}
use Rattle.hd_world.specs.declared.schedule_error.ScheduleError.TheVariants as schedule
use Rattle.hd_world.specs.ScheduleError as schedule_reader
use Rattle.hd_plan.specs.declared.output.WriteFault.{WriteFault}
use Rattle.hd_plan.specs.declared.output.WriteFault.TheVariants as unwritten
use Rattle.hd_plan.specs.declared.error.PlanError.{PlanError}
use Rattle.hd_plan.specs.declared.error.PlanError.TheVariants as judging
use Rattle.hd_texts.specs.declared.fault.TaskFault.{TaskFault}
use Rattle.hd_texts.specs.declared.fault.TaskFault.TheVariants as texts
use Rattle.hd_texts.specs.Fault as task
use Rattle.hd_plan.specs.Error as validator
use Rattle.hplan.specs.declared.fault.Fault.{Fault}
use Rattle.hplan.specs.declared.fault.Fault.TheVariants.{Task, PlanText, Schedule, Plan, Device, Journal, Search, Replay, NoThread, NoMemory}

-- the printed form: that of the crate whose fault it is
abbrev pub text_of : Fault → List ℕ
text_of (Task fault) = task.text_of fault
text_of (PlanText error) = plan_reader.text_of error
text_of (Schedule error) = schedule_reader.text_of error
text_of (Plan error) = validator.text_of error
text_of Device = codes "35 Device"
text_of (Journal error) = journal.text_of error
text_of (Search fault) = search.text_of fault
text_of (Replay fault) = replay.text_of fault
text_of NoThread = codes "NoThread"
text_of NoMemory = codes "NoMemory"

-- a fault of the domain's and the problem's texts; lack of memory is no fault of theirs
abbrev pub task_in : TaskFault → Fault
task_in (texts.Read source error) = Task (texts.Read source error)
task_in (texts.Check source fault) = Task (texts.Check source fault)
task_in (texts.Ground error) = Task (texts.Ground error)
task_in texts.NoMemory = NoMemory

-- a fault is one of the domain's and the problem's texts
abbrev pub IsTextFault : Fault → Type 0
IsTextFault (Task fault) = Unit {0}
IsTextFault (PlanText error) = ⊥
IsTextFault (Schedule error) = ⊥
IsTextFault (Plan error) = ⊥
IsTextFault Device = ⊥
IsTextFault (Journal error) = ⊥
IsTextFault (Search fault) = ⊥
IsTextFault (Replay fault) = ⊥
IsTextFault NoThread = ⊥
IsTextFault NoMemory = ⊥

-- an error of a plan's text
abbrev pub plan_read_in : PlanTextError → Fault
plan_read_in (plan_text.BadLine line) = PlanText (plan_text.BadLine line)
plan_read_in plan_text.NoMemory = NoMemory

-- an error of a schedule's text
abbrev pub schedule_in : ScheduleError → Fault
schedule_in (schedule.BadLine line) = Schedule (schedule.BadLine line)
schedule_in schedule.NoMemory = NoMemory

-- why a plan is not valid; lack of memory is no fault of it
abbrev pub judged_in : PlanError → Fault
judged_in (judging.NoSuchAction step) = Plan (judging.NoSuchAction step)
judged_in (judging.NotApplicable step) = Plan (judging.NotApplicable step)
judged_in (judging.Undefined fluent) = Plan (judging.Undefined fluent)
judged_in (judging.NegativeCost action) = Plan (judging.NegativeCost action)
judged_in (judging.Departs step) = Plan (judging.Departs step)
judged_in judging.GoalUnmet = Plan judging.GoalUnmet
judged_in judging.NoMemory = NoMemory

-- why a journal can't be begun, or gone on with; lack of memory is no fault of it
abbrev pub journal_in : JournalError → Fault
journal_in journaling.NotAJournal = Journal journaling.NotAJournal
journal_in journaling.OtherTask = Journal journaling.OtherTask
journal_in (journaling.Damaged at) = Journal (journaling.Damaged at)
journal_in journaling.Device = Journal journaling.Device
journal_in journaling.Failed = Journal journaling.Failed
journal_in journaling.JournalExists = Journal journaling.JournalExists
journal_in journaling.NotOut = Journal journaling.NotOut
journal_in journaling.NoMemory = NoMemory

-- why a search that has its threads has ended without an answer; lack of memory is no fault of it
abbrev pub run_in : RunFault → Fault
run_in searching.Full = Search searching.Full
run_in (searching.Damaged at) = Search (searching.Damaged at)
run_in searching.Device = Search searching.Device
run_in searching.Failed = Search searching.Failed
run_in searching.NotOut = Search searching.NotOut
run_in searching.NoMemory = NoMemory

-- the same, where a thread may not have started
abbrev pub search_in : ThreadsFault → Fault
search_in (Run fault) = run_in fault
search_in threads.NoThread = NoThread

-- why the entries of a journal show nothing; lack of memory is no fault of theirs
abbrev pub certify_in : RecoverError → Fault
certify_in certifying.Full = Search searching.Full
certify_in (certifying.Damaged at) = Search (searching.Damaged at)
certify_in certifying.NoMemory = NoMemory

-- why a schedule is not played to its end; lack of memory is no fault of it
abbrev pub replay_in : ReplayFault → Fault
replay_in (replaying.Recovery fault) = Replay (replaying.Recovery fault)
replay_in (replaying.Journal error) = Replay (replaying.Journal error)
replay_in replaying.Full = Replay replaying.Full
replay_in replaying.NoMemory = NoMemory

-- ---- files, readers and writers

-- why a file was not lent
abbrev pub store_in : StoreError → Fault
store_in store.NoMemory = NoMemory
store_in store.Failed = Device

-- what is reported of an error of this kind: lack of memory, or else that the device failed
abbrev pub TellsKind : ErrorKind → Fault → Type 0
TellsKind kind fault = ((kind ≡ OutOfMemory) × (fault ≡ NoMemory)) ⊎ ((kind ≢ OutOfMemory) × (fault ≡ Device))

-- what is reported where a plan's text was not written
abbrev pub TellsUnwritten : WriteFault → Fault → Type 0
TellsUnwritten unwritten.NoMemory fault = fault ≡ NoMemory
TellsUnwritten (unwritten.Device kind) fault = TellsKind kind fault

-- a writer has answered an error, which is noted of it, and this is reported of it
pub record AnswersFault (noted : Option ErrorKind) (fault : Fault) : Type 0 where
  pub kind : ErrorKind
  pub is_noted : noted ≡ Some kind
  pub told : TellsKind kind fault

-- a writer answers the error that is reported, and none where none is reported
abbrev pub AnswersAsNoted : {X : Type 0} → Option ErrorKind → Option ErrorKind → Result X Fault → Type 0
AnswersAsNoted old new result = MatchResult result (λ _. new ≡ old) (AnswersFault new)
