-- From a schedule that is played to what is reported of it.
use Rattle.std.proofs.Common.{◌≡◌, ◌⊎◌, inl, inr, ℕ, List, Option, Some, None, Ok, Err, subst, sym}
use Rattle.std.specs.Prelude.{Result, IfOk, IfErr}
use Rattle.std.specs.declared.io.ErrorKind.{ErrorKind}
use Rattle.hd_lifted.specs.declared.task.LiftedTask.{LiftedTask}
use Rattle.hd_grounding.specs.Grounding.{IsGrounding}
use Rattle.hd_grounding.specs.Instances.{instances_of}
use Rattle.hd_grounding.proofs.Runs.{valid_there}
use Rattle.hd_grounding.proofs.Telling.{optimal_there, none_there}
use Rattle.hd_task.specs.declared.task.Task.{Task}
use Rattle.hd_task.specs.Verdicts.{IsOptimal}
use Rattle.hd_plan.specs.Output.{AppendsShort}
use Rattle.hd_world.specs.declared.schedule_error.ScheduleError.{ScheduleError}
use Rattle.hd_world.specs.declared.schedule_error.ScheduleError.TheVariants as schedule
use Rattle.hd_world.specs.Schedule.{IsScheduleFault}
use Rattle.hd_replay.specs.declared.report.Report.{Report}
use Rattle.hd_replay.specs.declared.report.Says.{Says}
use Rattle.hd_replay.specs.declared.report.Says.TheVariants.{Optimal, NoPlan, RangeLeft}
use Rattle.hd_replay.specs.Reporting.{IsTrueIfSaid}
use Rattle.hd_texts.specs.Digest.{digest_of}
use Rattle.hd_texts.specs.declared.fault.TaskFault.{TaskFault}
use Rattle.hd_texts.specs.declared.fault.TaskFault.TheVariants as texts
use Rattle.hd_texts.specs.Tasks.{IsTaskOf, ExplainsTask, Memory, Unlifted}
use Rattle.hplan.specs.declared.fault.Fault.{Fault}
use Rattle.hplan.specs.declared.fault.Fault.TheVariants.{NoMemory}
use Rattle.hplan.specs.Fault.{task_in, schedule_in, AnswersFault}
use Rattle.hplan.specs.Replaying as replay
use Rattle.hplan.specs.Replaying.{IsPlayed, IsTrueThere, IsReportOfTexts, IsReportText, ExplainsSchedule, HasNoReport, HasNoReportYet}
use Rattle.hplan.proofs.Writing.{untouched, failed}

-- ---- the report

-- what is said of the grounding is so of the domain
said_there : (l : LiftedTask) (t : Task) (said : Option Says) → IsGrounding l t → IsTrueIfSaid t said → IsTrueThere l said
said_there l t None made truth = tt
said_there l t (Some (Optimal cost)) made truth =
    let p = truth.0.0 in
    let best : IsOptimal t p = record { cost = cost; valid = truth.0.1; least = truth.1 } in
    (instances_of t p, valid_there l t made p cost truth.0.1, optimal_there l t made p best)
said_there l t (Some NoPlan) made truth = none_there l t made truth
said_there l t (Some (RangeLeft entry)) made truth = tt

reported : (domain problem schedule : List ℕ) (t : Task) (task : IsTaskOf domain problem t) (report : Report)
    → IsPlayed t (digest_of domain problem) schedule report → IsReportOfTexts domain problem schedule report
reported domain problem schedule t task report s = record {
  task = t;
  is_task = task;
  played = s;
  truth = said_there task.lifted t report.verdict task.made s.reported.truth;
}

-- the same of what is answered
pub report_by : (domain problem schedule : List ℕ) (t : Task) (task : IsTaskOf domain problem t) (digest : List ℕ) (r : Result Report Fault)
    → digest ≡ digest_of domain problem → IfOk r (IsPlayed t digest schedule) → IfOk r (IsReportOfTexts domain problem schedule)
report_by domain problem schedule t task digest (Ok report) is s =
    reported domain problem schedule t task report (subst (λ (d : List ℕ). IsPlayed t d schedule report) is s)
report_by domain problem schedule t task digest (Err f) is s = tt

-- ---- none

pub schedule_unread : (text : List ℕ) (error : ScheduleError) → (error ≡ schedule.NoMemory) ⊎ IsScheduleFault text error
    → ExplainsSchedule text (schedule_in error)
schedule_unread text schedule.NoMemory told = replay.Memory
schedule_unread text (schedule.BadLine n) (inl e) = let no = e in absurd (cc)
schedule_unread text (schedule.BadLine n) (inr bad) = replay.Unread (schedule.BadLine n) bad

pub schedule_unreported : (domain problem text : List ℕ) (t : Task) → IsTaskOf domain problem t → (r : Result Report Fault)
    → IfErr r (ExplainsSchedule text) → IfErr r (HasNoReportYet domain problem text)
schedule_unreported domain problem text t task (Ok report) told = tt
schedule_unreported domain problem text t task (Err f) told = λ bytes noted. replay.InSchedule (untouched bytes noted) t f task told

pub memory_unreported : (domain problem text : List ℕ) → HasNoReportYet domain problem text NoMemory
memory_unreported domain problem text bytes noted = replay.InTexts (untouched bytes noted) texts.NoMemory (Unlifted texts.NoMemory Memory)

pub texts_unreported : (domain problem text : List ℕ) (f : TaskFault) (fault : Fault) → fault ≡ task_in f → ExplainsTask domain problem f
    → HasNoReportYet domain problem text fault
texts_unreported domain problem text f fault is told bytes noted =
    subst (HasNoReport domain problem text bytes bytes noted noted) (sym is) (replay.InTexts (untouched bytes noted) f told)

-- a fault of the output
pub report_fails : (domain problem text lines : List ℕ) (old new : Option (List ℕ)) (before noted : Option ErrorKind) (f : Fault)
    → IsReportText domain problem text lines → AppendsShort old new lines → AnswersFault noted f
    → HasNoReport domain problem text old new before noted f
report_fails domain problem text lines old new before noted f s short told =
    replay.InOutput f (failed (IsReportText domain problem text) lines old new noted f s short told)
