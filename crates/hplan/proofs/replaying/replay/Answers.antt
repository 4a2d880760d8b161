use Rattle.std.proofs.Common.{inr, subst}
use Rattle.hd_plan.specs.Output.{AppendsShort}
use Rattle.hplan.specs.Replaying.{IsReportText}
use Rattle.hplan.proofs.Replays.{report_fails}
use Rattle.hplan.proofs.Writing.{failed}
use Rattle.hplan.proofs.replaying.replay.Goals as goal

pub returns-in-Err-clause-front : goal.returns-in-Err-clause-front
returns-in-Err-clause-front g c =
    inr (failed (IsReportText c.args.domain.now c.args.problem.now c.args.schedule.now) _ _ _ _ _
    (record { report = c.in_ok-report.report; is_report = c.in_ok-report.ensures.found; is = c.in_ok-text.ensures })
    (subst (AppendsShort _ _) c.deref.ensures.value c.in-Err.ensures.short) c.in-Err.ensures.fault).front

pub returns-in-Err-clause-refusal : goal.returns-in-Err-clause-refusal
returns-in-Err-clause-refusal g c =
    report_fails c.args.domain.now c.args.problem.now c.args.schedule.now _ _ _ _ _ _
    (record { report = c.in_ok-report.report; is_report = c.in_ok-report.ensures.found; is = c.in_ok-text.ensures })
    (subst (AppendsShort _ _) c.deref.ensures.value c.in-Err.ensures.short) c.in-Err.ensures.fault
