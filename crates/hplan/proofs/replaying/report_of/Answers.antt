use Rattle.hplan.proofs.Replays.{report_by, schedule_unreported, texts_unreported}
use Rattle.hplan.proofs.replaying.report_of.Goals as goal

pub returns-in-Ok-clause-found : goal.returns-in-Ok-clause-found
returns-in-Ok-clause-found c =
    report_by c.args.domain.now c.args.problem.now c.args.schedule.now c.in-Ok.task c.in-Ok.ensures.found _ c.played_in-report.result
    c.digest_of-digest.ensures c.played_in-report.ensures.played

pub returns-in-Ok-clause-refusal : goal.returns-in-Ok-clause-refusal
returns-in-Ok-clause-refusal c =
    schedule_unreported c.args.domain.now c.args.problem.now c.args.schedule.now c.in-Ok.task c.in-Ok.ensures.found c.played_in-report.result
    c.played_in-report.ensures.refusal

pub returns-in-Err-clause-refusal : goal.returns-in-Err-clause-refusal
returns-in-Err-clause-refusal c =
    texts_unreported c.args.domain.now c.args.problem.now c.args.schedule.now c.in-Err.fault _ c.from.ensures c.in-Err.ensures.refusal
