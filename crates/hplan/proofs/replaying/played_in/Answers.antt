use Rattle.hplan.specs.Replaying.{Unplayed}
use Rattle.hplan.proofs.Replays.{schedule_unread}
use Rattle.hplan.proofs.replaying.played_in.Goals as goal

pub returns-in-Err-clause-refusal : goal.returns-in-Err-clause-refusal
returns-in-Err-clause-refusal c = rw c.schedule_in.ensures (schedule_unread c.args.schedule.now c.in-Err.error c.in-Err.ensures.refusal)

pub returns-in-Err-report-clause-refusal : goal.returns-in-Err-report-clause-refusal
returns-in-Err-report-clause-refusal c = rw c.replay_in.ensures (Unplayed c.in-Ok.moves c.in-Err-report.fault c.in-Ok.ensures.answer)
