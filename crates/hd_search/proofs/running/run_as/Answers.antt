use Rattle.hd_search.proofs.Stopping.{survives_unchanged}
use Rattle.hd_search.proofs.running.run_as.Goals as goal

pub returns-in-Err-clause-survives : goal.returns-in-Err-clause-survives
returns-in-Err-clause-survives g c = survives_unchanged c.args.task.now c.args.journal.now
