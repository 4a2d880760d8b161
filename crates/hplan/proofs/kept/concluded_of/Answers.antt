use denote.Exit.{no}
use denote.Param.{param}
use denote.Param.Send.{arg_sync, param_sync}
use Rattle.hd_search.proofs.Stopping.{survives_unchanged}
use Rattle.hplan.proofs.Crossing.{watching_sync}
use Rattle.hplan.proofs.kept.concluded_of.Goals as goal

pub returns-in_default-clause-survives : goal.returns-in_default-clause-survives
returns-in_default-clause-survives g c = survives_unchanged c.args.task.now c.args.journal.now

pub run-ended-requires-sync-G : goal.run-ended-requires-sync-G
run-ended-requires-sync-G g c κs within =
    param_sync 1 _ (arg_sync _ no _ (watching_sync _ (param 1 g.row.R) (param 2 g.row.H) c.type_bounds.sync-R c.type_bounds.sync-H))
