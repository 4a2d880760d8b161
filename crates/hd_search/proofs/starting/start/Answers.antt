use denote.Exit.{no}
use denote.Param.{param}
use denote.Param.Send.{arg_send, param_send}
use Rattle.hd_search.proofs.Crossing.Jobs.{captured_send}
use Rattle.hd_search.proofs.starting.start.Goals as goal

pub spawn_with-started-requires-send-F : goal.spawn_with-started-requires-send-F
spawn_with-started-requires-send-F g c κs within =
    param_send 2 _ (arg_send _ no _ (captured_send _ _ (param 0 g.row.L) (param 1 g.row.A) (param 2 g.row.G) (param 3 g.row.R) g.L.Ledger g.A.Ledger _ c.type_bounds.sync-G c.type_bounds.sync-R))
