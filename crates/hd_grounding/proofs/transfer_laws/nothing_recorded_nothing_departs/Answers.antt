use Rattle.hd_grounding.proofs.Recorded.{nothing_departs_there}
use Rattle.hd_grounding.proofs.transfer_laws.nothing_recorded_nothing_departs.Goals as goal

pub returns : goal.returns
returns c = λ t u expanded p m r made. nothing_departs_there t u made expanded p m r
