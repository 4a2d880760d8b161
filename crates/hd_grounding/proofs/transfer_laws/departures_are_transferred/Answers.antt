use Rattle.hd_grounding.proofs.Departing.{actions_depart, goals_depart}
use Rattle.hd_grounding.proofs.transfer_laws.departures_are_transferred.Goals as goal

pub returns : goal.returns
returns c = record { actions = λ t u p m r k a made. actions_depart t u made p m r k a; goal = λ t u p m r made. goals_depart t u made p m r }
