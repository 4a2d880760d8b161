use Rattle.hd_grounding.proofs.Recorded.{instance_leaves, goal_leaves}
use Rattle.hd_grounding.proofs.transfer_laws.departures_are_of_the_domain.Goals as goal

pub returns : goal.returns
returns c = record { actions = λ t u p m k a made. instance_leaves t u made p m k a; goal = λ t u p m made. goal_leaves t u made p m }
