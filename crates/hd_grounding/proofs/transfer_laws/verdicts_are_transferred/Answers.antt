use Rattle.hd_grounding.proofs.Telling.{optimal_there, optimal_cost, none_there}
use Rattle.hd_grounding.proofs.transfer_laws.verdicts_are_transferred.Goals as goal

pub returns : goal.returns
returns c = record { optimal = λ t u p made. optimal_there t u made p; cost = λ t u p best there made. optimal_cost t u made p best there; no_plan = λ t u made. none_there t u made }
