use Rattle.hd_grounding.proofs.TransferActing.{valid_cost}
use Rattle.hd_grounding.proofs.Runs.{valid_there, valid_back}
use Rattle.hd_grounding.proofs.transfer_laws.plans_are_transferred.Goals as goal

pub returns : goal.returns
returns c = record { there = λ t u p c made. valid_there t u made p c; back = λ t u q made. valid_back t u made q; cost = λ t u q made. valid_cost t u made q }
