use Rattle.hd_grounding.proofs.Once.{once}
use Rattle.hd_grounding.proofs.Runs.{run_there, run_back}
use Rattle.hd_grounding.proofs.transfer_laws.runs_are_transferred.Goals as goal

pub returns : goal.returns
returns c = record { there = λ t u made. run_there t u made; back = λ t u made. run_back t u made; one = λ t u p q m n made. once t u made p q m n }
