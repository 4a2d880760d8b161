use Rattle.hplan.proofs.Files.{optimal_valid, answer_valid}
use Rattle.hplan.proofs.laws.written_plans_are_valid.Goals as goal

pub returns : goal.returns
returns c = record { optimal = optimal_valid; given = answer_valid }
