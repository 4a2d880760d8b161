use Rattle.hplan.proofs.Files.{optimal_validated, answer_validated}
use Rattle.hplan.proofs.laws.commands_print_valid_plans.Goals as goal

pub returns : goal.returns
returns c = record { optimal = optimal_validated; given = answer_validated }
