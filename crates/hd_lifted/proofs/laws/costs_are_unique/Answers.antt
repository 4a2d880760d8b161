use Rattle.hd_lifted.proofs.Costs.{one_cost, one_best}
use Rattle.hd_lifted.proofs.laws.costs_are_unique.Goals as goal

pub returns : goal.returns
returns c = record { one_cost = one_cost; optimal = one_best }
