use Rattle.hd_check.proofs.NoCosts.{costs_nothing}
use Rattle.hd_check.proofs.laws.checks_without_a_metric_give_no_costs.Goals as goal

pub returns : goal.returns
returns c = costs_nothing
