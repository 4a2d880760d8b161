use Rattle.hd_check.proofs.CheckedTasks.{cost_metric}
use Rattle.hd_check.proofs.laws.checked_metric_is_a_cost.Goals as goal

pub returns : goal.returns
returns c = cost_metric
