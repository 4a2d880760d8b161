use Rattle.std.proofs.Common.{◌≡◌, length}
use Rattle.hd_metric.specs.Metric.{read_by_condition}
use Rattle.hd_metric.proofs.metric.read_by_condition.Given as goal

abbrev pub invariant-loop-rest : goal.invariant-loop-rest
invariant-loop-rest l = read_by_condition l.function l.rest ≡ read_by_condition l.function l.condition

abbrev pub decreases-loop-rest : goal.decreases-loop-rest
decreases-loop-rest l = length l.rest
