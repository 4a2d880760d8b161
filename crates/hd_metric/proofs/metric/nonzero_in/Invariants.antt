use Rattle.std.proofs.Common.{◌≡◌, length}
use Rattle.hd_metric.specs.Metric.{nonzero_in}
use Rattle.hd_metric.proofs.metric.nonzero_in.Given as goal

abbrev pub invariant-loop-rest : goal.invariant-loop-rest
invariant-loop-rest l = nonzero_in l.function l.rest ≡ nonzero_in l.function l.init

abbrev pub decreases-loop-rest : goal.decreases-loop-rest
decreases-loop-rest l = length l.rest
