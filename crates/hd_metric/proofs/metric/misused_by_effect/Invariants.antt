use Rattle.std.proofs.Common.{◌≡◌, length}
use Rattle.hd_metric.specs.Metric.{misused_by_effect}
use Rattle.hd_metric.proofs.metric.misused_by_effect.Given as goal

abbrev pub invariant-loop-rest : goal.invariant-loop-rest
invariant-loop-rest l = misused_by_effect l.function l.rest ≡ misused_by_effect l.function l.effect

abbrev pub decreases-loop-rest : goal.decreases-loop-rest
decreases-loop-rest l = length l.rest
