use Rattle.std.proofs.Common.{◌≡◌, length}
use Rattle.std.specs.List.{list_any}
use Rattle.hd_metric.specs.Metric.{is_value_of}
use Rattle.hd_metric.proofs.metric.has_value.Given as goal

abbrev pub invariant-loop-rest : goal.invariant-loop-rest
invariant-loop-rest l = list_any (is_value_of l.function) l.rest ≡ list_any (is_value_of l.function) l.init

abbrev pub decreases-loop-rest : goal.decreases-loop-rest
decreases-loop-rest l = length l.rest
