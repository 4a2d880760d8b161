use Rattle.std.proofs.Common.{◌≡◌}
use Rattle.hd_certify.proofs.covering.estimate_open.Given as goal

-- nothing is changed so far
abbrev pub invariant-loop-met : goal.invariant-loop-met
invariant-loop-met l = record {
  same : l.closed ≡ l.fn.closed;
}
