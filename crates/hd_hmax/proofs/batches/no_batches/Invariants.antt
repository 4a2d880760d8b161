use Rattle.std.proofs.Common.{◌≡◌, [], replicate}
use Rattle.hd_hmax.proofs.batches.no_batches.Given as goal

-- the batches so far
abbrev pub invariant-loop : goal.invariant-loop
invariant-loop l = l.batches.items ≡ replicate l.counter []
