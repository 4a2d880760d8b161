use Rattle.std.proofs.Common.{◌≡◌, [], map}
use Rattle.std.specs.List.{range_with_len}
use Rattle.hd_recovery.specs.Recovered.{with_own}
use Rattle.hd_recovery.proofs.handing.idle_workers.Given as goal

-- the workers so far
abbrev pub invariant-loop-id : goal.invariant-loop-id
invariant-loop-id l = record {
  workers : l.workers.items ≡ map (with_own l.task l.count [] []) (range_with_len 0 l.id);
}
