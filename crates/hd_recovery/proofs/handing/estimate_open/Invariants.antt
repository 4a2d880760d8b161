use Rattle.std.proofs.Common.{◌≡◌}
use Rattle.hd_worker.specs.Lookup.{IsLookupOf}
use Rattle.hd_recovery.proofs.handing.estimate_open.Given as goal

-- the workers are as they were
abbrev pub invariant-loop-id : goal.invariant-loop-id
invariant-loop-id l = record {
  lookup : IsLookupOf l.task l.lookup;
  same : l.workers.items ≡ l.fn.workers.items;
}
