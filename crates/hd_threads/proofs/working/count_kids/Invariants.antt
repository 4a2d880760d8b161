use Rattle.std.proofs.Common.{◌≡◌, ◌+◌, drop}
use Rattle.hd_entries.specs.Growing.{successor_count}
use Rattle.hd_threads.proofs.working.count_kids.Given as goal

-- the parcels counted so far, and those that are left
abbrev pub invariant-loop-outcome : goal.invariant-loop-outcome
invariant-loop-outcome l = record {
  count : successor_count l.outcomes ≡ l.count + successor_count (drop l.outcome-index l.outcomes);
}
