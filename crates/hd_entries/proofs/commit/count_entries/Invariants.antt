use Rattle.std.proofs.Common.{◌≡◌, ◌+◌, ◌≤◌, drop, length}
use Rattle.std.specs.Prelude.{flat_map}
use Rattle.hd_entries.specs.Settling.{entry_of}
use Rattle.hd_entries.proofs.commit.count_entries.Given as goal

-- the entries counted so far, and those that are left
abbrev pub invariant-loop-outcome : goal.invariant-loop-outcome
invariant-loop-outcome l = record {
  few : l.count ≤ l.outcome-index;
  count : length (flat_map entry_of l.outcomes) ≡ l.count + length (flat_map entry_of (drop l.outcome-index l.outcomes));
}
