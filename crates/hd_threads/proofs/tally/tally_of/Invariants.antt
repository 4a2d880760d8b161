use Rattle.std.proofs.Common.{◌≡◌, ◌+◌, drop, length}
use Rattle.hd_threads.specs.Tally.{tally_from, tally_of, settled_in}
use Rattle.hd_threads.proofs.tally.tally_of.Given as goal

-- the tally of those that were looked at, and each of them is counted
abbrev pub invariant-loop-outcome : goal.invariant-loop-outcome
invariant-loop-outcome l = record {
  tally : tally_of l.outcomes ≡ tally_from l.tally (drop l.outcome-index l.outcomes);
  settled : settled_in l.tally ≡ l.outcome-index;
}
