use Rattle.std.proofs.Common.{◌≡◌, ◌≤◌, ◌++◌, drop}
use Rattle.hd_turns.specs.Calls.{ranks}
use Rattle.hd_worker.proofs.batching.ranks_of.Given as goal

-- the numbers so far, and those that are left
abbrev pub invariant-loop-outcome : goal.invariant-loop-outcome
invariant-loop-outcome l = record {
  few : l.before ≤ l.outcome-index;
  numbers : l.ranks.items ++ ranks l.before (drop l.outcome-index l.outcomes) ≡ ranks 0 l.outcomes;
}
