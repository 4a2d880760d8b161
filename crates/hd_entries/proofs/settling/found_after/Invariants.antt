use Rattle.std.proofs.Common.{◌≡◌, ◌+◌, ◌≤◌, drop}
use Rattle.hd_entries.specs.Growing.{best_by, departure_by}
use Rattle.hd_entries.proofs.settling.found_after.Given as goal

-- what is left to look at, from the number of the next entry on
abbrev pub invariant-loop-outcome : goal.invariant-loop-outcome
invariant-loop-outcome l = record {
  count : l.entry ≤ l.fn.first + l.outcome-index;
  best_later : best_by l.fn.best l.fn.first l.outcomes ≡ best_by l.best l.entry (drop l.outcome-index l.outcomes);
  departure_later : departure_by l.fn.departure l.fn.first l.outcomes ≡ departure_by l.departure l.entry (drop l.outcome-index l.outcomes);
}
