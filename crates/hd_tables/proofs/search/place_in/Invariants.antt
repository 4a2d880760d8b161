use Rattle.std.proofs.Common.{ℕ, ◌-◌, ◌<◌, ◌≤◌, get_or}
use Rattle.hd_tables.proofs.search.place_in.Given as goal

-- what was passed over is less before and more after
abbrev pub invariant-loop-from : goal.invariant-loop-from
invariant-loop-from l = record {
  low : l.low ≤ l.from;
  high : l.end ≤ l.high;
  below : (i : ℕ) → l.low ≤ i → i < l.from → get_or l.actions.items i 0 < l.action;
  above : (i : ℕ) → l.end ≤ i → i < l.high → l.action < get_or l.actions.items i 0;
}

abbrev pub decreases-loop-from : goal.decreases-loop-from
decreases-loop-from l = l.end - l.from
