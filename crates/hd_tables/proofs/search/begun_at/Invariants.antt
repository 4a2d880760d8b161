use Rattle.std.proofs.Common.{ℕ, ◌-◌, ◌<◌, ◌≤◌, length, get_or}
use Rattle.hd_tables.proofs.search.begun_at.Given as goal

-- the successors of the entries before begin at the place or before it, those of the entries after
-- behind it
abbrev pub invariant-loop-from : goal.invariant-loop-from
invariant-loop-from l = record {
  order : l.from ≤ l.end;
  end : l.end ≤ length l.firsts.items;
  before : (m : ℕ) → m < l.from → get_or l.firsts.items m 0 ≤ l.place;
  behind : (m : ℕ) → l.end ≤ m → m < length l.firsts.items → l.place < get_or l.firsts.items m 0;
}

abbrev pub decreases-loop-from : goal.decreases-loop-from
decreases-loop-from l = l.end - l.from
