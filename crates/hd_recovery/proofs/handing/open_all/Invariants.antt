use Rattle.std.proofs.Common.{◌≡◌, ◌-◌, ◌≤◌, [], List}
use Rattle.hd_worker.specs.Lookup.{IsLookupOf}
use Rattle.hd_closed.specs.Closed.{Closed}
use Rattle.hd_recovery.specs.Recovered.{nodes_before, team}
use Rattle.hd_recovery.proofs.handing.open_all.Given as goal

-- the successors at the places so far are open
abbrev pub invariant-loop-from : goal.invariant-loop-from
invariant-loop-from g l = record {
  lookup : IsLookupOf l.book.state.task l.lookup;
  order : l.from ≤ l.posted;
  team : (closed : List Closed) → l.fn.workers.items ≡ team l.book.state.task l.count closed []
      → l.workers.items ≡ team l.book.state.task l.count closed (nodes_before l.book.state l.from);
}

abbrev pub decreases-loop-from : goal.decreases-loop-from
decreases-loop-from g l = l.posted - l.from
