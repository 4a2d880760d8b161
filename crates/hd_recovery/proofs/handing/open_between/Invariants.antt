use Rattle.std.proofs.Common.{◌≡◌, List}
use Rattle.hd_closed.specs.Closed.{Closed}
use Rattle.hd_recovery.specs.Recovered.{nodes_before, team}
use Rattle.hd_recovery.proofs.handing.open_between.Given as goal

-- the successors at the places so far are open
abbrev pub invariant-loop-place : goal.invariant-loop-place
invariant-loop-place g l = record {
  team : (closed : List Closed) → l.fn.workers.items ≡ team l.book.state.task l.count closed (nodes_before l.book.state l.fn.from)
      → l.workers.items ≡ team l.book.state.task l.count closed (nodes_before l.book.state l.place);
}
