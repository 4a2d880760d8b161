use Rattle.std.proofs.Common.{◌≡◌, [], flat_map}
use Rattle.std.specs.List.{range_with_len}
use Rattle.hd_recovery.specs.Recovered.{entry_closed, team}
use Rattle.hd_recovery.proofs.handing.close_all.Given as goal

-- the entries so far are closed
abbrev pub invariant-loop-number : goal.invariant-loop-number
invariant-loop-number g l = record {
  team : l.workers.items
      ≡ team l.book.state.task l.count (flat_map (entry_closed l.book.state) (range_with_len 0 l.number)) [];
}
