-- The search after some entries: what a resumption leaves. (Our own.)
use Rattle.std.specs.Prelude.{ℕ, List, [], map, replicate, None}
use Rattle.std.specs.List.{range_with_len}
use Rattle.hd_task.specs.declared.task.Task.{Task}
use Rattle.hd_task.specs.declared.plan.Kid.{Kid}
use Rattle.hd_entries.specs.Resuming.{resumed_state}
use Rattle.hd_book.specs.Steps.{resumed_book}
use Rattle.hd_world.specs.Seats.{Seat, Run}
use Rattle.hd_world.specs.Moves.{book_bound}
use Rattle.hd_recovery.specs.Recovered.{recovered_worker}

-- the seat of a worker after these entries, of so many workers: the hand is empty, it has no
-- tickets, and it was told of no bound
abbrev pub seat_after : Task → List Kid → ℕ → ℕ → Seat
seat_after t entries workers id = record { worker = recovered_worker t entries id workers; hand = None; tickets = []; told = None }

-- the search after these entries, with so many workers, if there may be so many entries: all
-- entries are acknowledged, no other successor is settled, nothing is on its way, and the workers
-- share the bound of the entries
abbrev pub run_after : Task → ℕ → ℕ → List Kid → Run
run_after t most workers entries = record {
  book = resumed_book t most entries;
  seats = map (seat_after t entries workers) (range_with_len 0 workers);
  mailboxes = replicate workers [];
  bound = book_bound (resumed_state t entries);
  group = None;
  flushed = None;
}
