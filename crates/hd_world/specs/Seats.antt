-- What a running search holds, as plain data. (Our own; the search is HDA*, Kishimoto, Fukunaga
-- and Botea 2013.)
use Rattle.std.specs.Prelude.{ℕ, List, Option}
use Rattle.hd_entries.specs.Holding.{Released}
use Rattle.hd_journal.specs.Group.{GroupView}
use Rattle.hd_book.specs.Batches.{TicketView}
use Rattle.hd_book.specs.View.{BookView}
use Rattle.hd_turns.specs.Worker.{WorkerView}

-- a worker's seat: the worker, the parcel in its hand, its tickets, the oldest first, and the
-- bound that the book had after the last batch of this worker that it accepted
pub record Seat : Type 0 where
  pub worker : WorkerView
  pub hand : Option Released
  pub tickets : List TicketView
  pub told : Option ℕ

-- a running search: its book; a seat for each worker, and a mailbox for each, in order; the bound
-- that the workers share; the group that was pulled out of the book and is not appended yet; and
-- the one that is appended and not acknowledged yet
pub record Run : Type 0 where
  pub book : BookView
  pub seats : List Seat
  pub mailboxes : List (List Released)
  pub bound : Option ℕ
  pub group : Option GroupView
  pub flushed : Option GroupView
