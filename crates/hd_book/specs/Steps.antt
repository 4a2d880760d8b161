-- What each call makes of a book. (Our own.)
use Rattle.std.specs.Prelude.{ℕ, List, length, flat_map}
use Rattle.hd_task.specs.declared.task.Task.{Task}
use Rattle.hd_task.specs.declared.plan.Kid.{Kid}
use Rattle.hd_node.specs.declared.batch.Outcome.{Outcome}
use Rattle.hd_entries.specs.Settling.{all_settled, entry_of}
use Rattle.hd_entries.specs.Holding.{EntriesView, no_entries, released_by}
use Rattle.hd_entries.specs.Resuming.{resumed}
use Rattle.hd_book.specs.Batches.{TicketView}
use Rattle.hd_book.specs.TicketSteps as tickets
use Rattle.hd_entries.specs.Releasing.{ParcelsView}
use Rattle.hd_book.specs.View.{BookView, book_of}

-- a book of entries that are all acknowledged, and of no batches yet
abbrev pub with_no_batches : EntriesView → BookView
with_no_batches e = book_of e (tickets.resumed (length e.state.entries))

-- the book of a search that has not begun, which may hold so many entries: the root is posted
abbrev pub new_book : Task → ℕ → BookView
new_book t most = with_no_batches (no_entries t most)

-- the book with exactly these entries: all are acknowledged, no other successor is settled, and no
-- batch was committed
abbrev pub resumed_book : Task → ℕ → List Kid → BookView
resumed_book t most entries = with_no_batches (resumed t most entries)

-- how many entries outcomes add
abbrev pub entries_added : List Outcome → ℕ
entries_added outcomes = length (flat_map entry_of outcomes)

-- what the ticket of a batch releases
abbrev pub released : BookView → List Outcome → ParcelsView
released b outcomes = record { task = b.state.task; kids = released_by (length b.state.entries) outcomes }

-- a batch is accepted: its successors are settled, its expansions are entries that wait to be
-- appended, and its ticket is out
abbrev pub after_commit : List Outcome → BookView → BookView
after_commit outcomes b = record {
  state = all_settled b.state outcomes;
  most = b.most;
  batches = tickets.entered (entries_added outcomes) (released b outcomes) b.batches;
}

-- the ticket of a batch
abbrev pub ticket_after : List Outcome → BookView → TicketView
ticket_after outcomes b = tickets.ticket_of (entries_added outcomes) b.batches

-- the next group goes out
abbrev pub after_take : BookView → BookView
after_take b = record b { batches = tickets.taken b.batches }

-- the group that was out is acknowledged
abbrev pub after_flush : BookView → BookView
after_flush b = record b { batches = tickets.flushed b.batches }

-- the group that was out waits again, and the book is halted
abbrev pub after_hand_back : BookView → BookView
after_hand_back b = record b { batches = tickets.handed_back b.batches }

-- a ticket is redeemed: it is spent where its entries are acknowledged, or the book is halted
abbrev pub after_redeem : TicketView → BookView → BookView
after_redeem k b = record b { batches = tickets.redeemed k b.batches }

-- no more batches are accepted
abbrev pub after_halt : BookView → BookView
after_halt b = record b { batches = tickets.with_halt b.batches }
