-- A book, as contracts see it. (Our own.)
use Rattle.std.specs.Prelude.{ℕ, length}
use Rattle.hd_entries.specs.Settling.{BookState}
use Rattle.hd_entries.specs.Holding.{EntriesView, posted_count, settled_count}
use Rattle.hd_entries.specs.Releasing.{ParcelsView}
use Rattle.hd_book.specs.Batches.{Batches}
use Rattle.hd_book.specs.declared.counts.Counts.{Counts}

-- a book: what it holds of the search, how many entries it may hold, and what is known of the
-- batches that it accepted
pub record BookView : Type 0 where
  pub state : BookState
  pub most : ℕ
  pub batches : Batches ParcelsView

-- the book of these entries and batches
abbrev pub book_of : EntriesView → Batches ParcelsView → BookView
book_of e batches = record { state = e.state; most = e.most; batches = batches }

-- the entries of a book, as their own contracts see them
abbrev pub entries_view : BookView → EntriesView
entries_view b = record { state = b.state; most = b.most }

-- how far the search of a book has come
abbrev pub counts_of : BookView → Counts
counts_of b = record {
  entries = length b.state.entries;
  posted = posted_count b.state;
  settled = settled_count b.state;
  acknowledged = b.batches.queue.acknowledged;
  commits = length b.batches.tickets;
}
