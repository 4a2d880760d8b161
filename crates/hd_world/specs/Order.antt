-- The tickets and the groups of a running search, and what stands in its journal. (Our own.)
use Rattle.std.specs.Prelude.{◌≡◌, ℕ, ◌+◌, ◌≤◌, Bool, true, false, List, length, take, Option, Some, None}
use Rattle.std.specs.List.{AllByRecursion}
use Rattle.hd_task.specs.declared.plan.Kid.{Kid}
use Rattle.hd_image.specs.Image.{IsGroup, most_of}
use Rattle.hd_journal.specs.Group.{GroupView}
use Rattle.hd_book.specs.declared.queue.TheConstants.{MAX_GROUP}
use Rattle.hd_book.specs.declared.outgoing.Outgoing.{Outgoing}
use Rattle.hd_book.specs.Slots.{ticket_at}
use Rattle.hd_book.specs.Batches.{TicketView, is_ticket_out}
use Rattle.hd_book.specs.Queue as queues
use Rattle.hd_book.specs.Queue.{QueueView, group_end, IsQueue}
use Rattle.hd_entries.specs.Releasing.{ParcelsView}
use Rattle.hd_book.specs.View.{BookView}
use Rattle.hd_book.specs.Groups.{group_of}
use Rattle.hd_world.specs.Seats.{Seat, Run}
use Rattle.hd_world.specs.Once.{total, times_held, times_out}
use Rattle.hd_world.specs.Stops.{File, journal_entries}

-- ---- tickets

-- each ticket of a worker is out
abbrev pub AreOut : BookView → Seat → Type 0
AreOut b s = AllByRecursion (λ (k : TicketView). is_ticket_out b.batches k ≡ true) s.tickets

-- each ticket that a worker holds is out, and each one that is out is held exactly once
pub record AreTicketsOut (r : Run) : Type 0 where
  pub out : AllByRecursion (AreOut r.book) r.seats
  pub held : (n : ℕ) → times_held n r.seats ≡ times_out n r.book.batches.tickets

-- how many successors a ticket releases that is out
abbrev pub released_count : Option (Outgoing ParcelsView) → ℕ
released_count None = 0
released_count (Some o) = length o.released.kids

-- how many successors some tickets release
abbrev pub coming : BookView → List TicketView → ℕ
coming b held = total (λ (k : TicketView). released_count (ticket_at b.batches.tickets k.number)) held

-- a worker has room for all successors that its tickets release
abbrev pub HasRoomForTickets : BookView → Seat → Type 0
HasRoomForTickets b s = coming b s.tickets ≤ s.worker.room

-- each worker does
abbrev pub HaveRoom : Run → Type 0
HaveRoom r = AllByRecursion (HasRoomForTickets r.book) r.seats

-- ---- groups

-- the group of the entries that are out
abbrev pub group_in : List Kid → QueueView → GroupView
group_in entries q = group_of entries (record { start = q.acknowledged; end = group_end q })

-- what stands in a journal: the acknowledged ones of a book's entries; and after them those of
-- the group that is out, once it is appended
pub data StandsInJournal (f : File) (entries : List Kid) (q : QueueView) (group flushed : Option GroupView) : Type 0 where
  NoneIsOut :
      q.out ≡ 0 → group ≡ None → flushed ≡ None → journal_entries f ≡ take q.acknowledged entries → StandsInJournal f entries q group flushed
  IsPulled :
      1 ≤ q.out → group_end q ≤ q.acknowledged + MAX_GROUP → group ≡ Some (group_in entries q) → flushed ≡ None
      → journal_entries f ≡ take q.acknowledged entries → StandsInJournal f entries q group flushed
  IsAppended :
      1 ≤ q.out → group ≡ None → flushed ≡ Some (group_in entries q) → journal_entries f ≡ take (group_end q) entries
      → StandsInJournal f entries q group flushed

-- A book of these entries, of which there may be so many, with these batches, is in order with a
-- journal: it accepts batches, which have its entries; there may be as many as the journal may
-- have; and what stands in the journal are groups of it.
pub record AgreesWithJournal (f : File) (entries : List Kid) (most : ℕ) (q : QueueView) (halted : Bool) (group flushed : Option GroupView) : Type 0 where
  pub running : halted ≡ false
  pub queue : IsQueue q
  pub counted : queues.entries_in_all q ≡ length entries
  pub most_is : most ≡ most_of f.version
  pub few : length entries ≤ most
  pub sound : AllByRecursion (IsGroup f.version) f.groups
  pub stands : StandsInJournal f entries q group flushed

-- a run is in order with its journal
abbrev pub InOrder : File → Run → Type 0
InOrder f r = AgreesWithJournal f r.book.state.entries r.book.most r.book.batches.queue r.book.batches.halted r.group r.flushed
