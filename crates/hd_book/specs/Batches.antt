-- What is known of the batches that were accepted, as contracts see it. (Our own.)
use Rattle.std.specs.Prelude.{ℕ, Bool, false, List, Option, Some, None, ◌==◌, ◌&&◌}
use Rattle.hd_book.specs.declared.outgoing.Outgoing.{Outgoing}
use Rattle.hd_book.specs.Queue.{QueueView}
use Rattle.hd_book.specs.Slots.{ticket_at}

-- a ticket: how many batches were accepted before its own, and the numbers of that one's entries,
-- from `first` on and below `end`
pub record TicketView : Type 0 where
  pub number : ℕ
  pub first : ℕ
  pub end : ℕ

-- the numbers of a receipt's entries
pub record ReceiptView : Type 0 where
  pub first : ℕ
  pub end : ℕ

-- how far the entries are acknowledged; the tickets of all batches, by number, none where one is
-- spent; and whether no more batches are accepted. R is what a ticket releases
pub record Batches (R : Type 0) : Type 0 where
  pub queue : QueueView
  pub tickets : List (Option (Outgoing R))
  pub halted : Bool

-- that, and whether there is memory for one more batch
pub record TicketsView (R : Type 0) : Type 0 where
  pub batches : Batches R
  pub room : Bool

-- what is out has a ticket's entries
abbrev pub is_its : {R : Type 0} → TicketView → Option (Outgoing R) → Bool
is_its k None = false
is_its k (Some o) = (o.first == k.first) && (o.end == k.end)

-- a ticket is out: the one with its number is, and has its entries
abbrev pub is_ticket_out : {R : Type 0} → Batches R → TicketView → Bool
is_ticket_out b k = is_its k (ticket_at b.tickets k.number)
