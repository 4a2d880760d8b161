-- What a ticket is redeemed for. (Our own.)
use Rattle.std.specs.Prelude.{Option, Some, None, Result, Ok, Err, if◌then◌else◌}
use Rattle.hd_book.specs.declared.not_out.NotOut.{NotOut}
use Rattle.hd_book.specs.declared.outgoing.Outgoing.{Outgoing}
use Rattle.hd_book.specs.declared.redeemed.Redeemed.{Redeemed}
use Rattle.hd_book.specs.declared.redeemed.Redeemed.TheVariants.{Released, NotYet, Void}
use Rattle.hd_book.specs.Queue.{are_acknowledged}
use Rattle.hd_book.specs.Slots.{ticket_at}
use Rattle.hd_book.specs.Batches.{TicketView, Batches, is_its}

-- a ticket that is out: what it releases, with a receipt, where its entries are acknowledged; else
-- nothing, if no more batches are accepted; else the ticket again
abbrev pub given_for : {R : Type 0} → Batches R → TicketView → R → Redeemed R
given_for b k released =
    if are_acknowledged b.queue k.first k.end then Released (record { first = k.first; end = k.end }) released
    else if b.halted then Void
    else NotYet k

-- what is given for a ticket with whose number this is out; it is not out if it has other
-- entries
abbrev pub answer_for : {R : Type 0} → Batches R → TicketView → Option (Outgoing R) → Result (Redeemed R) NotOut
answer_for b k None = Err (record {})
answer_for b k (Some o) = if is_its k (Some o) then Ok (given_for b k o.released) else Err (record {})

-- what a ticket is redeemed for, or that it is not out
abbrev pub redeemed_for : {R : Type 0} → Batches R → TicketView → Result (Redeemed R) NotOut
redeemed_for b k = answer_for b k (ticket_at b.tickets k.number)
