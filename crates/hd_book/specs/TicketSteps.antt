-- What each step makes of what is known of the batches. (Our own.)
use Rattle.std.specs.Prelude.{ℕ, ◌+◌, Bool, true, false, ◌||◌, List, [], ◌∷◌, ◌++◌, length, Option, Some, None, slice_set, if◌then◌else◌}
use Rattle.hd_book.specs.declared.outgoing.Outgoing.{Outgoing}
use Rattle.hd_book.specs.Queue.{entries_in_all, are_acknowledged, queue_from, with_batch, with_group, without_group, with_none_out}
use Rattle.hd_book.specs.Batches.{TicketView, Batches}

-- no batch was accepted yet, and so many entries are acknowledged
abbrev pub resumed : {R : Type 0} → ℕ → Batches R
resumed n = record { queue = queue_from n; tickets = []; halted = false }

-- the ticket of a batch of so many entries
abbrev pub ticket_of : {R : Type 0} → ℕ → Batches R → TicketView
ticket_of count b =
    record { number = length b.tickets; first = entries_in_all b.queue; end = entries_in_all b.queue + count }

-- a batch is accepted: its entries wait to be appended, and its ticket is out
abbrev pub entered : {R : Type 0} → ℕ → R → Batches R → Batches R
entered {R = R} count released b =
    let out : Outgoing R = record { first = entries_in_all b.queue; end = entries_in_all b.queue + count; released = released } in
    record { queue = with_batch count b.queue; tickets = b.tickets ++ Some out ∷ []; halted = b.halted }

-- the next group goes out
abbrev pub taken : {R : Type 0} → Batches R → Batches R
taken b = record b { queue = with_group b.queue }

-- the group that was out is acknowledged
abbrev pub flushed : {R : Type 0} → Batches R → Batches R
flushed b = record b { queue = without_group b.queue }

-- the group that was out waits again, and no more batches are accepted
abbrev pub handed_back : {R : Type 0} → Batches R → Batches R
handed_back b = record { queue = with_none_out b.queue; tickets = b.tickets; halted = true }

-- a ticket is spent
abbrev pub without : {R : Type 0} → ℕ → Batches R → Batches R
without number b = record b { tickets = slice_set b.tickets number None }

-- a ticket is redeemed: it is spent where its entries are acknowledged, or no more batches are
-- accepted
abbrev pub redeemed : {R : Type 0} → TicketView → Batches R → Batches R
redeemed k b =
    if are_acknowledged b.queue k.first k.end || b.halted then without k.number b else b

-- no more batches are accepted
abbrev pub with_halt : {R : Type 0} → Batches R → Batches R
with_halt b = record b { halted = true }
