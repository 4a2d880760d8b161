-- What a worker's moves make of its own seat, and of the book. (Our own; the search is HDA*,
-- Kishimoto, Fukunaga and Botea 2013.)
use Rattle.std.specs.Prelude.{nat_lt, if◌then◌else◌, List, [], ◌∷◌, ◌++◌, length, Option, Some, None, is_some, Result, Ok, Err}
use Rattle.hd_task.specs.declared.plan.TheConstants.{ROOT_PARENT}
use Rattle.hd_entries.specs.declared.refusal.Refusal.TheVariants.{UnknownParent, NotAKid, SettledBefore, StateDiffers, NotDominated, BelowBound, Full, NoMemory}
use Rattle.hd_entries.specs.Holding.{Released}
use Rattle.hd_book.specs.declared.not_out.NotOut.{NotOut}
use Rattle.hd_book.specs.declared.redeemed.Redeemed.{Redeemed}
use Rattle.hd_book.specs.declared.redeemed.Redeemed.TheVariants as given
use Rattle.hd_book.specs.Batches.{TicketView}
use Rattle.hd_book.specs.TicketRedeeming.{redeemed_for}
use Rattle.hd_book.specs.declared.refusal.CommitRefusal.{CommitRefusal}
use Rattle.hd_book.specs.declared.refusal.CommitRefusal.TheVariants.{Halted, Refused}
use Rattle.hd_entries.specs.Releasing.{ParcelsView}
use Rattle.hd_book.specs.View.{BookView}
use Rattle.hd_book.specs.Refusing.{commit_refusal_to}
use Rattle.hd_book.specs.Steps.{after_commit, ticket_after, after_redeem}
use Rattle.hd_turns.specs.Worker.{WorkerView}
use Rattle.hd_turns.specs.Calls.{with_parcel, batch_of, after_batch, after_numbering, after_releasing, after_return}
use Rattle.hd_desk.specs.declared.mail.TheConstants.{MAILBOX_PLACES}
use Rattle.hd_world.specs.Seats.{Seat}
use Rattle.hd_world.specs.Moves.{book_bound, may_commit, is_dropped}
use Rattle.hd_replay.specs.declared.fault.ReplayFault.{ReplayFault}
use Rattle.hd_replay.specs.declared.fault.ReplayFault.TheVariants as faults

-- a worker's seat where it holds nothing but its worker
abbrev pub seat_with : WorkerView → Seat
seat_with w = record { worker = w; hand = None; tickets = []; told = None }

-- ---- `pop` and `take`

-- the first parcel of a mailbox is in the hand, if that was empty
abbrev pub seat_popped : Seat → List Released → Seat
seat_popped s [] = s
seat_popped s (p ∷ rest) = if is_some s.hand then s else record s { hand = Some p }

-- what is in the mailbox then
abbrev pub box_popped : Seat → List Released → List Released
box_popped s [] = []
box_popped s (p ∷ rest) = if is_some s.hand then p ∷ rest else rest

-- the parcel in the hand is the worker's last open node
abbrev pub with_taken : Seat → Option Released → Seat
with_taken s None = s
with_taken s (Some p) = record s { worker = with_parcel p s.worker; hand = None }

-- ---- `push`

-- a parcel that left the outbox stays away where a mailbox has room, and else comes back
abbrev pub seat_posted : Seat → Released → List Released → Seat
seat_posted s p box = if nat_lt (length box) MAILBOX_PLACES then s else record s { worker = after_return p s.worker }

-- it is the last one of the mailbox then, or not there
abbrev pub box_posted : Released → List Released → List Released
box_posted p box = if nat_lt (length box) MAILBOX_PLACES then box ++ p ∷ [] else box

-- ---- `commit`

-- the fault that a refusal ends a run with; none where the batch is dropped
abbrev pub ends_with : CommitRefusal → Option ReplayFault
ends_with Halted = Some faults.Full
ends_with (Refused UnknownParent) = None
ends_with (Refused NotAKid) = None
ends_with (Refused SettledBefore) = None
ends_with (Refused StateDiffers) = None
ends_with (Refused NotDominated) = None
ends_with (Refused BelowBound) = None
ends_with (Refused Full) = Some faults.Full
ends_with (Refused NoMemory) = Some faults.NoMemory

-- the seat of a worker whose batch was accepted: it has the ticket, and was told the bound
abbrev pub seat_committed : BookView → Seat → Seat
seat_committed b s = record s {
  worker = after_numbering (length b.state.entries) (after_batch s.worker);
  tickets = s.tickets ++ ticket_after (batch_of s.worker) b ∷ [];
  told = book_bound (after_commit (batch_of s.worker) b).state;
}

-- the seat of a worker whose batch was dropped
abbrev pub seat_dropped : Seat → Seat
seat_dropped s = record s { worker = after_numbering ROOT_PARENT (after_batch s.worker) }

-- the book and the seat after a commit that is refused for this, or accepted; none where it ends
-- the run
abbrev pub committed_for : BookView → Seat → Option CommitRefusal → Option (BookView × Seat)
committed_for b s None = Some (after_commit (batch_of s.worker) b, seat_committed b s)
committed_for b s (Some why) = if is_dropped why then Some (b, seat_dropped s) else None

-- the book and the seat after a commit
abbrev pub committed_in : BookView → Seat → Option (BookView × Seat)
committed_in b s = if may_commit s then committed_for b s (commit_refusal_to b (batch_of s.worker)) else Some (b, s)

-- ---- `redeem`

-- a worker has what was released, if anything was
abbrev pub worker_redeemed : WorkerView → Redeemed ParcelsView → WorkerView
worker_redeemed w (given.Released receipt parcels) = after_releasing parcels.kids w
worker_redeemed w (given.NotYet again) = w
worker_redeemed w given.Void = w

-- what was released
abbrev pub kids_released : Redeemed ParcelsView → List Released
kids_released (given.Released receipt parcels) = parcels.kids
kids_released (given.NotYet again) = []
kids_released given.Void = []

-- the ticket that comes back
abbrev pub ticket_again : Redeemed ParcelsView → Option TicketView
ticket_again (given.Released receipt parcels) = None
ticket_again (given.NotYet again) = Some again
ticket_again given.Void = None

-- the seat where the oldest ticket was redeemed for this
abbrev pub seat_redeemed_for : Seat → TicketView → List TicketView → Result (Redeemed ParcelsView) NotOut → Seat
seat_redeemed_for s ticket rest (Ok (given.Released receipt parcels)) =
    record s { worker = after_releasing parcels.kids s.worker; tickets = rest }
seat_redeemed_for s ticket rest (Ok (given.NotYet again)) = record s { tickets = again ∷ rest }
seat_redeemed_for s ticket rest (Ok given.Void) = record s { tickets = rest }
seat_redeemed_for s ticket rest (Err error) = record s { tickets = rest }

-- the book then
abbrev pub book_redeemed_for : BookView → TicketView → Result (Redeemed ParcelsView) NotOut → BookView
book_redeemed_for b ticket (Ok redeemed) = after_redeem ticket b
book_redeemed_for b ticket (Err error) = b

-- the seat and the book where the oldest ticket was redeemed, if there is one
abbrev pub seat_redeemed : BookView → Seat → List TicketView → Seat
seat_redeemed b s [] = s
seat_redeemed b s (ticket ∷ rest) = seat_redeemed_for s ticket rest (redeemed_for b.batches ticket)

-- the book after the oldest ticket was redeemed, if there is one
abbrev pub book_redeemed : BookView → List TicketView → BookView
book_redeemed b [] = b
book_redeemed b (ticket ∷ rest) = book_redeemed_for b ticket (redeemed_for b.batches ticket)
