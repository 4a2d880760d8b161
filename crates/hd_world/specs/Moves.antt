-- What each move of a schedule makes of a running search. A move that is not possible changes
-- nothing. (Our own; the search is HDA*, Kishimoto, Fukunaga and Botea 2013.)
use Rattle.std.specs.Prelude.{◌≡◌, ℕ, ◌%◌, Bool, true, false, ◌&&◌, nat_lt, if◌then◌else◌, List, [], ◌∷◌, ◌++◌, length, Option, Some, None, is_some, slice_get, slice_set, Result, Ok, Err}
use Rattle.hd_task.specs.declared.task.Task.{Task}
use Rattle.hd_task.specs.declared.plan.TheConstants.{ROOT_PARENT}
use Rattle.hd_task.specs.Expansions.{bound_of, lesser}
use Rattle.hd_hmax.specs.Rounds.{hmax}
use Rattle.hd_zobrist.specs.Hash.{state_hash}
use Rattle.hd_node.specs.declared.batch.Outcome.{Outcome}
use Rattle.hd_entries.specs.declared.refusal.Refusal.TheVariants.{UnknownParent, NotAKid, SettledBefore, StateDiffers, NotDominated, BelowBound, Full, NoMemory}
use Rattle.hd_entries.specs.Settling.{BookState, expansions}
use Rattle.hd_entries.specs.Holding.{Released}
use Rattle.hd_book.specs.declared.not_out.NotOut.{NotOut}
use Rattle.hd_book.specs.declared.redeemed.Redeemed.{Redeemed}
use Rattle.hd_book.specs.declared.redeemed.Redeemed.TheVariants as given
use Rattle.hd_book.specs.Batches.{TicketView}
use Rattle.hd_book.specs.TicketRedeeming.{redeemed_for}
use Rattle.hd_journal.specs.Group.{GroupView}
use Rattle.hd_book.specs.declared.refusal.CommitRefusal.{CommitRefusal}
use Rattle.hd_book.specs.declared.refusal.CommitRefusal.TheVariants.{Halted, Refused}
use Rattle.hd_entries.specs.Releasing.{ParcelsView}
use Rattle.hd_book.specs.Groups.{next_group, is_group_out}
use Rattle.hd_book.specs.Refusing.{commit_refusal_to}
use Rattle.hd_book.specs.Steps.{after_commit, ticket_after, after_take, after_flush, after_redeem}
use Rattle.hd_turns.specs.Worker.{WorkerView}
use Rattle.hd_turns.specs.Calls.{with_parcel, Expands, batch_of, after_batch, after_numbering, after_releasing, after_sending, after_return, after_seeing}
use Rattle.hd_world.specs.declared.moves.Move.{Move}
use Rattle.hd_world.specs.declared.moves.Move.TheVariants as moves
use Rattle.hd_desk.specs.declared.mail.TheConstants.{MAILBOX_PLACES}
use Rattle.hd_book.specs.declared.ticket.TheConstants.{MAX_TICKETS}
use Rattle.hd_world.specs.Seats.{Seat, Run}

-- a seat in another's place
abbrev pub with_seat : ℕ → Seat → Run → Run
with_seat k s r = record r { seats = slice_set r.seats k s }

-- the bound of a book's state
abbrev pub book_bound : BookState → Option ℕ
book_bound b = bound_of b.task (expansions b)

-- ---- `pop` and `take`

-- the first parcel of a worker's mailbox is in its hand, if that was empty
abbrev pub popped : ℕ → Run → Option Seat → Option (List Released) → Run
popped k r None box = r
popped k r (Some s) None = r
popped k r (Some s) (Some []) = r
popped k r (Some s) (Some (p ∷ rest)) =
    if is_some s.hand then r
    else record r { seats = slice_set r.seats k (record s { hand = Some p }); mailboxes = slice_set r.mailboxes k rest }

-- the parcel in the hand is the worker's last open node
abbrev pub taken_by : ℕ → Run → Seat → Option Released → Run
taken_by k r s None = r
taken_by k r s (Some p) = with_seat k (record s { worker = with_parcel p s.worker; hand = None }) r

-- `take`: the parcel in the hand of a worker, if any, is its last open node
abbrev pub hand_taken : ℕ → Run → Option Seat → Run
hand_taken k r None = r
hand_taken k r (Some s) = taken_by k r s s.hand

-- ---- `expand`

-- the open node at a place becomes an outcome
abbrev pub Expanded : Task → ℕ → ℕ → Run → Option Seat → Run → Type 0
Expanded t k place r None r' = r' ≡ r
Expanded t k place r (Some s) r' =
    (w : WorkerView) × Expands t (hmax t) place s.worker w × (r' ≡ with_seat k (record s { worker = w }) r)

-- ---- `commit`

-- a worker has a batch to commit, and may hold one ticket more
abbrev pub may_commit : Seat → Bool
may_commit s = nat_lt (length s.tickets) MAX_TICKETS && nat_lt 0 (length s.worker.outcomes)

-- the batch is accepted: the worker has its ticket, and was told the bound
abbrev pub with_commit : ℕ → List Outcome → Seat → Run → Run
with_commit k batch s r = record r {
  book = after_commit batch r.book;
  seats = slice_set r.seats k (record s {
    worker = after_numbering (length r.book.state.entries) (after_batch s.worker);
    tickets = s.tickets ++ ticket_after batch r.book ∷ [];
    told = book_bound (after_commit batch r.book).state;
  });
}

-- the batch is dropped: the worker numbers its expansions from a number on that no entry has
abbrev pub with_drop : ℕ → Seat → Run → Run
with_drop k s r = with_seat k (record s { worker = after_numbering ROOT_PARENT (after_batch s.worker) }) r

-- a batch that is refused for what it says is dropped; one that is refused for want of room ends
-- the run
abbrev pub is_dropped : CommitRefusal → Bool
is_dropped Halted = false
is_dropped (Refused UnknownParent) = true
is_dropped (Refused NotAKid) = true
is_dropped (Refused SettledBefore) = true
is_dropped (Refused StateDiffers) = true
is_dropped (Refused NotDominated) = true
is_dropped (Refused BelowBound) = true
is_dropped (Refused Full) = false
is_dropped (Refused NoMemory) = false

-- what a commit leaves; none where it ends the run
abbrev pub committed_by : ℕ → Run → Seat → Option CommitRefusal → Option Run
committed_by k r s None = Some (with_commit k (batch_of s.worker) s r)
committed_by k r s (Some why) = if is_dropped why then Some (with_drop k s r) else None

-- `commit`: a worker's batch, if it may commit one, is accepted or dropped; none if it ends the run
abbrev pub committed : ℕ → Run → Option Seat → Option Run
committed k r None = Some r
committed k r (Some s) = if may_commit s then committed_by k r s (commit_refusal_to r.book (batch_of s.worker)) else Some r

-- ---- `redeem`

-- what a ticket is redeemed for
abbrev pub redeemed_by : ℕ → Run → Seat → TicketView → List TicketView → Result (Redeemed ParcelsView) NotOut → Run
redeemed_by k r s ticket rest (Ok (given.Released receipt parcels)) =
    record r {
      book = after_redeem ticket r.book;
      seats = slice_set r.seats k (record s { worker = after_releasing parcels.kids s.worker; tickets = rest });
    }
redeemed_by k r s ticket rest (Ok (given.NotYet again)) = r
redeemed_by k r s ticket rest (Ok given.Void) =
    record r { book = after_redeem ticket r.book; seats = slice_set r.seats k (record s { tickets = rest }) }
redeemed_by k r s ticket rest (Err error) = with_seat k (record s { tickets = rest }) r

-- the oldest ticket is redeemed
abbrev pub redeemed_of : ℕ → Run → Seat → List TicketView → Run
redeemed_of k r s [] = r
redeemed_of k r s (ticket ∷ rest) = redeemed_by k r s ticket rest (redeemed_for r.book.batches ticket)

-- `redeem`: the oldest ticket of a worker, if any, is redeemed
abbrev pub ticket_redeemed : ℕ → Run → Option Seat → Run
ticket_redeemed k r None = r
ticket_redeemed k r (Some s) = redeemed_of k r s s.tickets

-- ---- `push`

-- the number of the worker that owns a parcel's state, of so many
abbrev pub owner_of : ℕ → Released → ℕ
owner_of workers p = state_hash p.state % workers

-- a parcel leaves the outbox for a mailbox that has room; else it is put back
abbrev pub mailed : ℕ → Run → Seat → Released → ℕ → Option (List Released) → Run
mailed k r s p to None = r
mailed k r s p to (Some box) =
    if nat_lt (length box) MAILBOX_PLACES then
    record r {
      seats = slice_set r.seats k (record s { worker = after_sending s.worker });
      mailboxes = slice_set r.mailboxes to (box ++ p ∷ []);
    }
    else with_seat k (record s { worker = after_return p (after_sending s.worker) }) r

-- the next parcel of the outbox goes to its owner's mailbox
abbrev pub pushed_of : ℕ → Run → Seat → List Released → Run
pushed_of k r s [] = r
pushed_of k r s (p ∷ rest) = mailed k r s p (owner_of (length r.seats) p) (slice_get r.mailboxes (owner_of (length r.seats) p))

-- `push`: the next parcel of a worker's outbox, if any, goes to its owner's mailbox
abbrev pub pushed : ℕ → Run → Option Seat → Run
pushed k r None = r
pushed k r (Some s) = pushed_of k r s s.worker.outbox

-- ---- `offer` and `load`

-- the shared bound is the lesser one of what it was and what the worker was told
abbrev pub offered : Run → Option Seat → Run
offered r None = r
offered r (Some s) = record r { bound = lesser s.told r.bound }

-- the worker sees the shared bound
abbrev pub loaded : ℕ → Run → Option Seat → Run
loaded k r None = r
loaded k r (Some s) = with_seat k (record s { worker = after_seeing r.bound s.worker }) r

-- ---- `pull` and `ack`

-- the next group goes out, if one is due
abbrev pub pulled_to : Run → Option GroupView → Run
pulled_to r None = r
pulled_to r (Some g) = record r { book = after_take r.book; group = Some g }

-- `pull`: the next group of the book goes out, if one is due
abbrev pub pulled : Run → Run
pulled r = pulled_to r (next_group r.book)

-- the group that was appended is acknowledged
abbrev pub acked_of : Run → Option GroupView → Run
acked_of r None = r
acked_of r (Some g) =
    if is_group_out r.book g then record r { book = after_flush r.book; flushed = None }
    else record r { flushed = None }

-- `ack`: the appended group, if any, is acknowledged if it is still out
abbrev pub acked : Run → Run
acked r = acked_of r r.flushed

-- ---- all of them

-- what a move makes of a run, the moves aside that touch the disk
abbrev pub TurnsTo : Task → Run → Move → Run → Type 0
TurnsTo t r (moves.Resume workers stop) r' = r' ≡ r
TurnsTo t r (moves.Pop k) r' = r' ≡ popped k r (slice_get r.seats k) (slice_get r.mailboxes k)
TurnsTo t r (moves.Take k) r' = r' ≡ hand_taken k r (slice_get r.seats k)
TurnsTo t r (moves.Expand k place) r' = Expanded t k place r (slice_get r.seats k) r'
TurnsTo t r (moves.Commit k) r' = committed k r (slice_get r.seats k) ≡ Some r'
TurnsTo t r (moves.Redeem k) r' = r' ≡ ticket_redeemed k r (slice_get r.seats k)
TurnsTo t r (moves.Push k) r' = r' ≡ pushed k r (slice_get r.seats k)
TurnsTo t r (moves.Offer k) r' = r' ≡ offered r (slice_get r.seats k)
TurnsTo t r (moves.Load k) r' = r' ≡ loaded k r (slice_get r.seats k)
TurnsTo t r moves.Pull r' = r' ≡ pulled r
TurnsTo t r moves.Flush r' = r' ≡ r
TurnsTo t r moves.Ack r' = r' ≡ acked r
TurnsTo t r (moves.Stop stop) r' = r' ≡ r

-- a commit that the book has no room for ends the run, as a fault does
abbrev pub EndsRun : Run → Move → Type 0
EndsRun r (moves.Resume workers stop) = ⊥
EndsRun r (moves.Pop k) = ⊥
EndsRun r (moves.Take k) = ⊥
EndsRun r (moves.Expand k place) = ⊥
EndsRun r (moves.Commit k) = committed k r (slice_get r.seats k) ≡ None
EndsRun r (moves.Redeem k) = ⊥
EndsRun r (moves.Push k) = ⊥
EndsRun r (moves.Offer k) = ⊥
EndsRun r (moves.Load k) = ⊥
EndsRun r moves.Pull = ⊥
EndsRun r moves.Flush = ⊥
EndsRun r moves.Ack = ⊥
EndsRun r (moves.Stop stop) = ⊥
