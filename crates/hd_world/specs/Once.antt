-- In how many places of a running search a successor is. (Our own.)
use Rattle.std.specs.Prelude.{◌≡◌, ℕ, ◌+◌, ◌≤◌, ◌==◌, if◌then◌else◌, List, [], ◌∷◌, Option, Some, None, is_some}
use Rattle.hd_task.specs.declared.plan.Kid.{Kid}
use Rattle.hd_tables.specs.Kids.{same_kid}
use Rattle.hd_node.specs.declared.batch.Outcome.{Outcome}
use Rattle.hd_node.specs.Outcome.{kid_of}
use Rattle.hd_entries.specs.Settling.{BookState, is_marked}
use Rattle.hd_entries.specs.Holding.{Released}
use Rattle.hd_book.specs.declared.outgoing.Outgoing.{Outgoing}
use Rattle.hd_book.specs.Batches.{TicketView}
use Rattle.hd_book.specs.Slots.{ticket_at}
use Rattle.hd_entries.specs.Releasing.{ParcelsView}
use Rattle.hd_turns.specs.Worker.{WorkerView}
use Rattle.hd_world.specs.Seats.{Seat, Run}

-- the sum of what the elements of a list weigh
abbrev pub total : {X : Type 0} → (X → ℕ) → List X → ℕ
total weigh [] = 0
total weigh (x ∷ xs) = weigh x + total weigh xs

-- ---- what the successors in each place weigh

-- the weight of the successors in some parcels
abbrev pub in_parcels : (Kid → ℕ) → List Released → ℕ
in_parcels weigh parcels = total (λ (p : Released). weigh p.kid) parcels

-- the weight of the successors that some outcomes settle
abbrev pub in_outcomes : (Kid → ℕ) → List Outcome → ℕ
in_outcomes weigh outcomes = total (λ (o : Outcome). weigh (kid_of o)) outcomes

-- the weight of the successor in a hand, if one is there
abbrev pub in_hand : (Kid → ℕ) → Option Released → ℕ
in_hand weigh None = 0
in_hand weigh (Some p) = weigh p.kid

-- the weight of a worker's open nodes, its outcomes and its outbox
abbrev pub in_worker : (Kid → ℕ) → WorkerView → ℕ
in_worker weigh w = in_parcels weigh w.waiting + in_outcomes weigh w.outcomes + in_parcels weigh w.outbox

-- the weight of the successors in a seat's hand and with its worker
abbrev pub in_seat : (Kid → ℕ) → Seat → ℕ
in_seat weigh s = in_hand weigh s.hand + in_worker weigh s.worker

-- the weight of the successors that a ticket releases, if it is out
abbrev pub in_ticket : (Kid → ℕ) → Option (Outgoing ParcelsView) → ℕ
in_ticket weigh None = 0
in_ticket weigh (Some o) = in_parcels weigh o.released.kids

-- all places: the hands, the open nodes, the outcomes that are not committed, the outboxes, the
-- mailboxes, and the tickets that are out
abbrev pub in_run : (Kid → ℕ) → Run → ℕ
in_run weigh r = total (in_seat weigh) r.seats + total (in_parcels weigh) r.mailboxes + total (in_ticket weigh) r.book.batches.tickets

-- ---- one successor

-- each successor like this one weighs 1, and any other nothing
abbrev pub weight_like : Kid → Kid → ℕ
weight_like k q = if same_kid k q then 1 else 0

-- in how many places a successor may be: in one where it is posted and not settled, else in none
abbrev pub room_of : BookState → Kid → ℕ
room_of b k = if is_marked b k then 0 else 1

-- each successor is in one place at most, and in none once it is settled
abbrev pub IsOnce : Run → Type 0
IsOnce r = (k : Kid) → in_run (weight_like k) r ≤ room_of r.book.state k

-- and none is lost: each successor that is posted and not settled is in exactly one place
abbrev pub LosesNone : Run → Type 0
LosesNone r = (k : Kid) → in_run (weight_like k) r ≡ room_of r.book.state k

-- nothing is left to do: no successor is anywhere
abbrev pub IsIdle : Run → Type 0
IsIdle r = in_run (λ k. 1) r ≡ 0

-- ---- tickets

-- how often a worker holds the ticket of a number
abbrev pub times_in : ℕ → Seat → ℕ
times_in n s = total (λ (k : TicketView). if k.number == n then 1 else 0) s.tickets

-- how often some workers do
abbrev pub times_held : ℕ → List Seat → ℕ
times_held n seats = total (times_in n) seats

-- how often the ticket of a number is out: once, or not at all
abbrev pub times_out : ℕ → List (Option (Outgoing ParcelsView)) → ℕ
times_out n tickets = if is_some (ticket_at tickets n) then 1 else 0
