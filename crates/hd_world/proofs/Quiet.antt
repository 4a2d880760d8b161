-- Moves that leave a run's book, its tickets and its groups as they are.
use Rattle.std.proofs.Common.{◌≡◌, ℕ, nat_lt, true, false, cond, Option, Some, None, is_some, List, [], ◌∷◌, ◌++◌, map, set, length, slice_get, refl, sym, ap, ap₂, subst}
use Rattle.hd_task.specs.declared.task.Task.{Task}
use Rattle.hd_task.specs.Covers.{Estimate}
use Rattle.hd_hmax.specs.Rounds.{hmax}
use Rattle.hd_entries.specs.Holding.{Released}
use Rattle.hd_closed.proofs.Keeping.{map-set_same}
use Rattle.hd_book.specs.Batches.{TicketView}
use Rattle.hd_turns.specs.Worker.{WorkerView}
use Rattle.hd_turns.specs.Calls.{ExpandsTo, Expands, with_parcel, after_sending, after_return, after_seeing}
use Rattle.hd_desk.specs.declared.mail.TheConstants.{MAILBOX_PLACES}
use Rattle.hd_world.specs.Seats.{Seat, Run}
use Rattle.hd_world.specs.Moves.{with_seat, popped, taken_by, hand_taken, Expanded, mailed, pushed_of, pushed, owner_of, offered, loaded}

abbrev pub tickets_of : Seat → List TicketView
tickets_of s = s.tickets

-- what a worker holds of tickets, and its room
abbrev pub held_of : Seat → List TicketView × ℕ
held_of s = (s.tickets, s.worker.room)

pub record IsQuiet (r r' : Run) : Type 0 where
  pub book : r'.book ≡ r.book
  pub group : r'.group ≡ r.group
  pub flushed : r'.flushed ≡ r.flushed
  pub tickets : map tickets_of r'.seats ≡ map tickets_of r.seats
  pub held : map held_of r'.seats ≡ map held_of r.seats

-- an expansion leaves a worker's room
expands_room : (t : Task) (h : Estimate) (place : ℕ) (w w' : WorkerView) → Expands t h place w w' → w'.room ≡ w.room
expands_room t h place w w' m =
    elim (slice_get w.waiting place) as (λ o. ExpandsTo t h place w o w' → w'.room ≡ w.room) [
      | None ↦ λ m. ap (λ (v : WorkerView). v.room) m
      | Some p ↦ λ m. ap (λ (v : WorkerView). v.room) m.2
    ] m

pub quiet_same : (r r' : Run) → r' ≡ r → IsQuiet r r'
quiet_same r r' e = subst (IsQuiet r) (sym e) (record { book = refl; group = refl; flushed = refl; tickets = refl; held = refl })

module _ (r : Run) where
  itself : IsQuiet r r
  itself = quiet_same r r refl

  pub seat_quiet : (k : ℕ) (s s' : Seat) → slice_get r.seats k ≡ Some s → s'.tickets ≡ s.tickets → s'.worker.room ≡ s.worker.room → IsQuiet r (with_seat k s' r)
  seat_quiet k s s' e same room = record {
    book = refl;
    group = refl;
    flushed = refl;
    tickets = map-set_same tickets_of r.seats k s s' e same;
    held = map-set_same held_of r.seats k s s' e (ap₂ (λ (ks : List TicketView) (n : ℕ). (ks, n)) same room);
  }

  both_quiet : (k to : ℕ) (s s' : Seat) (box : List Released) → slice_get r.seats k ≡ Some s → s'.tickets ≡ s.tickets → s'.worker.room ≡ s.worker.room
      → IsQuiet r (record r { seats = set r.seats k s'; mailboxes = set r.mailboxes to box })
  both_quiet k to s s' box e same room = record {
    book = refl;
    group = refl;
    flushed = refl;
    tickets = map-set_same tickets_of r.seats k s s' e same;
    held = map-set_same held_of r.seats k s s' e (ap₂ (λ (ks : List TicketView) (n : ℕ). (ks, n)) same room);
  }

  pub pop_quiet : (k : ℕ) (os : Option Seat) (box : Option (List Released)) → slice_get r.seats k ≡ os → IsQuiet r (popped k r os box)
  pop_quiet k None box e = itself
  pop_quiet k (Some s) None e = itself
  pop_quiet k (Some s) (Some []) e = itself
  pop_quiet k (Some s) (Some (p ∷ rest)) e =
      elim (is_some s.hand) as (λ y. IsQuiet r (cond y r (record r { seats = set r.seats k (record s { hand = Some p }); mailboxes = set r.mailboxes k rest }))) [
        | true ↦ itself
        | false ↦ both_quiet k k s (record s { hand = Some p }) rest e refl refl
      ]

  take_by : (k : ℕ) (s : Seat) (hand : Option Released) → slice_get r.seats k ≡ Some s → IsQuiet r (taken_by k r s hand)
  take_by k s None e = itself
  take_by k s (Some p) e = seat_quiet k s (record s { worker = with_parcel p s.worker; hand = None }) e refl refl

  pub take_quiet : (k : ℕ) (os : Option Seat) → slice_get r.seats k ≡ os → IsQuiet r (hand_taken k r os)
  take_quiet k None e = itself
  take_quiet k (Some s) e = take_by k s s.hand e

  pub expand_quiet : (t : Task) (k place : ℕ) (os : Option Seat) (r' : Run) → slice_get r.seats k ≡ os → Expanded t k place r os r' → IsQuiet r r'
  expand_quiet t k place None r' e m = quiet_same r r' m
  expand_quiet t k place (Some s) r' e m = subst (IsQuiet r) (sym m.2) (seat_quiet k s (record s { worker = m.0 }) e refl (expands_room t (hmax t) place s.worker m.0 m.1))

  mail_quiet : (k : ℕ) (s : Seat) (p : Released) (to : ℕ) (box : Option (List Released)) → slice_get r.seats k ≡ Some s → IsQuiet r (mailed k r s p to box)
  mail_quiet k s p to None e = itself
  mail_quiet k s p to (Some box) e =
      elim (nat_lt (length box) MAILBOX_PLACES) as (λ v. IsQuiet r (cond v (record r { seats = set r.seats k (record s { worker = after_sending s.worker }); mailboxes = set r.mailboxes to (box ++ p ∷ []) }) (with_seat k (record s { worker = after_return p (after_sending s.worker) }) r))) [
        | true ↦ both_quiet k to s (record s { worker = after_sending s.worker }) (box ++ p ∷ []) e refl refl
        | false ↦ seat_quiet k s (record s { worker = after_return p (after_sending s.worker) }) e refl refl
      ]

  push_of : (k : ℕ) (s : Seat) (outbox : List Released) → slice_get r.seats k ≡ Some s → IsQuiet r (pushed_of k r s outbox)
  push_of k s [] e = itself
  push_of k s (p ∷ rest) e = mail_quiet k s p (owner_of (length r.seats) p) (slice_get r.mailboxes (owner_of (length r.seats) p)) e

  pub push_quiet : (k : ℕ) (os : Option Seat) → slice_get r.seats k ≡ os → IsQuiet r (pushed k r os)
  push_quiet k None e = itself
  push_quiet k (Some s) e = push_of k s s.worker.outbox e

  pub offer_quiet : (os : Option Seat) → IsQuiet r (offered r os)
  offer_quiet None = itself
  offer_quiet (Some s) = record { book = refl; group = refl; flushed = refl; tickets = refl; held = refl }

  pub load_quiet : (k : ℕ) (os : Option Seat) → slice_get r.seats k ≡ os → IsQuiet r (loaded k r os)
  load_quiet k None e = itself
  load_quiet k (Some s) e = seat_quiet k s (record s { worker = after_seeing r.bound s.worker }) e refl refl
