-- Each worker has room for what its tickets release, over each move.
use Rattle.std.proofs.Common.{◌≡◌, ℕ, ◌+◌, ◌<◌, ◌≤◌, ◌==◌, ◌||◌, Bool, true, false, cond, Option, Some, None, List, [], ◌∷◌, ◌++◌, set, length, slice_get, refl, sym, ap, ◌∙◌, subst, arith}
use Rattle.std.specs.Prelude.{Result, Ok, Err}
use Rattle.std.specs.List.{AllByRecursion}
use Rattle.std.specs.Option.{option_flatten}
use Rattle.std.proofs.lemmas.Bool.{eqb-false}
use Rattle.std.proofs.lemmas.Option.{none-some, same_Some}
use Rattle.hd_base.proofs.Lists.{AllByRecursion-slice_get}
use Rattle.hd_task.specs.declared.task.Task.{Task}
use Rattle.hd_node.specs.declared.batch.Outcome.{Outcome}
use Rattle.hd_entries.specs.Growing.{successor_count}
use Rattle.hd_book.specs.declared.not_out.NotOut.{NotOut}
use Rattle.hd_book.specs.declared.outgoing.Outgoing.{Outgoing}
use Rattle.hd_book.specs.declared.redeemed.Redeemed.{Redeemed}
use Rattle.hd_book.specs.declared.redeemed.Redeemed.TheVariants as given
use Rattle.hd_book.specs.Batches.{TicketView, Batches}
use Rattle.hd_book.specs.Queue.{are_acknowledged}
use Rattle.hd_book.specs.TicketRedeeming.{redeemed_for}
use Rattle.hd_book.specs.Slots.{ticket_at}
use Rattle.hd_book.specs.TicketSteps as steps
use Rattle.hd_journal.specs.Group.{GroupView}
use Rattle.hd_book.specs.declared.refusal.CommitRefusal.{CommitRefusal}
use Rattle.hd_entries.specs.Releasing.{ParcelsView}
use Rattle.hd_book.specs.View.{BookView}
use Rattle.hd_book.specs.Groups.{next_group, is_group_out}
use Rattle.hd_book.specs.Refusing.{commit_refusal_to}
use Rattle.hd_book.specs.Steps.{released, after_commit, ticket_after, after_flush}
use Rattle.hd_turns.specs.Calls.{batch_of, after_batch, after_numbering, after_releasing}
use Rattle.hd_turns.proofs.Lists.{AllByRecursion-map, slice_get-append_left}
use Rattle.hd_world.specs.declared.moves.Move.{Move}
use Rattle.hd_world.specs.declared.moves.Move.TheVariants as moves
use Rattle.hd_world.specs.Seats.{Seat, Run}
use Rattle.hd_world.specs.Moves.{book_bound, popped, hand_taken, redeemed_by, redeemed_of, ticket_redeemed, pushed, offered, loaded, pulled_to, acked_of, may_commit, with_commit, with_drop, is_dropped, committed_by, committed, TurnsTo}
use Rattle.hd_world.specs.Once.{times_held}
use Rattle.hd_world.specs.Order.{AreOut, AreTicketsOut, released_count, coming, HasRoomForTickets, HaveRoom}
use Rattle.hd_world.proofs.Lists.{AllByRecursion-set, AllByRecursion-from_map, slice_get-set_other}
use Rattle.hd_world.proofs.Sums.{total-append}
use Rattle.hd_world.proofs.Committing.{length-released}
use Rattle.hd_world.proofs.Moving.{released_by_ticket}
use Rattle.hd_world.proofs.Quiet.{IsQuiet, held_of, pop_quiet, take_quiet, expand_quiet, push_quiet, offer_quiet, load_quiet}
use Rattle.hd_world.proofs.Tickets.{AllOut, times_among, newest, out_within, gone}

-- tickets fit into a room
abbrev Fit : BookView → List TicketView × ℕ → Type 0
Fit b held = coming b held.0 ≤ held.1

quiet_rooms : (r r' : Run) → IsQuiet r r' → HaveRoom r → HaveRoom r'
quiet_rooms r r' quiet x =
    subst (λ (b : BookView). AllByRecursion (HasRoomForTickets b) r'.seats) (sym quiet.book)
    (AllByRecursion-from_map (Fit r.book) held_of r'.seats
    (subst (AllByRecursion (Fit r.book)) (sym quiet.held)
    (AllByRecursion-map (HasRoomForTickets r.book) (Fit r.book) held_of (λ s y. y) r.seats x)))

module _ (r : Run) (out : AreTicketsOut r) (x : HaveRoom r) where
  abbrev q : Batches ParcelsView
  q = r.book.batches

  seat_room : (k : ℕ) (s : Seat) → slice_get r.seats k ≡ Some s → HasRoomForTickets r.book s
  seat_room k s e = AllByRecursion-slice_get (HasRoomForTickets r.book) r.seats k s x e

  -- ---- a commit

  module _ (batch : List Outcome) where
    abbrev b' : BookView
    b' = after_commit batch r.book

    -- tickets that are out release what they did
    same_one : (k : TicketView) → k.number < length q.tickets → released_count (ticket_at b'.batches.tickets k.number) ≡ released_count (ticket_at q.tickets k.number)
    same_one k lt = ap (λ (o : Option (Option (Outgoing ParcelsView))). released_count (option_flatten o)) (slice_get-append_left q.tickets _ k.number lt)

    same_coming : (held : List TicketView) → AllOut q held → coming b' held ≡ coming r.book held
    same_coming [] all = refl
    same_coming (k ∷ held) all = omega (arith, same_one k (out_within q k all.0), same_coming held all.1)

    all_same : (seats : List Seat) → AllByRecursion (AreOut r.book) seats → AllByRecursion (HasRoomForTickets r.book) seats → AllByRecursion (HasRoomForTickets b') seats
    all_same [] outs all = tt
    all_same (s ∷ seats) outs all = (omega (arith, same_coming s.tickets outs.0, all.0), all_same seats outs.1 all.1)

    -- the new ticket releases the successors of the batch
    new_one : released_count (ticket_at b'.batches.tickets (length q.tickets)) ≡ successor_count batch
    new_one =
        ap released_count (newest q.tickets (record { first = (ticket_after batch r.book).first; end = (ticket_after batch r.book).end; released = released r.book batch }))
        ∙ length-released (length r.book.state.entries) batch

  commit_rooms : (k : ℕ) (s : Seat) → slice_get r.seats k ≡ Some s → HaveRoom (with_commit k (batch_of s.worker) s r)
  commit_rooms k s e =
      let batch = batch_of s.worker in
      let s' : Seat = record s {
        worker = after_numbering (length r.book.state.entries) (after_batch s.worker);
        tickets = s.tickets ++ ticket_after batch r.book ∷ [];
        told = book_bound (after_commit batch r.book).state;
      } in
      AllByRecursion-set (HasRoomForTickets (after_commit batch r.book)) r.seats k s' (all_same batch r.seats out.out x)
      (omega (
        arith,
        seat_room k s e,
        same_coming batch s.tickets (AllByRecursion-slice_get (AreOut r.book) r.seats k s out.out e),
        new_one batch,
        total-append (λ (k : TicketView). released_count (ticket_at (after_commit batch r.book).batches.tickets k.number)) s.tickets (ticket_after batch r.book ∷ []),
      ))

  drop_rooms : (k : ℕ) (s : Seat) → slice_get r.seats k ≡ Some s → HaveRoom (with_drop k s r)
  drop_rooms k s e =
      AllByRecursion-set (HasRoomForTickets r.book) r.seats k _ x
      (let more : coming r.book s.tickets ≤ s.worker.room + successor_count (batch_of s.worker) = omega (arith, seat_room k s e) in more)

  commit_by : (k : ℕ) (s : Seat) (why : Option CommitRefusal) (r' : Run) → slice_get r.seats k ≡ Some s → committed_by k r s why ≡ Some r' → HaveRoom r'
  commit_by k s None r' e m = subst HaveRoom (same_Some (with_commit k (batch_of s.worker) s r) r' m) (commit_rooms k s e)
  commit_by k s (Some c) r' e m =
      elim (is_dropped c) as (λ y. cond {A = Option Run} y (Some (with_drop k s r)) None ≡ Some r' → HaveRoom r') [
        | true ↦ λ m. subst HaveRoom (same_Some (with_drop k s r) r' m) (drop_rooms k s e)
        | false ↦ λ m. absurd (none-some r' m)
      ] m

  commit_of : (k : ℕ) (os : Option Seat) (r' : Run) → slice_get r.seats k ≡ os → committed k r os ≡ Some r' → HaveRoom r'
  commit_of k None r' e m = subst HaveRoom (same_Some r r' m) x
  commit_of k (Some s) r' e m =
      elim (may_commit s) as (λ y. cond {A = Option Run} y (committed_by k r s (commit_refusal_to r.book (batch_of s.worker))) (Some r) ≡ Some r' → HaveRoom r') [
        | true ↦ λ m. commit_by k s (commit_refusal_to r.book (batch_of s.worker)) r' e m
        | false ↦ λ m. subst HaveRoom (same_Some r r' m) x
      ] m

  -- ---- a redemption

  module _ (k : ℕ) (s : Seat) (ticket : TicketView) (rest : List TicketView) (e : slice_get r.seats k ≡ Some s) (held : s.tickets ≡ ticket ∷ rest) (s' : Seat) (left : s'.tickets ≡ rest) (fits : coming r.book rest ≤ s'.worker.room) where
    abbrev seats' : List Seat
    seats' = set r.seats k s'

    left_rooms : AllByRecursion (HasRoomForTickets r.book) seats'
    left_rooms = AllByRecursion-set (HasRoomForTickets r.book) r.seats k s' x (subst (λ ks. coming r.book ks ≤ s'.worker.room) (sym left) fits)

    abbrev b'' : BookView
    b'' = record r.book { batches = steps.without ticket.number q }

    other_coming : (js : List TicketView) → times_among ticket.number js ≡ 0 → coming b'' js ≡ coming r.book js
    other_coming [] none = refl
    other_coming (j ∷ js) none =
        elim (j.number == ticket.number) as (λ y. (j.number == ticket.number) ≡ y → cond {A = ℕ} y 1 0 + times_among ticket.number js ≡ 0 → coming b'' (j ∷ js) ≡ coming r.book (j ∷ js)) [
          | true ↦ λ _ none. absurd (omega (arith, none))
          | false ↦ λ other none.
              let same : released_count (ticket_at b''.batches.tickets j.number) ≡ released_count (ticket_at q.tickets j.number) =
              ap (λ (o : Option (Option (Outgoing ParcelsView))). released_count (option_flatten o)) (slice_get-set_other q.tickets ticket.number None j.number (eqb-false j.number ticket.number other))
              in
              omega (arith, same, other_coming js (omega (arith, none)))
        ] refl none

    other_rooms : (seats : List Seat) → times_held ticket.number seats ≡ 0 → AllByRecursion (HasRoomForTickets r.book) seats → AllByRecursion (HasRoomForTickets b'') seats
    other_rooms [] none all = tt
    other_rooms (s ∷ seats) none all = (omega (arith, other_coming s.tickets (omega (arith, none)), all.0), other_rooms seats (omega (arith, none)) all.1)

    without_rooms : (r' : Run) (free : Bool) → r'.seats ≡ seats' → r'.book.batches ≡ cond free (steps.without ticket.number q) q → HaveRoom r'
    without_rooms r' free seats batches =
        subst (λ (v : Batches ParcelsView). AllByRecursion (HasRoomForTickets (record r.book { batches = v })) r'.seats) (sym batches)
        (subst (AllByRecursion (HasRoomForTickets (record r.book { batches = cond free (steps.without ticket.number q) q }))) (sym seats)
        (elim free as (λ y. AllByRecursion (HasRoomForTickets (record r.book { batches = cond y (steps.without ticket.number q) q })) seats') [
          | true ↦ other_rooms seats' (gone r out k s ticket rest e held s' left) left_rooms
          | false ↦ left_rooms
        ]))

  redeem_by : (k : ℕ) (s : Seat) (ticket : TicketView) (rest : List TicketView) (a : Result (Redeemed ParcelsView) NotOut)
      → slice_get r.seats k ≡ Some s → s.tickets ≡ ticket ∷ rest → redeemed_for q ticket ≡ a → HaveRoom (redeemed_by k r s ticket rest a)
  redeem_by k s ticket rest (Ok (given.Released receipt parcels)) e held is =
      let g = released_by_ticket q ticket receipt parcels is in
      let count : released_count (ticket_at q.tickets ticket.number) ≡ length parcels.kids = ap released_count g.there ∙ ap (λ (v : ParcelsView). length v.kids) g.parcels_are in
      let all : coming r.book s.tickets ≡ released_count (ticket_at q.tickets ticket.number) + coming r.book rest = ap (coming r.book) held in
      without_rooms k s ticket rest e held (record s { worker = after_releasing parcels.kids s.worker; tickets = rest }) refl
      (omega (arith, seat_room k s e, all, count))
      (redeemed_by k r s ticket rest (Ok (given.Released receipt parcels))) (are_acknowledged q.queue ticket.first ticket.end || q.halted) refl refl
  redeem_by k s ticket rest (Ok (given.NotYet again)) e held is = x
  redeem_by k s ticket rest (Ok given.Void) e held is =
      without_rooms k s ticket rest e held (record s { tickets = rest }) refl (omega (arith, seat_room k s e, ap (coming r.book) held))
      (redeemed_by k r s ticket rest (Ok given.Void)) (are_acknowledged q.queue ticket.first ticket.end || q.halted) refl refl
  redeem_by k s ticket rest (Err error) e held is =
      without_rooms k s ticket rest e held (record s { tickets = rest }) refl (omega (arith, seat_room k s e, ap (coming r.book) held))
      (redeemed_by k r s ticket rest (Err error)) false refl refl

  redeem_of : (k : ℕ) (s : Seat) (tickets : List TicketView) → slice_get r.seats k ≡ Some s → s.tickets ≡ tickets → HaveRoom (redeemed_of k r s tickets)
  redeem_of k s [] e held = x
  redeem_of k s (ticket ∷ rest) e held = redeem_by k s ticket rest (redeemed_for q ticket) e held refl

  redeem_rooms : (k : ℕ) (os : Option Seat) → slice_get r.seats k ≡ os → HaveRoom (ticket_redeemed k r os)
  redeem_rooms k None e = x
  redeem_rooms k (Some s) e = redeem_of k s s.tickets e refl

  -- ---- all moves

  pull_rooms : (g : Option GroupView) → HaveRoom (pulled_to r g)
  pull_rooms None = x
  pull_rooms (Some g) = x

  ack_by : (is : Bool) → HaveRoom (cond is (record r { book = after_flush r.book; flushed = None }) (record r { flushed = None }))
  ack_by true = x
  ack_by false = x

  ack_rooms : (g : Option GroupView) → HaveRoom (acked_of r g)
  ack_rooms None = x
  ack_rooms (Some g) = ack_by (is_group_out r.book g)

  turns_by : (t : Task) (m : Move) (r' : Run) → TurnsTo t r m r' → HaveRoom r'
  turns_by t (moves.Resume workers stop) r' m = subst HaveRoom (sym m) x
  turns_by t (moves.Pop k) r' m =
      let os = slice_get r.seats k in
      let box = slice_get r.mailboxes k in
      subst HaveRoom (sym m) (quiet_rooms r (popped k r os box) (pop_quiet r k os box refl) x)
  turns_by t (moves.Take k) r' m = let os = slice_get r.seats k in subst HaveRoom (sym m) (quiet_rooms r (hand_taken k r os) (take_quiet r k os refl) x)
  turns_by t (moves.Expand k place) r' m = quiet_rooms r r' (expand_quiet r t k place (slice_get r.seats k) r' refl m) x
  turns_by t (moves.Commit k) r' m = commit_of k (slice_get r.seats k) r' refl m
  turns_by t (moves.Redeem k) r' m = subst HaveRoom (sym m) (redeem_rooms k (slice_get r.seats k) refl)
  turns_by t (moves.Push k) r' m = let os = slice_get r.seats k in subst HaveRoom (sym m) (quiet_rooms r (pushed k r os) (push_quiet r k os refl) x)
  turns_by t (moves.Offer k) r' m = let os = slice_get r.seats k in subst HaveRoom (sym m) (quiet_rooms r (offered r os) (offer_quiet r os) x)
  turns_by t (moves.Load k) r' m = let os = slice_get r.seats k in subst HaveRoom (sym m) (quiet_rooms r (loaded k r os) (load_quiet r k os refl) x)
  turns_by t moves.Pull r' m = subst HaveRoom (sym m) (pull_rooms (next_group r.book))
  turns_by t moves.Flush r' m = subst HaveRoom (sym m) x
  turns_by t moves.Ack r' m = subst HaveRoom (sym m) (ack_rooms r.flushed)
  turns_by t (moves.Stop stop) r' m = subst HaveRoom (sym m) x

pub turns_stay_roomy : (t : Task) (r : Run) → AreTicketsOut r → HaveRoom r → (m : Move) (r' : Run) → TurnsTo t r m r' → HaveRoom r'
turns_stay_roomy t r out x m r' moved = turns_by r out x t m r' moved
