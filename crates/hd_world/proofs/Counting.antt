-- What each move makes of the sums of what a run's successors weigh.
use Rattle.std.proofs.Common.{◌≡◌, ℕ, ◌+◌, ◌≤◌, nat_lt, Bool, true, false, cond, not, ◌||◌, Option, Some, None, is_some, List, [], ◌∷◌, ◌++◌, map, filter, set, drop, length, slice_get, refl, sym, ap, ◌∙◌, arith, true≢false}
use Rattle.std.specs.Prelude.{Result, Ok, Err}
use Rattle.std.proofs.lemmas.List.{take-append-drop}
use Rattle.hd_task.specs.declared.task.Task.{Task}
use Rattle.hd_task.specs.declared.plan.Kid.{Kid}
use Rattle.hd_task.specs.Covers.{Estimate}
use Rattle.hd_hmax.specs.Rounds.{hmax}
use Rattle.hd_node.specs.declared.batch.Outcome.{Outcome}
use Rattle.hd_node.specs.declared.batch.Outcome.TheVariants.{Expanded as expansion, Duplicate, Bounded}
use Rattle.hd_node.specs.declared.batch.TheConstants.{MAX_OUTCOMES}
use Rattle.hd_node.specs.Outcome.{kid_of}
use Rattle.hd_entries.specs.Holding.{Released, released_by}
use Rattle.hd_closed.specs.Closed.{Closed}
use Rattle.hd_book.specs.declared.not_out.NotOut.{NotOut}
use Rattle.hd_book.specs.declared.outgoing.Outgoing.{Outgoing}
use Rattle.hd_book.specs.declared.redeemed.Redeemed.{Redeemed}
use Rattle.hd_book.specs.declared.redeemed.Redeemed.TheVariants as given
use Rattle.hd_book.specs.Batches.{TicketView, ReceiptView, Batches}
use Rattle.hd_book.specs.Queue.{entries_in_all, are_acknowledged}
use Rattle.hd_book.specs.TicketRedeeming.{redeemed_for}
use Rattle.hd_book.specs.TicketSteps as tickets
use Rattle.hd_entries.specs.Releasing.{ParcelsView}
use Rattle.hd_book.specs.Steps.{entries_added, released, ticket_after, after_commit, after_flush}
use Rattle.hd_book.specs.Groups.{is_group_out}
use Rattle.hd_journal.specs.Group.{GroupView}
use Rattle.hd_turns.specs.Settling.{IsOutcomeOf, Again, Beyond, Anew}
use Rattle.hd_turns.specs.Worker.{WorkerView, is_own}
use Rattle.hd_turns.specs.Calls.{with_parcel, ExpandsTo, Expands, batch_of, after_batch, outcome_numbered, ranks, after_numbering, after_releasing, after_sending, after_return}
use Rattle.hd_desk.specs.declared.mail.TheConstants.{MAILBOX_PLACES}
use Rattle.hd_world.specs.Seats.{Seat, Run}
use Rattle.hd_world.specs.Moves.{with_seat, book_bound, popped, taken_by, hand_taken, Expanded, with_commit, redeemed_by, redeemed_of, ticket_redeemed, mailed, pushed_of, pushed, owner_of, offered, loaded, pulled_to, acked_of}
use Rattle.hd_world.specs.Once.{total, in_parcels, in_outcomes, in_hand, in_worker, in_seat, in_ticket, in_run}
use Rattle.hd_world.proofs.Sums.{total-append, total-set, total-set_most, total-remove, total_parts}
use Rattle.hd_world.proofs.Moving.{released_by_ticket, slot_of}

module _ (h : Kid → ℕ) where
  -- ---- workers

  -- an outcome is of its parcel's successor
  outcome_kid : (t : Task) (e : Estimate) (closed : List Closed) (seen : Option ℕ) (p : Released) (o : Outcome) → IsOutcomeOf t e closed seen p o → h (kid_of o) ≡ h p.kid
  outcome_kid t e closed seen p o (Again c for is) = ap (λ (o : Outcome). h (kid_of o)) is
  outcome_kid t e closed seen p o (Beyond x apart beyond is own state value) = ap (λ (o : Outcome). h (kid_of o)) is
  outcome_kid t e closed seen p o (Anew x apart beyond is own kid state cost) = ap (λ (o : Outcome). h (kid_of o)) is ∙ ap h kid

  expands_keeps : (t : Task) (e : Estimate) (place : ℕ) (w w' : WorkerView) → Expands t e place w w' → in_worker h w' ≡ in_worker h w
  expands_keeps t e place w w' m =
      elim (slice_get w.waiting place) as (λ o. slice_get w.waiting place ≡ o → ExpandsTo t e place w o w' → in_worker h w' ≡ in_worker h w) [
        | None ↦ λ _ m. ap (in_worker h) m
        | Some p ↦ λ is m.
            ap (in_worker h) m.2
            ∙ omega (arith, total-remove (λ (p : Released). h p.kid) w.waiting place p is, total-append (λ (o : Outcome). h (kid_of o)) w.outcomes (m.0 ∷ []), outcome_kid t e w.closed w.seen p m.0 m.1)
      ] refl m

  release_keeps : (parcels : List Released) (w : WorkerView) → in_worker h (after_releasing parcels w) ≡ in_worker h w + in_parcels h parcels
  release_keeps parcels w =
      omega (
        arith,
        total-append (λ (p : Released). h p.kid) w.waiting (filter (is_own w.id w.workers) parcels),
        total-append (λ (p : Released). h p.kid) w.outbox (filter (λ p. not (is_own w.id w.workers p)) parcels),
        total_parts (λ (p : Released). h p.kid) (is_own w.id w.workers) parcels,
      )

  numbering_keeps : (first : ℕ) (given : List ℕ) (outcomes : List Outcome) → in_outcomes h (map (outcome_numbered first given) outcomes) ≡ in_outcomes h outcomes
  numbering_keeps first given [] = refl
  numbering_keeps first given (expansion e ∷ outcomes) = omega (arith, numbering_keeps first given outcomes)
  numbering_keeps first given (Duplicate k by ∷ outcomes) = omega (arith, numbering_keeps first given outcomes)
  numbering_keeps first given (Bounded k e ∷ outcomes) = omega (arith, numbering_keeps first given outcomes)

  -- the first outcomes and the others
  pub batch_parts : (w : WorkerView) → in_outcomes h (batch_of w) + in_outcomes h (drop MAX_OUTCOMES w.outcomes) ≡ in_outcomes h w.outcomes
  batch_parts w = sym (total-append (λ (o : Outcome). h (kid_of o)) (batch_of w) (drop MAX_OUTCOMES w.outcomes)) ∙ ap (in_outcomes h) (take-append-drop MAX_OUTCOMES w.outcomes)

  -- ---- runs

  module _ (r : Run) where
    -- one seat is replaced
    seat_keeps : (k : ℕ) (s s' : Seat) → slice_get r.seats k ≡ Some s → in_seat h s' ≡ in_seat h s → in_run h (with_seat k s' r) ≡ in_run h r
    seat_keeps k s s' e same = omega (arith, total-set (in_seat h) r.seats k s s' e, same)

    pub pop_keeps : (k : ℕ) (os : Option Seat) (box : Option (List Released)) → slice_get r.seats k ≡ os → slice_get r.mailboxes k ≡ box → in_run h (popped k r os box) ≡ in_run h r
    pop_keeps k None box es eb = refl
    pop_keeps k (Some s) None es eb = refl
    pop_keeps k (Some s) (Some []) es eb = refl
    pop_keeps k (Some s) (Some (p ∷ rest)) es eb =
        elim s.hand as (λ hand. s.hand ≡ hand → in_run h (cond (is_some hand) r (record r { seats = set r.seats k (record s { hand = Some p }); mailboxes = set r.mailboxes k rest })) ≡ in_run h r) [
          | Some q ↦ λ _. refl
          | None ↦ λ e.
              omega (arith, total-set (in_seat h) r.seats k s (record s { hand = Some p }) es, total-set (in_parcels h) r.mailboxes k (p ∷ rest) rest eb, ap (in_hand h) e)
        ] refl

    take_by : (k : ℕ) (s : Seat) (hand : Option Released) → slice_get r.seats k ≡ Some s → s.hand ≡ hand → in_run h (taken_by k r s hand) ≡ in_run h r
    take_by k s None e is = refl
    take_by k s (Some p) e is =
        seat_keeps k s (record s { worker = with_parcel p s.worker; hand = None }) e
        (omega (arith, ap (in_hand h) is, total-append (λ (p : Released). h p.kid) s.worker.waiting (p ∷ [])))

    pub take_keeps : (k : ℕ) (os : Option Seat) → slice_get r.seats k ≡ os → in_run h (hand_taken k r os) ≡ in_run h r
    take_keeps k None e = refl
    take_keeps k (Some s) e = take_by k s s.hand e refl

    pub expand_keeps : (t : Task) (k place : ℕ) (os : Option Seat) (r' : Run) → slice_get r.seats k ≡ os → Expanded t k place r os r' → in_run h r' ≡ in_run h r
    expand_keeps t k place None r' e m = ap (in_run h) m
    expand_keeps t k place (Some s) r' e m =
        ap (in_run h) m.2
        ∙ seat_keeps k s (record s { worker = m.0 }) e (omega (arith, expands_keeps t (hmax t) place s.worker m.0 m.1))

    -- a ticket that is redeemed, whether it is spent or not
    spent_keeps : (free : Bool) (k : TicketView) (q : Batches ParcelsView) (o : Outgoing ParcelsView) → free ≡ true → slice_get q.tickets k.number ≡ Some (Some o)
        → total (in_ticket h) (cond free (tickets.without k.number q) q).tickets + in_parcels h o.released.kids ≡ total (in_ticket h) q.tickets
    spent_keeps true k q o e is = omega (arith, total-set (in_ticket h) q.tickets k.number (Some o) None is)
    spent_keeps false k q o e is = absurd (true≢false (sym e))

    spent_most : (free : Bool) (k : TicketView) (q : Batches ParcelsView) → total (in_ticket h) (cond free (tickets.without k.number q) q).tickets ≤ total (in_ticket h) q.tickets
    spent_most true k q = omega (arith, total-set_most (in_ticket h) q.tickets k.number None)
    spent_most false k q = omega arith

    -- what a ticket releases goes to its worker
    pub released_keeps : (k : ℕ) (s : Seat) (ticket : TicketView) (rest : List TicketView) (receipt : ReceiptView) (parcels : ParcelsView)
        → slice_get r.seats k ≡ Some s → redeemed_for r.book.batches ticket ≡ Ok (given.Released receipt parcels)
        → in_run h (redeemed_by k r s ticket rest (Ok (given.Released receipt parcels))) ≡ in_run h r
    released_keeps k s ticket rest receipt parcels e is =
        let q = r.book.batches in
        let g = released_by_ticket q ticket receipt parcels is in
        let free : (are_acknowledged q.queue ticket.first ticket.end || q.halted) ≡ true = ap (λ y. y || q.halted) g.free in
        omega (
          arith,
          spent_keeps (are_acknowledged q.queue ticket.first ticket.end || q.halted) ticket q g.out free (slot_of q.tickets ticket.number g.out g.there),
          ap (λ (v : ParcelsView). in_parcels h v.kids) g.parcels_are,
          release_keeps parcels.kids s.worker,
          total-set (in_seat h) r.seats k s (record s { worker = after_releasing parcels.kids s.worker; tickets = rest }) e,
        )

    redeem_by : (k : ℕ) (s : Seat) (ticket : TicketView) (rest : List TicketView) (a : Result (Redeemed ParcelsView) NotOut)
        → slice_get r.seats k ≡ Some s → redeemed_for r.book.batches ticket ≡ a → in_run h (redeemed_by k r s ticket rest a) ≤ in_run h r
    redeem_by k s ticket rest (Ok (given.Released receipt parcels)) e is = omega (arith, released_keeps k s ticket rest receipt parcels e is)
    redeem_by k s ticket rest (Ok (given.NotYet again)) e is = omega arith
    redeem_by k s ticket rest (Ok given.Void) e is =
        let q = r.book.batches in
        omega (
          arith,
          spent_most (are_acknowledged q.queue ticket.first ticket.end || q.halted) ticket q,
          total-set (in_seat h) r.seats k s (record s { tickets = rest }) e,
        )
    redeem_by k s ticket rest (Err error) e is = omega (arith, seat_keeps k s (record s { tickets = rest }) e refl)

    redeem_of : (k : ℕ) (s : Seat) (held : List TicketView) → slice_get r.seats k ≡ Some s → in_run h (redeemed_of k r s held) ≤ in_run h r
    redeem_of k s [] e = omega arith
    redeem_of k s (ticket ∷ rest) e = redeem_by k s ticket rest (redeemed_for r.book.batches ticket) e refl

    pub redeem_keeps : (k : ℕ) (os : Option Seat) → slice_get r.seats k ≡ os → in_run h (ticket_redeemed k r os) ≤ in_run h r
    redeem_keeps k None e = omega arith
    redeem_keeps k (Some s) e = redeem_of k s s.tickets e

    -- the first parcel of an outbox leaves
    sent_keeps : (w : WorkerView) (p : Released) (rest : List Released) → w.outbox ≡ p ∷ rest → in_worker h (after_sending w) + h p.kid ≡ in_worker h w
    sent_keeps w p rest e = omega (arith, ap (in_parcels h) e, ap (λ (ps : List Released). in_parcels h (drop 1 ps)) e)

    mail_keeps : (k : ℕ) (s : Seat) (p : Released) (rest : List Released) (to : ℕ) (box : Option (List Released))
        → slice_get r.seats k ≡ Some s → slice_get r.mailboxes to ≡ box → s.worker.outbox ≡ p ∷ rest → in_run h (mailed k r s p to box) ≡ in_run h r
    mail_keeps k s p rest to None e eb is = refl
    mail_keeps k s p rest to (Some box) e eb is =
        elim (nat_lt (length box) MAILBOX_PLACES) as (λ v. in_run h (cond v (record r { seats = set r.seats k (record s { worker = after_sending s.worker }); mailboxes = set r.mailboxes to (box ++ p ∷ []) }) (with_seat k (record s { worker = after_return p (after_sending s.worker) }) r)) ≡ in_run h r) [
          | true ↦
              omega (
                arith,
                total-set (in_seat h) r.seats k s (record s { worker = after_sending s.worker }) e,
                total-set (in_parcels h) r.mailboxes to box (box ++ p ∷ []) eb,
                total-append (λ (p : Released). h p.kid) box (p ∷ []),
                sent_keeps s.worker p rest is,
              )
          | false ↦
              seat_keeps k s (record s { worker = after_return p (after_sending s.worker) }) e
              (omega (arith, sent_keeps s.worker p rest is))
        ]

    push_of : (k : ℕ) (s : Seat) (outbox : List Released) → slice_get r.seats k ≡ Some s → s.worker.outbox ≡ outbox → in_run h (pushed_of k r s outbox) ≡ in_run h r
    push_of k s [] e is = refl
    push_of k s (p ∷ rest) e is = let to = owner_of (length r.seats) p in mail_keeps k s p rest to (slice_get r.mailboxes to) e refl is

    pub push_keeps : (k : ℕ) (os : Option Seat) → slice_get r.seats k ≡ os → in_run h (pushed k r os) ≡ in_run h r
    push_keeps k None e = refl
    push_keeps k (Some s) e = push_of k s s.worker.outbox e refl

    pub offer_keeps : (os : Option Seat) → in_run h (offered r os) ≡ in_run h r
    offer_keeps None = refl
    offer_keeps (Some s) = refl

    pub load_keeps : (k : ℕ) (os : Option Seat) → slice_get r.seats k ≡ os → in_run h (loaded k r os) ≡ in_run h r
    load_keeps k None e = refl
    load_keeps k (Some s) e = seat_keeps k s _ e refl

    pub pull_keeps : (g : Option GroupView) → in_run h (pulled_to r g) ≡ in_run h r
    pull_keeps None = refl
    pull_keeps (Some g) = refl

    ack_by : (out : Bool) → in_run h (cond out (record r { book = after_flush r.book; flushed = None }) (record r { flushed = None })) ≡ in_run h r
    ack_by true = refl
    ack_by false = refl

    pub ack_keeps : (g : Option GroupView) → in_run h (acked_of r g) ≡ in_run h r
    ack_keeps None = refl
    ack_keeps (Some g) = ack_by (is_group_out r.book g)

    -- what goes out with a batch
    abbrev outgoing_of : Run → List Outcome → Outgoing ParcelsView
    outgoing_of r batch = record {
      first = entries_in_all r.book.batches.queue;
      end = entries_in_all r.book.batches.queue + entries_added batch;
      released = released r.book batch;
    }

    -- a commit takes the batch's successors from the worker, and puts those that the batch releases
    -- into its ticket
    pub commit_keeps : (k : ℕ) (s : Seat) → slice_get r.seats k ≡ Some s
        → in_run h (with_commit k (batch_of s.worker) s r) + in_outcomes h (batch_of s.worker)
        ≡ in_run h r + in_parcels h (released_by (length r.book.state.entries) (batch_of s.worker))
    commit_keeps k s e =
        omega (
          arith,
          batch_parts s.worker,
          numbering_keeps (length r.book.state.entries) (ranks 0 (batch_of s.worker)) (drop MAX_OUTCOMES s.worker.outcomes),
          total-set (in_seat h) r.seats k s
              (record s {
                worker = after_numbering (length r.book.state.entries) (after_batch s.worker);
                tickets = s.tickets ++ ticket_after (batch_of s.worker) r.book ∷ [];
                told = book_bound (after_commit (batch_of s.worker) r.book).state;
              }) e,
          total-append (in_ticket h) r.book.batches.tickets (Some (outgoing_of r (batch_of s.worker)) ∷ []),
        )
