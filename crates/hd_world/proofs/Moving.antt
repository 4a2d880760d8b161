-- Each move of a run keeps what is true of it.
use Rattle.std.proofs.Common.{◌≡◌, ℕ, ◌+◌, ◌<◌, ◌≤◌, nat_lt, Bool, true, false, cond, not, ◌||◌, ◌⊎◌, Option, Some, None, is_some, List, [], ◌∷◌, ◌++◌, set, drop, length, slice_get, refl, sym, ap, ◌∙◌, subst, arith, length-append}
use Rattle.std.specs.Prelude.{flat_map, option_map, Result, Ok, Err}
use Rattle.std.specs.List.{AllByRecursion}
use Rattle.std.specs.Option.{option_flatten}
use Rattle.std.proofs.lemmas.Bool.{leb-true}
use Rattle.std.proofs.lemmas.Option.{none-some, same_Some}
use Rattle.std.proofs.lemmas.List.{take-append-drop}
use Rattle.hd_base.proofs.Lists.{AllByRecursion-push, AllByRecursion-slice_get}
use Rattle.hd_task.specs.declared.task.Task.{Task}
use Rattle.hd_task.specs.declared.plan.TheConstants.{ROOT_PARENT}
use Rattle.hd_task.specs.Expansions.{lesser}
use Rattle.hd_hmax.specs.Rounds.{hmax}
use Rattle.hd_node.specs.declared.batch.Outcome.{Outcome}
use Rattle.hd_node.specs.declared.batch.TheConstants.{MAX_OUTCOMES}
use Rattle.hd_entries.specs.declared.refusal.Refusal.{Refusal}
use Rattle.hd_entries.specs.declared.refusal.Refusal.TheVariants.{SettledBefore, Full}
use Rattle.hd_entries.specs.Settling.{BookState, IsBookKept, IsOutcomeOfTask, entry_of, first_refusal, all_settled}
use Rattle.hd_entries.specs.Holding.{Released}
use Rattle.hd_entries.specs.Refusing as entries
use Rattle.hd_entries.proofs.Accepting.{all_entries, accepted_kept}
use Rattle.hd_book.specs.declared.not_out.NotOut.{NotOut}
use Rattle.hd_book.specs.declared.outgoing.Outgoing.{Outgoing}
use Rattle.hd_book.specs.declared.redeemed.Redeemed.{Redeemed}
use Rattle.hd_book.specs.declared.redeemed.Redeemed.TheVariants as given
use Rattle.hd_book.specs.Batches.{TicketView, ReceiptView, Batches, is_its}
use Rattle.hd_book.specs.Queue.{are_acknowledged}
use Rattle.hd_book.specs.TicketRedeeming.{given_for, answer_for, redeemed_for}
use Rattle.hd_book.specs.Slots.{ticket_at}
use Rattle.hd_book.specs.TicketSteps as tickets
use Rattle.hd_journal.specs.Group.{GroupView}
use Rattle.hd_book.specs.declared.refusal.CommitRefusal.{CommitRefusal}
use Rattle.hd_book.specs.declared.refusal.CommitRefusal.TheVariants.{Halted, Refused}
use Rattle.hd_entries.specs.Releasing.{ParcelsView}
use Rattle.hd_book.specs.View.{BookView, entries_view}
use Rattle.hd_book.specs.Groups.{next_group, is_group_out}
use Rattle.hd_book.specs.Refusing.{commit_refusal_to}
use Rattle.hd_book.specs.Steps.{entries_added, ticket_after, after_flush}
use Rattle.hd_turns.specs.Worker.{WorkerView}
use Rattle.hd_turns.specs.Calls.{with_parcel, Expands, batch_of, after_batch, after_numbering, after_releasing, after_sending, after_return, after_seeing}
use Rattle.hd_turns.specs.Growth.{Grows}
use Rattle.hd_turns.specs.Truth.{IsTrueParcel, AreRight, IsAtLeast, IsTrueWorker}
use Rattle.hd_turns.proofs.Lists.{AllByRecursion-weaker}
use Rattle.hd_turns.proofs.Growing.{seen_stays}
use Rattle.hd_turns.proofs.Numbering.{all_of_task, split_right}
use Rattle.hd_turns.proofs.Turning.{expands_true, taken_true, released_true, sent_true, returned_true, seen_true, admissible, commit_grows, commit_releases, committed_true}
use Rattle.hd_world.specs.declared.moves.Move.{Move}
use Rattle.hd_world.specs.declared.moves.Move.TheVariants as moves
use Rattle.hd_desk.specs.declared.mail.TheConstants.{MAILBOX_PLACES}
use Rattle.hd_world.specs.Seats.{Seat, Run}
use Rattle.hd_world.specs.Moves.{with_seat, book_bound, popped, taken_by, hand_taken, Expanded, may_commit, with_commit, with_drop, is_dropped, committed_by, committed, redeemed_by, redeemed_of, ticket_redeemed, mailed, pushed_of, pushed, owner_of, offered, loaded, pulled_to, acked_of, TurnsTo}
use Rattle.hd_world.specs.Truth.{IfTrueOf, IsTrueOut, IsTrueSeat, IsTrueRun}
use Rattle.hd_world.proofs.Lists.{AllByRecursion-set}
use Rattle.hd_world.proofs.Staying.{seat_stays, box_stays, out_stays}

-- ---- bounds

pub bound_itself : (bound : Option ℕ) → IsAtLeast bound bound
bound_itself None = tt
bound_itself (Some c) = (c, refl, omega arith)

lesser_seen : (a c bound : Option ℕ) → IsAtLeast a bound → IsAtLeast c bound → IsAtLeast (lesser a c) bound
lesser_seen None c bound x y = y
lesser_seen (Some a) None bound x y = x
lesser_seen (Some a) (Some c) bound x y =
    let same : x.0 ≡ y.0 = same_Some x.0 y.0 (sym x.1 ∙ y.1) in
    (x.0, x.1, omega (arith, x.2, y.2))

-- ---- why a batch is refused

-- a batch is refused for nothing
pub record IsFree (b : BookView) (batch : List Outcome) : Type 0 where
  pub running : b.batches.halted ≡ false
  pub room : length b.state.entries + entries_added batch ≤ b.most
  pub free : first_refusal b.state [] batch ≡ None

free_by : (b : BookView) (batch : List Outcome) (halted room : Bool) (why : Option Refusal)
    → b.batches.halted ≡ halted → entries.has_room (entries_view b) batch ≡ room → first_refusal b.state [] batch ≡ why
    → cond halted (Some Halted) (option_map Refused (cond (not room) (Some Full) why)) ≡ None → IsFree b batch
free_by b batch true room why h r w e = absurd (none-some Halted (sym e))
free_by b batch false false why h r w e = absurd (none-some (Refused Full) (sym e))
free_by b batch false true (Some x) h r w e = absurd (none-some (Refused x) (sym e))
free_by b batch false true None h r w e = record { running = h; room = leb-true (length b.state.entries + entries_added batch) b.most r; free = w }

pub is_free : (b : BookView) (batch : List Outcome) → commit_refusal_to b batch ≡ None → IsFree b batch
is_free b batch e = free_by b batch b.batches.halted (entries.has_room (entries_view b) batch) (first_refusal b.state [] batch) refl refl refl e

-- ---- tickets

-- a ticket that is redeemed for parcels: they are those of what is out with its number
pub record IsReleasedBy (b : Batches ParcelsView) (k : TicketView) (parcels : ParcelsView) : Type 0 where
  pub out : Outgoing ParcelsView
  pub there : ticket_at b.tickets k.number ≡ Some out
  pub its : is_its k (Some out) ≡ true
  pub parcels_are : out.released ≡ parcels
  pub free : are_acknowledged b.queue k.first k.end ≡ true

given_is : (b : Batches ParcelsView) (k : TicketView) (o : Outgoing ParcelsView) (receipt : ReceiptView) (parcels : ParcelsView) (acknowledged halted : Bool)
    → ticket_at b.tickets k.number ≡ Some o → is_its k (Some o) ≡ true → are_acknowledged b.queue k.first k.end ≡ acknowledged
    → cond {A = Redeemed ParcelsView} acknowledged (given.Released (record { first = k.first; end = k.end }) o.released) (cond halted given.Void (given.NotYet k))
    ≡ given.Released receipt parcels → IsReleasedBy b k parcels
given_is b k o receipt parcels true halted at its free e = record { out = o; there = at; its = its; parcels_are = cc; free = free }
given_is b k o receipt parcels false true at its free e = absurd (cc)
given_is b k o receipt parcels false false at its free e = absurd (cc)

answered : (b : Batches ParcelsView) (k : TicketView) (slot : Option (Outgoing ParcelsView)) (receipt : ReceiptView) (parcels : ParcelsView)
    → ticket_at b.tickets k.number ≡ slot → answer_for b k slot ≡ Ok (given.Released receipt parcels) → IsReleasedBy b k parcels
answered b k None receipt parcels at e = absurd (cc)
answered b k (Some o) receipt parcels at e =
    elim (is_its k (Some o)) as (λ y. is_its k (Some o) ≡ y → cond {A = Result (Redeemed ParcelsView) NotOut} y (Ok (given_for b k o.released)) (Err (record {})) ≡ Ok (given.Released receipt parcels) → IsReleasedBy b k parcels) [
      | true ↦ λ its e.
          given_is b k o receipt parcels (are_acknowledged b.queue k.first k.end) b.halted at its refl (let same : given_for b k o.released ≡ given.Released receipt parcels = cc in same)
      | false ↦ λ _ e. absurd (cc)
    ] refl e

pub released_by_ticket : (b : Batches ParcelsView) (k : TicketView) (receipt : ReceiptView) (parcels : ParcelsView)
    → redeemed_for b k ≡ Ok (given.Released receipt parcels) → IsReleasedBy b k parcels
released_by_ticket b k receipt parcels e = answered b k (ticket_at b.tickets k.number) receipt parcels refl e

-- the slot of a ticket that is out
pub slot_of : (tickets : List (Option (Outgoing ParcelsView))) (n : ℕ) (o : Outgoing ParcelsView) → ticket_at tickets n ≡ Some o → slice_get tickets n ≡ Some (Some o)
slot_of tickets n o e =
    elim (slice_get tickets n) as (λ slot. option_flatten slot ≡ Some o → slot ≡ Some (Some o)) [
      | None ↦ λ e. absurd (none-some o e)
      | Some slot ↦ λ e. ap (λ x. Some x) e
    ] e

-- what a redemption leaves of the tickets is true
spent_true : (b : BookState) (q : Batches ParcelsView) (k : TicketView) (free : Bool)
    → AllByRecursion (IsTrueOut b) q.tickets → AllByRecursion (IsTrueOut b) (cond free (tickets.without k.number q) q).tickets
spent_true b q k true all = AllByRecursion-set (IsTrueOut b) q.tickets k.number None all tt
spent_true b q k false all = all

-- ---- a commit

-- a worker's next batch is right
pub batch_right : (b : BookState) (w : WorkerView) → IsTrueWorker b w → AreRight b [] (batch_of w)
batch_right b w x =
    (split_right b [] (batch_of w) (drop MAX_OUTCOMES w.outcomes) (subst (AreRight b []) (sym (take-append-drop MAX_OUTCOMES w.outcomes)) x.outcomes)).0

-- it is of the book's task
pub batch_of_task : (b : BookState) (w : WorkerView) → IsTrueWorker b w → AllByRecursion (IsOutcomeOfTask b.task) (batch_of w)
batch_of_task b w x = all_of_task b [] (batch_of w) (batch_right b w x)

module _ (t : Task) (r : Run) (x : IsTrueRun t r) (k : ℕ) (s : Seat) (at : slice_get r.seats k ≡ Some s) (free : IsFree r.book (batch_of s.worker)) where
  abbrev b : BookState
  b = r.book.state

  abbrev batch : List Outcome
  batch = batch_of s.worker

  abbrev b' : BookState
  b' = all_settled b batch

  its : IsTrueSeat b s
  its = AllByRecursion-slice_get (IsTrueSeat b) r.seats k s x.seats at

  pub commit_room : length b'.entries < ROOT_PARENT
  commit_room = omega (arith, free.room, x.numbered, ap length (all_entries batch b), length-append b.entries (flat_map entry_of batch))

  pub commit_grown : Grows b b'
  commit_grown = commit_grows b s.worker its.worker x.kept free.free commit_room

  seat_after : IsTrueSeat b' (record s {
    worker = after_numbering (length b.entries) (after_batch s.worker);
    tickets = s.tickets ++ ticket_after batch r.book ∷ [];
    told = book_bound b';
  })
  seat_after = record {
    worker = committed_true b s.worker its.worker x.kept free.free commit_room;
    hand = (seat_stays b b' commit_grown s its).hand;
    told = bound_itself (book_bound b');
  }

  pub commit_kept : IsBookKept b'
  commit_kept = accepted_kept b batch x.kept (batch_of_task b s.worker its.worker) free.free commit_room

  pub commit_true : IsTrueRun t (with_commit k batch s r)
  commit_true = record {
    of_task = commit_grown.same_task ∙ x.of_task;
    kept = commit_kept;
    numbered = x.numbered;
    seats =
        AllByRecursion-set (IsTrueSeat b') r.seats k _
        (AllByRecursion-weaker (IsTrueSeat b) (IsTrueSeat b') (seat_stays b b' commit_grown) r.seats x.seats) seat_after;
    mailboxes =
        AllByRecursion-weaker (AllByRecursion (IsTrueParcel b)) (AllByRecursion (IsTrueParcel b')) (box_stays b b' commit_grown) r.mailboxes x.mailboxes;
    tickets =
        AllByRecursion-push (IsTrueOut b') r.book.batches.tickets _
        (AllByRecursion-weaker (IsTrueOut b) (IsTrueOut b') (out_stays b b' commit_grown) r.book.batches.tickets x.tickets)
        (commit_releases b s.worker its.worker x.kept free.free commit_room);
    bound = seen_stays b b' commit_grown r.bound x.bound;
  }

-- ---- the other moves

module _ (t : Task) (r : Run) (x : IsTrueRun t r) where
  abbrev now : BookState
  now = r.book.state

  seat_at : (k : ℕ) (s : Seat) → slice_get r.seats k ≡ Some s → IsTrueSeat now s
  seat_at k s e = AllByRecursion-slice_get (IsTrueSeat now) r.seats k s x.seats e

  -- one seat is replaced
  with_seat_true : (k : ℕ) (s : Seat) → IsTrueSeat now s → IsTrueRun t (with_seat k s r)
  with_seat_true k s y = record {
    of_task = x.of_task;
    kept = x.kept;
    numbered = x.numbered;
    seats = AllByRecursion-set (IsTrueSeat now) r.seats k s x.seats y;
    mailboxes = x.mailboxes;
    tickets = x.tickets;
    bound = x.bound;
  }

  -- a seat and a mailbox are replaced
  with_both_true : (k to : ℕ) (s : Seat) (box : List Released) → IsTrueSeat now s → AllByRecursion (IsTrueParcel now) box
      → IsTrueRun t (record r { seats = set r.seats k s; mailboxes = set r.mailboxes to box })
  with_both_true k to s box y all = record {
    of_task = x.of_task;
    kept = x.kept;
    numbered = x.numbered;
    seats = AllByRecursion-set (IsTrueSeat now) r.seats k s x.seats y;
    mailboxes = AllByRecursion-set (AllByRecursion (IsTrueParcel now)) r.mailboxes to box x.mailboxes all;
    tickets = x.tickets;
    bound = x.bound;
  }

  pop_true : (k : ℕ) (os : Option Seat) (box : Option (List Released)) → slice_get r.seats k ≡ os → slice_get r.mailboxes k ≡ box → IsTrueRun t (popped k r os box)
  pop_true k None box es eb = x
  pop_true k (Some s) None es eb = x
  pop_true k (Some s) (Some []) es eb = x
  pop_true k (Some s) (Some (p ∷ rest)) es eb =
      let its = seat_at k s es in
      let all = AllByRecursion-slice_get (AllByRecursion (IsTrueParcel now)) r.mailboxes k (p ∷ rest) x.mailboxes eb in
      elim (is_some s.hand) as (λ y. IsTrueRun t (cond y r (record r { seats = set r.seats k (record s { hand = Some p }); mailboxes = set r.mailboxes k rest }))) [
        | true ↦ x
        | false ↦ with_both_true k k (record s { hand = Some p }) rest (record { worker = its.worker; hand = all.0; told = its.told }) all.1
      ]

  take_by : (k : ℕ) (s : Seat) (hand : Option Released) → IsTrueSeat now s → IfTrueOf now hand → IsTrueRun t (taken_by k r s hand)
  take_by k s None y h = x
  take_by k s (Some p) y h =
      with_seat_true k (record s { worker = with_parcel p s.worker; hand = None })
      (record { worker = taken_true now s.worker y.worker p h; hand = tt; told = y.told })

  take_true : (k : ℕ) (os : Option Seat) → slice_get r.seats k ≡ os → IsTrueRun t (hand_taken k r os)
  take_true k None e = x
  take_true k (Some s) e = let y = seat_at k s e in take_by k s s.hand y y.hand

  expand_true : (k place : ℕ) (os : Option Seat) (r' : Run) → slice_get r.seats k ≡ os → Expanded t k place r os r' → IsTrueRun t r'
  expand_true k place None r' e m = subst (IsTrueRun t) (sym m) x
  expand_true k place (Some s) r' e m =
      let y = seat_at k s e in
      let own : Expands now.task (hmax now.task) place s.worker m.0 = subst (λ u. Expands u (hmax u) place s.worker m.0) (sym x.of_task) m.1 in
      subst (IsTrueRun t) (sym m.2)
      (with_seat_true k (record s { worker = m.0 })
      (record { worker = expands_true now (hmax now.task) place s.worker m.0 y.worker own; hand = y.hand; told = y.told }))

  redeem_by : (k : ℕ) (s : Seat) (ticket : TicketView) (rest : List TicketView) (a : Result (Redeemed ParcelsView) NotOut)
      → slice_get r.seats k ≡ Some s → redeemed_for r.book.batches ticket ≡ a → IsTrueRun t (redeemed_by k r s ticket rest a)
  redeem_by k s ticket rest (Ok (given.Released receipt parcels)) e is =
      let y = seat_at k s e in
      let k' = released_by_ticket r.book.batches ticket receipt parcels is in
      let all : AllByRecursion (IsTrueParcel now) k'.out.released.kids =
      AllByRecursion-slice_get (IsTrueOut now) r.book.batches.tickets ticket.number (Some k'.out) x.tickets (slot_of r.book.batches.tickets ticket.number k'.out k'.there)
      in
      let these : AllByRecursion (IsTrueParcel now) parcels.kids = subst (λ (v : ParcelsView). AllByRecursion (IsTrueParcel now) v.kids) k'.parcels_are all in
      record {
        of_task = x.of_task;
        kept = x.kept;
        numbered = x.numbered;
        seats =
            AllByRecursion-set (IsTrueSeat now) r.seats k (record s { worker = after_releasing parcels.kids s.worker; tickets = rest }) x.seats
            (record { worker = released_true now s.worker y.worker parcels.kids these; hand = y.hand; told = y.told });
        mailboxes = x.mailboxes;
        tickets = spent_true now r.book.batches ticket (are_acknowledged r.book.batches.queue ticket.first ticket.end || r.book.batches.halted) x.tickets;
        bound = x.bound;
      }
  redeem_by k s ticket rest (Ok (given.NotYet again)) e is = x
  redeem_by k s ticket rest (Ok given.Void) e is =
      let y = seat_at k s e in
      record {
        of_task = x.of_task;
        kept = x.kept;
        numbered = x.numbered;
        seats = AllByRecursion-set (IsTrueSeat now) r.seats k (record s { tickets = rest }) x.seats (record { worker = y.worker; hand = y.hand; told = y.told });
        mailboxes = x.mailboxes;
        tickets = spent_true now r.book.batches ticket (are_acknowledged r.book.batches.queue ticket.first ticket.end || r.book.batches.halted) x.tickets;
        bound = x.bound;
      }
  redeem_by k s ticket rest (Err error) e is =
      let y = seat_at k s e in
      with_seat_true k (record s { tickets = rest }) (record { worker = y.worker; hand = y.hand; told = y.told })

  redeem_of : (k : ℕ) (s : Seat) (held : List TicketView) → slice_get r.seats k ≡ Some s → IsTrueRun t (redeemed_of k r s held)
  redeem_of k s [] e = x
  redeem_of k s (ticket ∷ rest) e = redeem_by k s ticket rest (redeemed_for r.book.batches ticket) e refl

  redeem_true : (k : ℕ) (os : Option Seat) → slice_get r.seats k ≡ os → IsTrueRun t (ticket_redeemed k r os)
  redeem_true k None e = x
  redeem_true k (Some s) e = redeem_of k s s.tickets e

  mail_true : (k : ℕ) (s : Seat) (p : Released) (to : ℕ) (box : Option (List Released))
      → slice_get r.seats k ≡ Some s → slice_get r.mailboxes to ≡ box → IsTrueParcel now p → IsTrueRun t (mailed k r s p to box)
  mail_true k s p to None e eb true_p = x
  mail_true k s p to (Some box) e eb true_p =
      let y = seat_at k s e in
      let sent = sent_true now s.worker y.worker in
      let all = AllByRecursion-slice_get (AllByRecursion (IsTrueParcel now)) r.mailboxes to box x.mailboxes eb in
      elim (nat_lt (length box) MAILBOX_PLACES) as (λ v. IsTrueRun t (cond v (record r { seats = set r.seats k (record s { worker = after_sending s.worker }); mailboxes = set r.mailboxes to (box ++ p ∷ []) }) (with_seat k (record s { worker = after_return p (after_sending s.worker) }) r))) [
        | true ↦
            with_both_true k to (record s { worker = after_sending s.worker }) (box ++ p ∷ []) (record { worker = sent; hand = y.hand; told = y.told })
            (AllByRecursion-push (IsTrueParcel now) box p all true_p)
        | false ↦
            with_seat_true k (record s { worker = after_return p (after_sending s.worker) })
            (record { worker = returned_true now (after_sending s.worker) sent p true_p; hand = y.hand; told = y.told })
      ]

  push_of : (k : ℕ) (s : Seat) (outbox : List Released) → slice_get r.seats k ≡ Some s → AllByRecursion (IsTrueParcel now) outbox → IsTrueRun t (pushed_of k r s outbox)
  push_of k s [] e all = x
  push_of k s (p ∷ rest) e all = let to = owner_of (length r.seats) p in mail_true k s p to (slice_get r.mailboxes to) e refl all.0

  push_true : (k : ℕ) (os : Option Seat) → slice_get r.seats k ≡ os → IsTrueRun t (pushed k r os)
  push_true k None e = x
  push_true k (Some s) e = push_of k s s.worker.outbox e (seat_at k s e).worker.outbox

  offer_true : (k : ℕ) (os : Option Seat) → slice_get r.seats k ≡ os → IsTrueRun t (offered r os)
  offer_true k None e = x
  offer_true k (Some s) e = record {
    of_task = x.of_task;
    kept = x.kept;
    numbered = x.numbered;
    seats = x.seats;
    mailboxes = x.mailboxes;
    tickets = x.tickets;
    bound = lesser_seen s.told r.bound (book_bound now) (seat_at k s e).told x.bound;
  }

  load_true : (k : ℕ) (os : Option Seat) → slice_get r.seats k ≡ os → IsTrueRun t (loaded k r os)
  load_true k None e = x
  load_true k (Some s) e =
      let y = seat_at k s e in
      with_seat_true k (record s { worker = after_seeing r.bound s.worker })
      (record { worker = seen_true now s.worker y.worker r.bound x.bound; hand = y.hand; told = y.told })

  pull_to : (g : Option GroupView) → IsTrueRun t (pulled_to r g)
  pull_to None = x
  pull_to (Some g) = record {
    of_task = x.of_task;
    kept = x.kept;
    numbered = x.numbered;
    seats = x.seats;
    mailboxes = x.mailboxes;
    tickets = x.tickets;
    bound = x.bound;
  }

  ack_by : (g : GroupView) (out : Bool) → IsTrueRun t (cond out (record r { book = after_flush r.book; flushed = None }) (record r { flushed = None }))
  ack_by g true = record { of_task = x.of_task; kept = x.kept; numbered = x.numbered; seats = x.seats; mailboxes = x.mailboxes; tickets = x.tickets; bound = x.bound }
  ack_by g false = record { of_task = x.of_task; kept = x.kept; numbered = x.numbered; seats = x.seats; mailboxes = x.mailboxes; tickets = x.tickets; bound = x.bound }

  ack_of : (g : Option GroupView) → IsTrueRun t (acked_of r g)
  ack_of None = x
  ack_of (Some g) = ack_by g (is_group_out r.book g)

  -- a worker's batch is refused for nothing but that a successor of it is settled
  pub batch_admissible : (k : ℕ) (s : Seat) → slice_get r.seats k ≡ Some s
      → (first_refusal now [] (batch_of s.worker) ≡ None) ⊎ (first_refusal now [] (batch_of s.worker) ≡ Some SettledBefore)
  batch_admissible k s e = admissible now s.worker (seat_at k s e).worker

  commit_by : (k : ℕ) (s : Seat) (why : Option CommitRefusal) (r' : Run) → slice_get r.seats k ≡ Some s → commit_refusal_to r.book (batch_of s.worker) ≡ why
      → ((c : CommitRefusal) → why ≡ Some c → is_dropped c ≡ false) → committed_by k r s why ≡ Some r' → IsTrueRun t r'
  commit_by k s None r' e w kind m = subst (IsTrueRun t) (same_Some (with_commit k (batch_of s.worker) s r) r' m) (commit_true t r x k s e (is_free r.book (batch_of s.worker) w))
  commit_by k s (Some c) r' e w kind m =
      absurd (none-some r' (sym (ap (λ y. cond {A = Option Run} y (Some (with_drop k s r)) None) (kind c refl)) ∙ m))

  commit_of : (k : ℕ) (os : Option Seat) (r' : Run) → slice_get r.seats k ≡ os
      → ((s : Seat) (c : CommitRefusal) → os ≡ Some s → commit_refusal_to r.book (batch_of s.worker) ≡ Some c → is_dropped c ≡ false)
      → committed k r os ≡ Some r' → IsTrueRun t r'
  commit_of k None r' e kind m = subst (IsTrueRun t) (same_Some r r' m) x
  commit_of k (Some s) r' e kind m =
      elim (may_commit s) as (λ y. cond {A = Option Run} y (committed_by k r s (commit_refusal_to r.book (batch_of s.worker))) (Some r) ≡ Some r' → IsTrueRun t r') [
        | true ↦ λ m. commit_by k s (commit_refusal_to r.book (batch_of s.worker)) r' e refl (λ c is. kind s c refl is) m
        | false ↦ λ m. subst (IsTrueRun t) (same_Some r r' m) x
      ] m

  -- each move, where no batch is dropped
  pub turns_true : (m : Move) (r' : Run)
      → ((k : ℕ) (s : Seat) (c : CommitRefusal) → slice_get r.seats k ≡ Some s → commit_refusal_to r.book (batch_of s.worker) ≡ Some c → is_dropped c ≡ false)
      → TurnsTo t r m r' → IsTrueRun t r'
  turns_true (moves.Resume workers stop) r' kind m = subst (IsTrueRun t) (sym m) x
  turns_true (moves.Pop k) r' kind m = subst (IsTrueRun t) (sym m) (pop_true k (slice_get r.seats k) (slice_get r.mailboxes k) refl refl)
  turns_true (moves.Take k) r' kind m = subst (IsTrueRun t) (sym m) (take_true k (slice_get r.seats k) refl)
  turns_true (moves.Expand k place) r' kind m = expand_true k place (slice_get r.seats k) r' refl m
  turns_true (moves.Commit k) r' kind m = commit_of k (slice_get r.seats k) r' refl (λ s c e w. kind k s c e w) m
  turns_true (moves.Redeem k) r' kind m = subst (IsTrueRun t) (sym m) (redeem_true k (slice_get r.seats k) refl)
  turns_true (moves.Push k) r' kind m = subst (IsTrueRun t) (sym m) (push_true k (slice_get r.seats k) refl)
  turns_true (moves.Offer k) r' kind m = subst (IsTrueRun t) (sym m) (offer_true k (slice_get r.seats k) refl)
  turns_true (moves.Load k) r' kind m = subst (IsTrueRun t) (sym m) (load_true k (slice_get r.seats k) refl)
  turns_true moves.Pull r' kind m = subst (IsTrueRun t) (sym m) (pull_to (next_group r.book))
  turns_true moves.Flush r' kind m = subst (IsTrueRun t) (sym m) x
  turns_true moves.Ack r' kind m = subst (IsTrueRun t) (sym m) (ack_of r.flushed)
  turns_true (moves.Stop stop) r' kind m = subst (IsTrueRun t) (sym m) x
