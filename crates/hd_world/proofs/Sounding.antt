-- A run is sound right after a resumption, and stays so over each move.
use Rattle.std.proofs.Common.{◌≡◌, ◌<◌, ◌≤◌, ℕ, ◌+◌, ◌||◌, Bool, true, false, cond, Option, Some, None, List, [], ◌∷◌, ◌++◌, length, slice_get, refl, sym, subst, arith}
use Rattle.std.specs.Prelude.{flat_map, option_map, Result, Ok, Err}
use Rattle.std.specs.List.{AllByRecursion}
use Rattle.std.specs.declared.ops.Range.{Range}
use Rattle.std.proofs.lemmas.Option.{none-some, same_Some}
use Rattle.std.proofs.lemmas.List.{length-take}
use Rattle.hd_task.specs.declared.task.Task.{Task}
use Rattle.hd_task.specs.declared.plan.Kid.{Kid}
use Rattle.hd_task.specs.declared.plan.TheConstants.{ROOT_PARENT}
use Rattle.hd_node.specs.declared.batch.Outcome.{Outcome}
use Rattle.hd_node.specs.declared.batch.Outcome.TheVariants.{Expanded, Duplicate, Bounded}
use Rattle.hd_node.specs.declared.batch.TheConstants.{MAX_OUTCOMES}
use Rattle.hd_image.specs.declared.version.Version.{Version}
use Rattle.hd_image.specs.declared.version.Version.TheVariants.{One, Two}
use Rattle.hd_image.specs.Image.{IsGroup, most_of}
use Rattle.hd_journal.specs.Group.{GroupView}
use Rattle.hd_entries.specs.Settling.{entry_of, IsBookKept}
use Rattle.hd_entries.specs.Resuming.{first_fault, resumed_state}
use Rattle.hd_entries.proofs.Accepting.{all_entries}
use Rattle.hd_entries.proofs.Again.{nothing_kept}
use Rattle.hd_entries.proofs.Faultless.{kept_from}
use Rattle.hd_book.specs.declared.not_out.NotOut.{NotOut}
use Rattle.hd_book.specs.declared.queue.TheConstants.{MAX_GROUP}
use Rattle.hd_book.specs.declared.redeemed.Redeemed.{Redeemed}
use Rattle.hd_book.specs.declared.redeemed.Redeemed.TheVariants as given
use Rattle.hd_book.specs.Batches.{TicketView}
use Rattle.hd_book.specs.Queue.{QueueView, are_acknowledged, group_next, with_batch}
use Rattle.hd_book.specs.TicketRedeeming.{redeemed_for}
use Rattle.hd_book.specs.TicketSteps as steps
use Rattle.hd_book.specs.declared.refusal.CommitRefusal.{CommitRefusal}
use Rattle.hd_entries.specs.Releasing.{ParcelsView}
use Rattle.hd_book.specs.View.{BookView}
use Rattle.hd_book.specs.Groups.{group_of, next_group, is_group_out}
use Rattle.hd_book.specs.Refusing.{commit_refusal_to}
use Rattle.hd_book.specs.Steps.{entries_added, released, after_commit, ticket_after, after_flush}
use Rattle.hd_turns.specs.Calls.{batch_of, after_batch, after_numbering}
use Rattle.hd_world.specs.declared.moves.Move.{Move}
use Rattle.hd_world.specs.declared.moves.Move.TheVariants as moves
use Rattle.hd_world.specs.Seats.{Seat, Run}
use Rattle.hd_world.specs.Moves.{book_bound, popped, hand_taken, redeemed_by, redeemed_of, ticket_redeemed, pushed, offered, loaded, pulled_to, pulled, acked_of, may_commit, with_commit, with_drop, is_dropped, committed_by, committed, TurnsTo}
use Rattle.hd_world.specs.Starting.{run_after}
use Rattle.hd_world.specs.Stops.{File, journal_entries, with_appended}
use Rattle.hd_world.specs.Order.{AreTicketsOut, AgreesWithJournal, InOrder}
use Rattle.hd_world.specs.Sound.{IsSound}
use Rattle.hd_world.proofs.Moving.{IsFree, is_free}
use Rattle.hd_world.proofs.Quiet.{IsQuiet, pop_quiet, take_quiet, expand_quiet, push_quiet, offer_quiet, load_quiet}
use Rattle.hd_world.proofs.Tickets.{quiet_tickets, tickets_by, seat_tickets, with_ticket, redeem_tickets}
use Rattle.hd_world.proofs.Rooms.{turns_stay_roomy}
use Rattle.hd_world.proofs.Ordering.{commit_orderly, pull_orderly, IsReady, ready, is_pulled, is_acked}
use Rattle.hd_world.proofs.Writing.{kept_writable}
use Rattle.hd_world.proofs.Going.{turns_stay_true, turns_stay_once}
use Rattle.hd_world.proofs.Beginning.{starts_true, starts_once, starts_out, starts_roomy, starts_in_order}

-- ---- after a resumption

pub most_numbered : (v : Version) → most_of v < ROOT_PARENT
most_numbered One = omega arith
most_numbered Two = omega arith

pub starts_sound : (t : Task) (f : File) (workers : ℕ) → AllByRecursion (IsGroup f.version) f.groups → first_fault t [] (journal_entries f) ≡ None → length (journal_entries f) ≤ most_of f.version
    → IsSound t f (run_after t (most_of f.version) workers (journal_entries f))
starts_sound t f workers sound faultless few =
    let entries = journal_entries f in
    let none : List Kid = [] in
    let short : length none + length entries < ROOT_PARENT = omega (arith, few, most_numbered f.version) in
    let kept : IsBookKept (resumed_state t entries) = kept_from t entries none (nothing_kept t) short faultless in
    record {
      truth = starts_true t entries kept (most_of f.version) workers (most_numbered f.version);
      once = starts_once t entries kept (most_of f.version) workers;
      tickets = starts_out t entries kept (most_of f.version) workers;
      rooms = starts_roomy t entries kept (most_of f.version) workers;
      order = starts_in_order t f workers sound few;
    }

-- ---- tickets

-- a batch has few entries
entries_few : (outcomes : List Outcome) → entries_added outcomes ≤ length outcomes
entries_few [] = omega arith
entries_few (Expanded e ∷ outcomes) = omega (arith, entries_few outcomes)
entries_few (Duplicate k by ∷ outcomes) = omega (arith, entries_few outcomes)
entries_few (Bounded k h ∷ outcomes) = omega (arith, entries_few outcomes)

module _ (t : Task) (r : Run) (x : AreTicketsOut r) where
  commit_tickets : (k : ℕ) (s : Seat) → slice_get r.seats k ≡ Some s → AreTicketsOut (with_commit k (batch_of s.worker) s r)
  commit_tickets k s e =
      with_ticket r x k (entries_added (batch_of s.worker)) (released r.book (batch_of s.worker)) s (with_commit k (batch_of s.worker) s r)
      (record s {
        worker = after_numbering (length r.book.state.entries) (after_batch s.worker);
        tickets = s.tickets ++ ticket_after (batch_of s.worker) r.book ∷ [];
        told = book_bound (after_commit (batch_of s.worker) r.book).state;
      }) e refl refl refl

  drop_tickets : (k : ℕ) (s : Seat) → slice_get r.seats k ≡ Some s → AreTicketsOut (with_drop k s r)
  drop_tickets k s e = seat_tickets r x k s (record s { worker = after_numbering ROOT_PARENT (after_batch s.worker) }) e refl

  commit_by : (k : ℕ) (s : Seat) (why : Option CommitRefusal) (r' : Run) → slice_get r.seats k ≡ Some s → committed_by k r s why ≡ Some r' → AreTicketsOut r'
  commit_by k s None r' e m = subst AreTicketsOut (same_Some (with_commit k (batch_of s.worker) s r) r' m) (commit_tickets k s e)
  commit_by k s (Some c) r' e m =
      elim (is_dropped c) as (λ y. cond {A = Option Run} y (Some (with_drop k s r)) None ≡ Some r' → AreTicketsOut r') [
        | true ↦ λ m. subst AreTicketsOut (same_Some (with_drop k s r) r' m) (drop_tickets k s e)
        | false ↦ λ m. absurd (none-some r' m)
      ] m

  commit_of : (k : ℕ) (os : Option Seat) (r' : Run) → slice_get r.seats k ≡ os → committed k r os ≡ Some r' → AreTicketsOut r'
  commit_of k None r' e m = subst AreTicketsOut (same_Some r r' m) x
  commit_of k (Some s) r' e m =
      elim (may_commit s) as (λ y. cond {A = Option Run} y (committed_by k r s (commit_refusal_to r.book (batch_of s.worker))) (Some r) ≡ Some r' → AreTicketsOut r') [
        | true ↦ λ m. commit_by k s (commit_refusal_to r.book (batch_of s.worker)) r' e m
        | false ↦ λ m. subst AreTicketsOut (same_Some r r' m) x
      ] m

  pull_tickets : (g : Option GroupView) → AreTicketsOut (pulled_to r g)
  pull_tickets None = x
  pull_tickets (Some g) = tickets_by r (pulled_to r (Some g)) refl refl x

  ack_by : (out : Bool) → AreTicketsOut (cond out (record r { book = after_flush r.book; flushed = None }) (record r { flushed = None }))
  ack_by true = tickets_by r (record r { book = after_flush r.book; flushed = None }) refl refl x
  ack_by false = tickets_by r (record r { flushed = None }) refl refl x

  ack_tickets : (g : Option GroupView) → AreTicketsOut (acked_of r g)
  ack_tickets None = x
  ack_tickets (Some g) = ack_by (is_group_out r.book g)

  pub turns_stay_out : (m : Move) (r' : Run) → TurnsTo t r m r' → AreTicketsOut r'
  turns_stay_out (moves.Resume workers stop) r' m = subst AreTicketsOut (sym m) x
  turns_stay_out (moves.Pop k) r' m =
      let os = slice_get r.seats k in
      let box = slice_get r.mailboxes k in
      subst AreTicketsOut (sym m) (quiet_tickets r (popped k r os box) (pop_quiet r k os box refl) x)
  turns_stay_out (moves.Take k) r' m =
      let os = slice_get r.seats k in
      subst AreTicketsOut (sym m) (quiet_tickets r (hand_taken k r os) (take_quiet r k os refl) x)
  turns_stay_out (moves.Expand k place) r' m = quiet_tickets r r' (expand_quiet r t k place (slice_get r.seats k) r' refl m) x
  turns_stay_out (moves.Commit k) r' m = commit_of k (slice_get r.seats k) r' refl m
  turns_stay_out (moves.Redeem k) r' m = subst AreTicketsOut (sym m) (redeem_tickets r x k (slice_get r.seats k) refl)
  turns_stay_out (moves.Push k) r' m =
      let os = slice_get r.seats k in
      subst AreTicketsOut (sym m) (quiet_tickets r (pushed k r os) (push_quiet r k os refl) x)
  turns_stay_out (moves.Offer k) r' m =
      let os = slice_get r.seats k in
      subst AreTicketsOut (sym m) (quiet_tickets r (offered r os) (offer_quiet r os) x)
  turns_stay_out (moves.Load k) r' m =
      let os = slice_get r.seats k in
      subst AreTicketsOut (sym m) (quiet_tickets r (loaded k r os) (load_quiet r k os refl) x)
  turns_stay_out moves.Pull r' m = subst AreTicketsOut (sym m) (pull_tickets (next_group r.book))
  turns_stay_out moves.Flush r' m = subst AreTicketsOut (sym m) x
  turns_stay_out moves.Ack r' m = subst AreTicketsOut (sym m) (ack_tickets r.flushed)
  turns_stay_out (moves.Stop stop) r' m = subst AreTicketsOut (sym m) x

-- ---- order

-- the order of a run is that of its book and its groups
quiet_order : (f : File) (r r' : Run) → IsQuiet r r' → InOrder f r → InOrder f r'
quiet_order f r r' quiet x =
    subst (λ (b : BookView). AgreesWithJournal f b.state.entries b.most b.batches.queue b.batches.halted r'.group r'.flushed) (sym quiet.book)
    (subst (λ (g : Option GroupView). AgreesWithJournal f r.book.state.entries r.book.most r.book.batches.queue r.book.batches.halted g r'.flushed) (sym quiet.group)
    (subst (λ (g : Option GroupView). AgreesWithJournal f r.book.state.entries r.book.most r.book.batches.queue r.book.batches.halted r.group g) (sym quiet.flushed) x))

module _ (t : Task) (f : File) (r : Run) (x : InOrder f r) where
  abbrev entries : List Kid
  entries = r.book.state.entries

  abbrev q : QueueView
  q = r.book.batches.queue

  commit_order : (k : ℕ) (s : Seat) → IsFree r.book (batch_of s.worker) → InOrder f (with_commit k (batch_of s.worker) s r)
  commit_order k s free =
      let batch = batch_of s.worker in
      let new = flat_map entry_of batch in
      let few : length new ≤ MAX_GROUP = omega (arith, entries_few batch, length-take MAX_OUTCOMES s.worker.outcomes) in
      subst (λ (ks : List Kid). AgreesWithJournal f ks r.book.most (with_batch (entries_added batch) q) r.book.batches.halted r.group r.flushed) (sym (all_entries batch r.book.state))
      (commit_orderly f entries r.book.most q r.book.batches.halted r.group r.flushed x new few free.room)

  drop_order : (k : ℕ) (s : Seat) → InOrder f (with_drop k s r)
  drop_order k s = x

  order_by : (k : ℕ) (s : Seat) (why : Option CommitRefusal) (r' : Run) → commit_refusal_to r.book (batch_of s.worker) ≡ why → committed_by k r s why ≡ Some r' → InOrder f r'
  order_by k s None r' e m = subst (InOrder f) (same_Some (with_commit k (batch_of s.worker) s r) r' m) (commit_order k s (is_free r.book (batch_of s.worker) e))
  order_by k s (Some c) r' e m =
      elim (is_dropped c) as (λ y. cond {A = Option Run} y (Some (with_drop k s r)) None ≡ Some r' → InOrder f r') [
        | true ↦ λ m. subst (InOrder f) (same_Some (with_drop k s r) r' m) (drop_order k s)
        | false ↦ λ m. absurd (none-some r' m)
      ] m

  order_of : (k : ℕ) (os : Option Seat) (r' : Run) → committed k r os ≡ Some r' → InOrder f r'
  order_of k None r' m = subst (InOrder f) (same_Some r r' m) x
  order_of k (Some s) r' m =
      elim (may_commit s) as (λ y. cond {A = Option Run} y (committed_by k r s (commit_refusal_to r.book (batch_of s.worker))) (Some r) ≡ Some r' → InOrder f r') [
        | true ↦ λ m. order_by k s (commit_refusal_to r.book (batch_of s.worker)) r' refl m
        | false ↦ λ m. subst (InOrder f) (same_Some r r' m) x
      ] m

  -- what a redemption leaves of the batches
  spent_order : (n : ℕ) (free : Bool) → AgreesWithJournal f entries r.book.most (cond free (steps.without n r.book.batches) r.book.batches).queue (cond free (steps.without n r.book.batches) r.book.batches).halted r.group r.flushed
  spent_order n true = x
  spent_order n false = x

  redeem_by : (k : ℕ) (s : Seat) (ticket : TicketView) (rest : List TicketView) (a : Result (Redeemed ParcelsView) NotOut) → InOrder f (redeemed_by k r s ticket rest a)
  redeem_by k s ticket rest (Ok (given.Released receipt parcels)) = spent_order ticket.number (are_acknowledged q ticket.first ticket.end || r.book.batches.halted)
  redeem_by k s ticket rest (Ok (given.NotYet again)) = x
  redeem_by k s ticket rest (Ok given.Void) = spent_order ticket.number (are_acknowledged q ticket.first ticket.end || r.book.batches.halted)
  redeem_by k s ticket rest (Err error) = x

  redeem_of : (k : ℕ) (s : Seat) (held : List TicketView) → InOrder f (redeemed_of k r s held)
  redeem_of k s [] = x
  redeem_of k s (ticket ∷ rest) = redeem_by k s ticket rest (redeemed_for r.book.batches ticket)

  redeem_order : (k : ℕ) (os : Option Seat) → InOrder f (ticket_redeemed k r os)
  redeem_order k None = x
  redeem_order k (Some s) = redeem_of k s s.tickets

  pull_by : (o : Option (Range ℕ)) → group_next q ≡ o → InOrder f (pulled_to r (option_map (group_of entries) o))
  pull_by None e = x
  pull_by (Some range) e = pull_orderly f entries r.book.most q r.book.batches.halted r.group r.flushed x range e

  pull_order : InOrder f (pulled r)
  pull_order = pull_by (group_next q) refl

  ack_order : (g : Option GroupView) → r.flushed ≡ g → InOrder f (acked_of r g)
  ack_order None e = x
  ack_order (Some g) e =
      let its = is_acked f entries r.book.most q r.book.batches.halted r.group r.flushed x g e in
      subst (λ (out : Bool). InOrder f (cond out (record r { book = after_flush r.book; flushed = None }) (record r { flushed = None }))) (sym (its.0 r.book refl refl)) its.1

  pub turns_stay_ordered : (m : Move) (r' : Run) → TurnsTo t r m r' → InOrder f r'
  turns_stay_ordered (moves.Resume workers stop) r' m = subst (InOrder f) (sym m) x
  turns_stay_ordered (moves.Pop k) r' m =
      let os = slice_get r.seats k in
      let box = slice_get r.mailboxes k in
      subst (InOrder f) (sym m) (quiet_order f r (popped k r os box) (pop_quiet r k os box refl) x)
  turns_stay_ordered (moves.Take k) r' m =
      let os = slice_get r.seats k in
      subst (InOrder f) (sym m) (quiet_order f r (hand_taken k r os) (take_quiet r k os refl) x)
  turns_stay_ordered (moves.Expand k place) r' m = quiet_order f r r' (expand_quiet r t k place (slice_get r.seats k) r' refl m) x
  turns_stay_ordered (moves.Commit k) r' m = order_of k (slice_get r.seats k) r' m
  turns_stay_ordered (moves.Redeem k) r' m = subst (InOrder f) (sym m) (redeem_order k (slice_get r.seats k))
  turns_stay_ordered (moves.Push k) r' m =
      let os = slice_get r.seats k in
      subst (InOrder f) (sym m) (quiet_order f r (pushed k r os) (push_quiet r k os refl) x)
  turns_stay_ordered (moves.Offer k) r' m =
      let os = slice_get r.seats k in
      subst (InOrder f) (sym m) (quiet_order f r (offered r os) (offer_quiet r os) x)
  turns_stay_ordered (moves.Load k) r' m =
      let os = slice_get r.seats k in
      subst (InOrder f) (sym m) (quiet_order f r (loaded k r os) (load_quiet r k os refl) x)
  turns_stay_ordered moves.Pull r' m = subst (InOrder f) (sym m) pull_order
  turns_stay_ordered moves.Flush r' m = subst (InOrder f) (sym m) x
  turns_stay_ordered moves.Ack r' m = subst (InOrder f) (sym m) (ack_order r.flushed refl)
  turns_stay_ordered (moves.Stop stop) r' m = subst (InOrder f) (sym m) x

-- ---- all of it

module _ (t : Task) (f : File) (r : Run) (x : IsSound t f r) where
  pub turns_sound : (m : Move) (r' : Run) → TurnsTo t r m r' → IsSound t f r'
  turns_sound m r' moved = record {
    truth = turns_stay_true t r x.truth x.once m r' moved;
    once = turns_stay_once t r x.truth x.once m r' moved;
    tickets = turns_stay_out t r x.tickets m r' moved;
    rooms = turns_stay_roomy t r x.tickets x.rooms m r' moved;
    order = turns_stay_ordered t f r x.order m r' moved;
  }

  -- the group that was pulled
  pub group_ready : (g : GroupView) → r.group ≡ Some g
      → IsReady f r.book.state.entries r.book.most r.book.batches.queue r.book.batches.halted r.group r.flushed x.order (kept_writable r.book.state x.truth.kept) g
  group_ready g e =
      ready f r.book.state.entries r.book.most r.book.batches.queue r.book.batches.halted r.group r.flushed x.order (kept_writable r.book.state x.truth.kept) g e

  pub flush_sound : (g : GroupView) → r.group ≡ Some g → IsSound t (with_appended g.kids f) (record r { group = None; flushed = Some g })
  flush_sound g e = record {
    truth = record {
      of_task = x.truth.of_task;
      kept = x.truth.kept;
      numbered = x.truth.numbered;
      seats = x.truth.seats;
      mailboxes = x.truth.mailboxes;
      tickets = x.truth.tickets;
      bound = x.truth.bound;
    };
    once = x.once;
    tickets = tickets_by r (record r { group = None; flushed = Some g }) refl refl x.tickets;
    rooms = x.rooms;
    order = (group_ready g e).after;
  }

  pub pulled_out : (g : GroupView) → r.group ≡ Some g → is_group_out r.book g ≡ true
  pulled_out g e =
      is_pulled f r.book.state.entries r.book.most r.book.batches.queue r.book.batches.halted r.group r.flushed x.order g e r.book refl refl

  -- the group that was appended
  pub flushed_out : (g : GroupView) → r.flushed ≡ Some g → is_group_out r.book g ≡ true
  flushed_out g e =
      (is_acked f r.book.state.entries r.book.most r.book.batches.queue r.book.batches.halted r.group r.flushed x.order g e).0 r.book refl refl
