-- No move of a sound run loses a successor.
use Rattle.std.proofs.Common.{◌≡◌, ℕ, Bool, true, false, cond, Option, Some, None, List, [], ◌∷◌, slice_get, true≢false, refl, sym, ap, ◌∙◌, subst, arith}
use Rattle.std.specs.Prelude.{Result, Ok, Err}
use Rattle.std.specs.List.{AllByRecursion}
use Rattle.std.proofs.lemmas.Option.{none-some, same_Some}
use Rattle.hd_base.proofs.Lists.{AllByRecursion-slice_get}
use Rattle.hd_task.specs.declared.task.Task.{Task}
use Rattle.hd_task.specs.declared.plan.Kid.{Kid}
use Rattle.hd_book.specs.declared.not_out.NotOut.{NotOut}
use Rattle.hd_book.specs.declared.outgoing.Outgoing.{Outgoing}
use Rattle.hd_book.specs.declared.redeemed.Redeemed.{Redeemed}
use Rattle.hd_book.specs.declared.redeemed.Redeemed.TheVariants as given
use Rattle.hd_book.specs.Batches.{TicketView, Batches, is_its, is_ticket_out}
use Rattle.hd_book.specs.Queue.{are_acknowledged}
use Rattle.hd_book.specs.TicketRedeeming.{given_for, answer_for, redeemed_for}
use Rattle.hd_book.specs.Slots.{ticket_at}
use Rattle.hd_entries.specs.Settling.{BookState}
use Rattle.hd_book.specs.declared.refusal.CommitRefusal.{CommitRefusal}
use Rattle.hd_entries.specs.Releasing.{ParcelsView}
use Rattle.hd_book.specs.View.{BookView}
use Rattle.hd_book.specs.Groups.{next_group}
use Rattle.hd_book.specs.Refusing.{commit_refusal_to}
use Rattle.hd_turns.specs.Calls.{batch_of}
use Rattle.hd_world.specs.declared.moves.Move.{Move}
use Rattle.hd_world.specs.declared.moves.Move.TheVariants as moves
use Rattle.hd_world.specs.Seats.{Seat, Run}
use Rattle.hd_world.specs.Moves.{popped, hand_taken, redeemed_by, redeemed_of, ticket_redeemed, pushed, offered, loaded, pulled, acked, may_commit, with_commit, with_drop, committed_by, committed, TurnsTo}
use Rattle.hd_world.specs.Once.{in_run, weight_like, room_of, LosesNone}
use Rattle.hd_world.specs.Stops.{File}
use Rattle.hd_world.specs.Order.{AreOut}
use Rattle.hd_world.specs.Sound.{IsSound}
use Rattle.hd_world.proofs.Moving.{is_free, batch_of_task, commit_room}
use Rattle.hd_world.proofs.Counting.{pop_keeps, take_keeps, expand_keeps, released_keeps, push_keeps, offer_keeps, load_keeps, pull_keeps, ack_keeps, commit_keeps}
use Rattle.hd_world.proofs.Committing.{commit_room_is}
use Rattle.hd_world.proofs.Going.{seat_at, batch_once, none_dropped}
use Rattle.hd_world.proofs.Quiet.{IsQuiet, pop_quiet, take_quiet, expand_quiet, push_quiet, offer_quiet, load_quiet}
use Rattle.hd_world.proofs.Same.{redeem_state, pull_state, ack_state}

-- ---- a ticket that is out, of a book that accepts batches

not_void : (k : TicketView) (acknowledged halted : Bool) (first end : ℕ) (released : ParcelsView) → halted ≡ false
    → cond {A = Redeemed ParcelsView} acknowledged (given.Released (record { first = first; end = end }) released) (cond halted given.Void (given.NotYet k)) ≡ given.Void → ⊥
not_void k true halted first end released running e = cc
not_void k false true first end released running e = true≢false running
not_void k false false first end released running e = cc

module _ (b : Batches ParcelsView) (k : TicketView) (running : b.halted ≡ false) (out : is_ticket_out b k ≡ true) where
  void_by : (slot : Option (Outgoing ParcelsView)) → answer_for b k slot ≡ Ok given.Void → ⊥
  void_by None e = cc
  void_by (Some o) e =
      elim (is_its k (Some o)) as (λ y. cond {A = Result (Redeemed ParcelsView) NotOut} y (Ok (given_for b k o.released)) (Err (record {})) ≡ Ok given.Void → ⊥) [
        | true ↦ λ e. not_void k (are_acknowledged b.queue k.first k.end) b.halted k.first k.end o.released running (let same : given_for b k o.released ≡ given.Void = cc in same)
        | false ↦ λ e. cc
      ] e

  never_void : redeemed_for b k ≡ Ok given.Void → ⊥
  never_void e = void_by (ticket_at b.tickets k.number) e

  error_by : (slot : Option (Outgoing ParcelsView)) (error : NotOut) → is_its k slot ≡ true → answer_for b k slot ≡ Err error → ⊥
  error_by None error its e = true≢false (sym its)
  error_by (Some o) error its e =
      let same : answer_for b k (Some o) ≡ Ok (given_for b k o.released) = ap (λ y. cond {A = Result (Redeemed ParcelsView) NotOut} y (Ok (given_for b k o.released)) (Err (record {}))) its in
      cc

  never_error : (error : NotOut) → redeemed_for b k ≡ Err error → ⊥
  never_error error e = error_by (ticket_at b.tickets k.number) error out e

-- ---- moves

module _ (t : Task) (f : File) (r : Run) (x : IsSound t f r) (whole : LosesNone r) where
  redeem_by : (k : ℕ) (s : Seat) (ticket : TicketView) (rest : List TicketView) (a : Result (Redeemed ParcelsView) NotOut) (q : Kid)
      → slice_get r.seats k ≡ Some s → s.tickets ≡ ticket ∷ rest → redeemed_for r.book.batches ticket ≡ a
      → in_run (weight_like q) (redeemed_by k r s ticket rest a) ≡ in_run (weight_like q) r
  redeem_by k s ticket rest (Ok (given.Released receipt parcels)) q e held is = released_keeps (weight_like q) r k s ticket rest receipt parcels e is
  redeem_by k s ticket rest (Ok (given.NotYet again)) q e held is = refl
  redeem_by k s ticket rest (Ok given.Void) q e held is = absurd (never_void r.book.batches ticket x.order.running (first_out k s ticket rest e held) is)
    where
      first_out : (k : ℕ) (s : Seat) (ticket : TicketView) (rest : List TicketView) → slice_get r.seats k ≡ Some s → s.tickets ≡ ticket ∷ rest → is_ticket_out r.book.batches ticket ≡ true
      first_out k s ticket rest e held =
          (subst (AllByRecursion (λ (k : TicketView). is_ticket_out r.book.batches k ≡ true)) held (AllByRecursion-slice_get (AreOut r.book) r.seats k s x.tickets.out e)).0
  redeem_by k s ticket rest (Err error) q e held is =
      let out =
      (subst (AllByRecursion (λ (k : TicketView). is_ticket_out r.book.batches k ≡ true)) held (AllByRecursion-slice_get (AreOut r.book) r.seats k s x.tickets.out e)).0
      in
      absurd (never_error r.book.batches ticket x.order.running out error is)

  redeem_of : (k : ℕ) (s : Seat) (tickets : List TicketView) (q : Kid) → slice_get r.seats k ≡ Some s → s.tickets ≡ tickets → in_run (weight_like q) (redeemed_of k r s tickets) ≡ in_run (weight_like q) r
  redeem_of k s [] q e held = refl
  redeem_of k s (ticket ∷ rest) q e held = redeem_by k s ticket rest (redeemed_for r.book.batches ticket) q e held refl

  redeem_same : (k : ℕ) (os : Option Seat) (q : Kid) → slice_get r.seats k ≡ os → in_run (weight_like q) (ticket_redeemed k r os) ≡ in_run (weight_like q) r
  redeem_same k None q e = refl
  redeem_same k (Some s) q e = redeem_of k s s.tickets q e refl

  commit_whole : (k : ℕ) (s : Seat) → slice_get r.seats k ≡ Some s → commit_refusal_to r.book (batch_of s.worker) ≡ None → LosesNone (with_commit k (batch_of s.worker) s r)
  commit_whole k s e is = λ q.
      let b = r.book.state in
      let free = is_free r.book (batch_of s.worker) is in
      omega (
        arith,
        whole q,
        commit_keeps (weight_like q) r k s e,
        commit_room_is b (batch_of s.worker) x.truth.kept (batch_of_task b s.worker (seat_at t r x.truth x.once k s e).worker) free.free (commit_room t r x.truth k s e free) q
            (batch_once t r x.truth x.once k s q e),
      )

  commit_by : (k : ℕ) (s : Seat) (why : Option CommitRefusal) (r' : Run) → slice_get r.seats k ≡ Some s → commit_refusal_to r.book (batch_of s.worker) ≡ why → committed_by k r s why ≡ Some r' → LosesNone r'
  commit_by k s None r' e is m = subst LosesNone (same_Some (with_commit k (batch_of s.worker) s r) r' m) (commit_whole k s e is)
  commit_by k s (Some c) r' e is m =
      absurd (none-some r' (sym (ap (λ y. cond {A = Option Run} y (Some (with_drop k s r)) None) (none_dropped t r x.truth x.once k s c e is)) ∙ m))

  commit_of : (k : ℕ) (os : Option Seat) (r' : Run) → slice_get r.seats k ≡ os → committed k r os ≡ Some r' → LosesNone r'
  commit_of k None r' e m = subst LosesNone (same_Some r r' m) whole
  commit_of k (Some s) r' e m =
      elim (may_commit s) as (λ y. cond {A = Option Run} y (committed_by k r s (commit_refusal_to r.book (batch_of s.worker))) (Some r) ≡ Some r' → LosesNone r') [
        | true ↦ λ m. commit_by k s (commit_refusal_to r.book (batch_of s.worker)) r' e refl m
        | false ↦ λ m. subst LosesNone (same_Some r r' m) whole
      ] m

  -- a move that leaves each successor in as many places, and settles none
  kept_whole : (r' : Run) → r'.book.state ≡ r.book.state → ((q : Kid) → in_run (weight_like q) r' ≡ in_run (weight_like q) r) → LosesNone r'
  kept_whole r' same as_many = λ q. as_many q ∙ (whole q ∙ sym (ap (λ (b : BookState). room_of b q) same))

  quiet_whole : (r' : Run) → IsQuiet r r' → ((q : Kid) → in_run (weight_like q) r' ≡ in_run (weight_like q) r) → LosesNone r'
  quiet_whole r' quiet as_many = kept_whole r' (ap (λ (b : BookView). b.state) quiet.book) as_many

  pub turns_stay_whole : (m : Move) (r' : Run) → TurnsTo t r m r' → LosesNone r'
  turns_stay_whole (moves.Resume workers stop) r' m = subst LosesNone (sym m) whole
  turns_stay_whole (moves.Pop k) r' m =
      let os = slice_get r.seats k in
      let box = slice_get r.mailboxes k in
      subst LosesNone (sym m) (quiet_whole (popped k r os box) (pop_quiet r k os box refl) (λ q. pop_keeps (weight_like q) r k os box refl refl))
  turns_stay_whole (moves.Take k) r' m =
      let os = slice_get r.seats k in
      subst LosesNone (sym m) (quiet_whole (hand_taken k r os) (take_quiet r k os refl) (λ q. take_keeps (weight_like q) r k os refl))
  turns_stay_whole (moves.Expand k place) r' m =
      let os = slice_get r.seats k in
      quiet_whole r' (expand_quiet r t k place os r' refl m) (λ q. expand_keeps (weight_like q) r t k place os r' refl m)
  turns_stay_whole (moves.Commit k) r' m = commit_of k (slice_get r.seats k) r' refl m
  turns_stay_whole (moves.Redeem k) r' m =
      let os = slice_get r.seats k in
      subst LosesNone (sym m) (kept_whole (ticket_redeemed k r os) (redeem_state r k os) (λ q. redeem_same k os q refl))
  turns_stay_whole (moves.Push k) r' m =
      let os = slice_get r.seats k in
      subst LosesNone (sym m) (quiet_whole (pushed k r os) (push_quiet r k os refl) (λ q. push_keeps (weight_like q) r k os refl))
  turns_stay_whole (moves.Offer k) r' m =
      let os = slice_get r.seats k in
      subst LosesNone (sym m) (quiet_whole (offered r os) (offer_quiet r os) (λ q. offer_keeps (weight_like q) r os))
  turns_stay_whole (moves.Load k) r' m =
      let os = slice_get r.seats k in
      subst LosesNone (sym m) (quiet_whole (loaded k r os) (load_quiet r k os refl) (λ q. load_keeps (weight_like q) r k os refl))
  turns_stay_whole moves.Pull r' m = subst LosesNone (sym m) (kept_whole (pulled r) (pull_state r (next_group r.book)) (λ q. pull_keeps (weight_like q) r (next_group r.book)))
  turns_stay_whole moves.Flush r' m = subst LosesNone (sym m) whole
  turns_stay_whole moves.Ack r' m = subst LosesNone (sym m) (kept_whole (acked r) (ack_state r r.flushed) (λ q. ack_keeps (weight_like q) r r.flushed))
  turns_stay_whole (moves.Stop stop) r' m = subst LosesNone (sym m) whole
