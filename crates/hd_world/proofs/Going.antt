-- Each move of a run keeps what is true of it, and each successor in one place at most.
use Rattle.std.proofs.Common.{◌≡◌, ℕ, ◌≤◌, Bool, true, false, cond, not, Option, Some, None, List, [], slice_get, refl, sym, ap, ◌∙◌, subst, arith}
use Rattle.std.specs.Prelude.{option_map}
use Rattle.std.proofs.lemmas.Option.{none-some, same_Some}
use Rattle.hd_base.proofs.Lists.{AllByRecursion-slice_get}
use Rattle.hd_task.specs.declared.task.Task.{Task}
use Rattle.hd_task.specs.declared.plan.Kid.{Kid}
use Rattle.hd_node.specs.declared.batch.Outcome.{Outcome}
use Rattle.hd_entries.specs.declared.refusal.Refusal.{Refusal}
use Rattle.hd_entries.specs.declared.refusal.Refusal.TheVariants.{Full}
use Rattle.hd_entries.specs.Settling.{BookState, first_refusal}
use Rattle.hd_entries.specs.Refusing as entries
use Rattle.hd_book.specs.declared.refusal.CommitRefusal.{CommitRefusal}
use Rattle.hd_book.specs.declared.refusal.CommitRefusal.TheVariants.{Halted, Refused}
use Rattle.hd_book.specs.View.{BookView, entries_view}
use Rattle.hd_book.specs.Groups.{next_group}
use Rattle.hd_book.specs.Refusing.{commit_refusal_to}
use Rattle.hd_turns.specs.Calls.{batch_of}
use Rattle.hd_world.specs.declared.moves.Move.{Move}
use Rattle.hd_world.specs.declared.moves.Move.TheVariants as moves
use Rattle.hd_world.specs.Seats.{Seat, Run}
use Rattle.hd_world.specs.Moves.{popped, hand_taken, ticket_redeemed, pushed, offered, loaded, pulled, acked, may_commit, with_commit, with_drop, is_dropped, committed_by, committed, TurnsTo}
use Rattle.hd_world.specs.Truth.{IsTrueSeat, IsTrueRun}
use Rattle.hd_world.specs.Once.{in_run, in_seat, in_outcomes, weight_like, room_of, IsOnce}
use Rattle.hd_world.proofs.Sums.{total_at}
use Rattle.hd_world.proofs.Moving.{is_free, batch_right, batch_of_task, commit_room, turns_true}
use Rattle.hd_world.proofs.Counting.{batch_parts, pop_keeps, take_keeps, expand_keeps, redeem_keeps, push_keeps, offer_keeps, load_keeps, pull_keeps, ack_keeps, commit_keeps}
use Rattle.hd_world.proofs.Committing.{free_from, commit_room_of}
use Rattle.hd_world.proofs.Quiet.{IsQuiet, pop_quiet, take_quiet, expand_quiet, push_quiet, offer_quiet, load_quiet}
use Rattle.hd_world.proofs.Same.{redeem_state, pull_state, ack_state}

-- a batch that is refused for nothing that it says is not dropped
kind_by : (b : BookView) (halted room : Bool) (c : CommitRefusal) → cond halted (Some Halted) (option_map Refused (cond (not room) (Some Full) None)) ≡ Some c → is_dropped c ≡ false
kind_by b true room c e = sym (ap is_dropped (same_Some Halted c e))
kind_by b false false c e = sym (ap is_dropped (same_Some (Refused Full) c e))
kind_by b false true c e = absurd (none-some c e)

pub kind_of : (b : BookView) (batch : List Outcome) (c : CommitRefusal) → first_refusal b.state [] batch ≡ None → commit_refusal_to b batch ≡ Some c → is_dropped c ≡ false
kind_of b batch c free e =
    kind_by b b.batches.halted (entries.has_room (entries_view b) batch) c
    (sym (ap (λ (o : Option Refusal). cond b.batches.halted (Some Halted) (option_map Refused (cond (not (entries.has_room (entries_view b) batch)) (Some Full) o))) free) ∙ e)

module _ (t : Task) (r : Run) (x : IsTrueRun t r) (once : IsOnce r) where
  abbrev now : BookState
  now = r.book.state

  pub seat_at : (k : ℕ) (s : Seat) → slice_get r.seats k ≡ Some s → IsTrueSeat now s
  seat_at k s e = AllByRecursion-slice_get (IsTrueSeat now) r.seats k s x.seats e

  -- the successors of a batch
  pub batch_once : (k : ℕ) (s : Seat) (q : Kid) → slice_get r.seats k ≡ Some s → in_outcomes (weight_like q) (batch_of s.worker) ≤ room_of now q
  batch_once k s q e = omega (arith, once q, total_at (in_seat (weight_like q)) r.seats k s e, batch_parts (weight_like q) s.worker)

  pub batch_free : (k : ℕ) (s : Seat) → slice_get r.seats k ≡ Some s → first_refusal now [] (batch_of s.worker) ≡ None
  batch_free k s e = free_from now [] (batch_of s.worker) (batch_right now s.worker (seat_at k s e).worker) (λ q. batch_once k s q e)

  pub none_dropped : (k : ℕ) (s : Seat) (c : CommitRefusal) → slice_get r.seats k ≡ Some s → commit_refusal_to r.book (batch_of s.worker) ≡ Some c → is_dropped c ≡ false
  none_dropped k s c e is = kind_of r.book (batch_of s.worker) c (batch_free k s e) is

  pub turns_stay_true : (m : Move) (r' : Run) → TurnsTo t r m r' → IsTrueRun t r'
  turns_stay_true m r' moved = turns_true t r x m r' (λ k s c e is. none_dropped k s c e is) moved

  -- a commit that is accepted
  commit_once : (k : ℕ) (s : Seat) → slice_get r.seats k ≡ Some s → commit_refusal_to r.book (batch_of s.worker) ≡ None → IsOnce (with_commit k (batch_of s.worker) s r)
  commit_once k s e is = λ q.
      let free = is_free r.book (batch_of s.worker) is in
      omega (
        arith,
        once q,
        commit_keeps (weight_like q) r k s e,
        commit_room_of now (batch_of s.worker) x.kept (batch_of_task now s.worker (seat_at k s e).worker) free.free (commit_room t r x k s e free) q,
      )

  commit_by : (k : ℕ) (s : Seat) (why : Option CommitRefusal) (r' : Run) → slice_get r.seats k ≡ Some s → commit_refusal_to r.book (batch_of s.worker) ≡ why → committed_by k r s why ≡ Some r' → IsOnce r'
  commit_by k s None r' e is m = subst IsOnce (same_Some (with_commit k (batch_of s.worker) s r) r' m) (commit_once k s e is)
  commit_by k s (Some c) r' e is m =
      absurd (none-some r' (sym (ap (λ y. cond {A = Option Run} y (Some (with_drop k s r)) None) (none_dropped k s c e is)) ∙ m))

  commit_of : (k : ℕ) (os : Option Seat) (r' : Run) → slice_get r.seats k ≡ os → committed k r os ≡ Some r' → IsOnce r'
  commit_of k None r' e m = subst IsOnce (same_Some r r' m) once
  commit_of k (Some s) r' e m =
      elim (may_commit s) as (λ y. cond {A = Option Run} y (committed_by k r s (commit_refusal_to r.book (batch_of s.worker))) (Some r) ≡ Some r' → IsOnce r') [
        | true ↦ λ m. commit_by k s (commit_refusal_to r.book (batch_of s.worker)) r' e refl m
        | false ↦ λ m. subst IsOnce (same_Some r r' m) once
      ] m

  -- a move that leaves each successor in as many places, or fewer, and settles none
  kept_once : (r' : Run) → r'.book.state ≡ now → ((q : Kid) → in_run (weight_like q) r' ≤ in_run (weight_like q) r) → IsOnce r'
  kept_once r' same fewer = λ q. let room : room_of r'.book.state q ≡ room_of now q = ap (λ (b : BookState). room_of b q) same in omega (arith, once q, fewer q, room)

  quiet_once : (r' : Run) → IsQuiet r r' → ((q : Kid) → in_run (weight_like q) r' ≤ in_run (weight_like q) r) → IsOnce r'
  quiet_once r' quiet fewer = kept_once r' (ap (λ (b : BookView). b.state) quiet.book) fewer

  same_once : (r' : Run) → IsQuiet r r' → ((q : Kid) → in_run (weight_like q) r' ≡ in_run (weight_like q) r) → IsOnce r'
  same_once r' quiet same = quiet_once r' quiet (λ q. omega (arith, same q))

  redeem_once : (k : ℕ) (os : Option Seat) → slice_get r.seats k ≡ os → IsOnce (ticket_redeemed k r os)
  redeem_once k os e = kept_once (ticket_redeemed k r os) (redeem_state r k os) (λ q. redeem_keeps (weight_like q) r k os e)

  pub turns_stay_once : (m : Move) (r' : Run) → TurnsTo t r m r' → IsOnce r'
  turns_stay_once (moves.Resume workers stop) r' m = subst IsOnce (sym m) once
  turns_stay_once (moves.Pop k) r' m =
      let os = slice_get r.seats k in
      let box = slice_get r.mailboxes k in
      subst IsOnce (sym m) (same_once (popped k r os box) (pop_quiet r k os box refl) (λ q. pop_keeps (weight_like q) r k os box refl refl))
  turns_stay_once (moves.Take k) r' m =
      let os = slice_get r.seats k in
      subst IsOnce (sym m) (same_once (hand_taken k r os) (take_quiet r k os refl) (λ q. take_keeps (weight_like q) r k os refl))
  turns_stay_once (moves.Expand k place) r' m =
      let os = slice_get r.seats k in
      same_once r' (expand_quiet r t k place os r' refl m) (λ q. expand_keeps (weight_like q) r t k place os r' refl m)
  turns_stay_once (moves.Commit k) r' m = commit_of k (slice_get r.seats k) r' refl m
  turns_stay_once (moves.Redeem k) r' m = subst IsOnce (sym m) (redeem_once k (slice_get r.seats k) refl)
  turns_stay_once (moves.Push k) r' m =
      let os = slice_get r.seats k in
      subst IsOnce (sym m) (same_once (pushed k r os) (push_quiet r k os refl) (λ q. push_keeps (weight_like q) r k os refl))
  turns_stay_once (moves.Offer k) r' m =
      let os = slice_get r.seats k in
      subst IsOnce (sym m) (same_once (offered r os) (offer_quiet r os) (λ q. offer_keeps (weight_like q) r os))
  turns_stay_once (moves.Load k) r' m =
      let os = slice_get r.seats k in
      subst IsOnce (sym m) (same_once (loaded k r os) (load_quiet r k os refl) (λ q. load_keeps (weight_like q) r k os refl))
  turns_stay_once moves.Pull r' m =
      subst IsOnce (sym m) (kept_once (pulled r) (pull_state r (next_group r.book)) (λ q. omega (arith, pull_keeps (weight_like q) r (next_group r.book))))
  turns_stay_once moves.Flush r' m = subst IsOnce (sym m) once
  turns_stay_once moves.Ack r' m =
      subst IsOnce (sym m) (kept_once (acked r) (ack_state r r.flushed) (λ q. omega (arith, ack_keeps (weight_like q) r r.flushed)))
  turns_stay_once (moves.Stop stop) r' m = subst IsOnce (sym m) once
