-- What a worker's moves make of a run, where that is seen through its view.
use Rattle.std.proofs.Common.{◌≡◌, ℕ, ◌∷◌, drop, Some, None, List, [], map, set, length, slice_get, sym, ap, ◌∙◌, subst}
use Rattle.std.specs.Prelude.{option_map}
use Rattle.std.proofs.lemmas.List.{map-set}
use Rattle.std.proofs.lemmas.Option.{slice_get-map, none-some, same_Some}
use Rattle.hd_task.specs.declared.task.Task.{Task}
use Rattle.hd_entries.specs.Holding.{Released}
use Rattle.hd_book.specs.View.{BookView}
use Rattle.hd_hmax.specs.Rounds.{hmax}
use Rattle.hd_turns.specs.Calls.{Expands, after_sending}
use Rattle.hd_world.specs.Seats.{Seat, Run}
use Rattle.hd_world.specs.Moves.{with_seat, popped, hand_taken, Expanded, committed, ticket_redeemed, pushed, owner_of}
use Rattle.hd_replay.specs.Seats.{seat_popped, box_popped, with_taken, seat_posted, box_posted, committed_in, seat_redeemed, book_redeemed}
use Rattle.hd_replay.proofs.Played.{with_popped, popped_is, taken_is, with_pushed, pushed_is, pushed_none, with_book, committed_on, committed_ends, redeemed_is}

-- of a view that is a run's: a seat, and a mailbox, where mailboxes are seen so
module _ {X : Type 0} (f : X → List Released) (k : ℕ) (v r : Run) (is : v ≡ r) (boxes : List X) (seen : v.mailboxes ≡ map f boxes) (s : Seat) (e : slice_get v.seats k ≡ Some s) where
  -- what is in a mailbox
  box_seen : (to : ℕ) (box : X) → slice_get boxes to ≡ Some box → slice_get v.mailboxes to ≡ Some (f box)
  box_seen to box b = ap (λ (ms : List (List Released)). slice_get ms to) seen ∙ (slice_get-map f boxes to ∙ ap (option_map f) b)

  -- mailboxes with one in another's place
  with_box : (to : ℕ) (box : X) → map f (set boxes to box) ≡ set v.mailboxes to (f box)
  with_box to box = map-set f boxes to box ∙ ap (λ (ms : List (List Released)). set ms to (f box)) (sym seen)

  pub pop_turns : (s' : Seat) (box box' : X) → slice_get boxes k ≡ Some box → s' ≡ seat_popped s (f box) → f box' ≡ box_popped s (f box)
      → record v { seats = set v.seats k s'; mailboxes = map f (set boxes k box') } ≡ popped k r (slice_get r.seats k) (slice_get r.mailboxes k)
  pop_turns s' box box' b seat left =
      subst (λ (x : Run). record v { seats = set v.seats k s'; mailboxes = map f (set boxes k box') } ≡ popped k x (slice_get x.seats k) (slice_get x.mailboxes k)) is
      (ap (λ (ms : List (List Released)). record v { seats = set v.seats k s'; mailboxes = ms }) (with_box k box')
      ∙ (ap (λ (x : Seat). with_popped k v x (f box')) seat ∙ ap (with_popped k v (seat_popped s (f box))) left)
      ∙ popped_is k v s (f box) e (box_seen k box b)
      ∙ (ap (λ o. popped k v o (Some (f box))) (sym e) ∙ ap (popped k v (slice_get v.seats k)) (sym (box_seen k box b))))

  pub push_turns : (p : Released) (rest : List Released) (to : ℕ) (sent s' : Seat) (box box' : X) → s.worker.outbox ≡ p ∷ rest → to ≡ owner_of (length v.seats) p
      → slice_get boxes to ≡ Some box → sent ≡ record s { worker = after_sending s.worker } → s' ≡ seat_posted sent p (f box) → f box' ≡ box_posted p (f box)
      → record v { seats = set v.seats k s'; mailboxes = map f (set boxes to box') } ≡ pushed k r (slice_get r.seats k)
  push_turns p rest to sent s' box box' out owner b first seat left =
      let there = box_seen to box b in
      subst (λ (x : Run). record v { seats = set v.seats k s'; mailboxes = map f (set boxes to box') } ≡ pushed k x (slice_get x.seats k)) is
      (ap (λ (ms : List (List Released)). record v { seats = set v.seats k s'; mailboxes = ms }) (with_box to box')
      ∙ (ap (λ (x : Seat). with_pushed k to v x (f box')) (seat ∙ ap (λ (x : Seat). seat_posted x p (f box)) first)
      ∙ ap (with_pushed k to v (seat_posted (record s { worker = after_sending s.worker }) p (f box))) left)
      ∙ (ap (λ n. with_pushed k n v (seat_posted (record s { worker = after_sending s.worker }) p (f box)) (box_posted p (f box))) owner
      ∙ pushed_is k v s p rest (f box) e out (ap (λ n. slice_get v.mailboxes n) (sym owner) ∙ there))
      ∙ ap (pushed k v) (sym e))

-- the same of moves that leave the mailboxes
module _ (k : ℕ) (v r : Run) (is : v ≡ r) (s : Seat) (e : slice_get v.seats k ≡ Some s) where
  pub take_turns : (s' : Seat) → s' ≡ with_taken s s.hand → with_seat k s' v ≡ hand_taken k r (slice_get r.seats k)
  take_turns s' seat =
      subst (λ (x : Run). with_seat k s' v ≡ hand_taken k x (slice_get x.seats k)) is
      (ap (λ (x : Seat). with_seat k x v) seat ∙ taken_is k v s e ∙ ap (hand_taken k v) (sym e))

  pub expand_turns : (place : ℕ) (s' : Seat) → s.worker.task ≡ v.book.state.task → s' ≡ record s { worker = s'.worker }
      → Expands s.worker.task (hmax s.worker.task) place s.worker s'.worker → Expanded r.book.state.task k place r (slice_get r.seats k) (with_seat k s' v)
  expand_turns place s' task seat expands =
      subst (λ (x : Run). Expanded x.book.state.task k place x (slice_get x.seats k) (with_seat k s' v)) is
      (subst (λ o. Expanded v.book.state.task k place v o (with_seat k s' v)) (sym e)
      (s'.worker, subst (λ (t : Task). Expands t (hmax t) place s.worker s'.worker) task expands, ap (λ (x : Seat). with_seat k x v) seat))

  pub commit_turns : (b' : BookView) (s' : Seat) → committed_in v.book s ≡ Some (b', s')
      → committed k r (slice_get r.seats k) ≡ Some (record v { book = b'; seats = set v.seats k s' })
  commit_turns b' s' done =
      subst (λ (x : Run). committed k x (slice_get x.seats k) ≡ Some (record v { book = b'; seats = set v.seats k s' })) is
      (ap (committed k v) e ∙ committed_on k v s b' s' e done)

  pub commit_ends : committed_in v.book s ≡ None → committed k r (slice_get r.seats k) ≡ None
  commit_ends none = subst (λ (x : Run). committed k x (slice_get x.seats k) ≡ None) is (ap (committed k v) e ∙ committed_ends k v s e none)

  pub redeem_turns : (b' : BookView) (s' : Seat) → s' ≡ seat_redeemed v.book s s.tickets → b' ≡ book_redeemed v.book s.tickets
      → record v { book = b'; seats = set v.seats k s' } ≡ ticket_redeemed k r (slice_get r.seats k)
  redeem_turns b' s' seat book =
      subst (λ (x : Run). record v { book = b'; seats = set v.seats k s' } ≡ ticket_redeemed k x (slice_get x.seats k)) is
      (ap (λ (x : BookView). with_book k v (x, s')) book
      ∙ ap (λ (x : Seat). with_book k v (book_redeemed v.book s.tickets, x)) seat
      ∙ redeemed_is k v s e
      ∙ ap (ticket_redeemed k v) (sym e))

  pub push_none : (s' : Seat) → s' ≡ s → s.worker.outbox ≡ [] → with_seat k s' v ≡ pushed k r (slice_get r.seats k)
  push_none s' seat out =
      subst (λ (x : Run). with_seat k s' v ≡ pushed k x (slice_get x.seats k)) is
      (ap (λ (x : Seat). with_seat k x v) seat ∙ pushed_none k v s e out ∙ ap (pushed k v) (sym e))

-- the first element of a list
pub first_of : {X : Type 0} (xs : List X) (x : X) → slice_get xs 0 ≡ Some x → xs ≡ x ∷ drop 1 xs
first_of [] x e = absurd (none-some x e)
first_of (y ∷ xs) x e = ap (λ z. z ∷ xs) (same_Some y x e)
