-- What a worker's moves make of its seat is what the moves of a schedule make of a run.
use Rattle.std.proofs.Common.{◌≡◌, ◌≢◌, ℕ, ◌<◌, ◌≤◌, nat_lt, Bool, true, false, cond, ◌&&◌, ◌||◌, take, ◌⊎◌, inl, inr, Option, Some, None, is_some, List, [], ◌∷◌, ◌++◌, set, length, slice_get, refl, sym, ap, ◌∙◌, subst, arith}
use Rattle.std.specs.Prelude.{option_map, Result, Ok, Err}
use Rattle.std.proofs.lemmas.Bool.{lt-ltb, le-ltb}
use Rattle.std.proofs.lemmas.List.{set-get_or}
use Rattle.std.proofs.lemmas.Option.{get_or_from_slice_get}
use Rattle.hd_task.specs.declared.plan.TheConstants.{ROOT_PARENT}
use Rattle.hd_node.specs.declared.batch.Outcome.{Outcome}
use Rattle.hd_node.specs.declared.batch.TheConstants.{MAX_OUTCOMES}
use Rattle.hd_entries.specs.declared.refusal.Refusal.TheVariants.{UnknownParent, NotAKid, SettledBefore, StateDiffers, NotDominated, BelowBound, Full, NoMemory}
use Rattle.hd_entries.specs.Holding.{Released}
use Rattle.hd_book.specs.declared.not_out.NotOut.{NotOut}
use Rattle.hd_book.specs.declared.redeemed.Redeemed.{Redeemed}
use Rattle.hd_book.specs.declared.redeemed.Redeemed.TheVariants as given
use Rattle.hd_book.specs.Batches.{TicketView, Batches}
use Rattle.hd_book.specs.TicketRedeeming.{redeemed_for}
use Rattle.hd_book.proofs.Redeeming.{comes_back}
use Rattle.hd_book.specs.declared.refusal.CommitRefusal.{CommitRefusal}
use Rattle.hd_book.specs.declared.refusal.CommitRefusal.TheVariants.{Halted, Refused}
use Rattle.hd_entries.specs.Releasing.{ParcelsView}
use Rattle.hd_book.specs.View.{BookView}
use Rattle.hd_book.specs.Refusing.{commit_refusal_to, IsCommitRefusalTo}
use Rattle.hd_book.specs.Steps.{after_commit, ticket_after}
use Rattle.hd_turns.specs.Worker.{WorkerView}
use Rattle.hd_turns.specs.Calls.{ranks, batch_of, after_batch, after_numbering, after_sending, after_return}
use Rattle.hd_desk.specs.declared.mail.TheConstants.{MAILBOX_PLACES}
use Rattle.hd_book.specs.declared.ticket.TheConstants.{MAX_TICKETS}
use Rattle.hd_world.specs.Seats.{Seat, Run}
use Rattle.hd_world.specs.Moves.{with_seat, book_bound, popped, taken_by, hand_taken, may_commit, is_dropped, with_drop, committed_by, committed, redeemed_by, redeemed_of, ticket_redeemed, mailed, pushed_of, pushed, owner_of}
use Rattle.hd_replay.specs.declared.fault.ReplayFault.{ReplayFault}
use Rattle.hd_replay.specs.declared.fault.ReplayFault.TheVariants as faults
use Rattle.hd_replay.specs.Seats.{seat_popped, box_popped, with_taken, seat_posted, box_posted, ends_with, seat_committed, seat_dropped, committed_for, committed_in, seat_redeemed_for, book_redeemed_for, seat_redeemed, book_redeemed}

-- ---- lists

pub set_same : {X : Type 0} (xs : List X) (k : ℕ) (x : X) → slice_get xs k ≡ Some x → set xs k x ≡ xs
set_same xs k x e = subst (λ y. set xs k y ≡ xs) (get_or_from_slice_get xs k x x e) (set-get_or xs k x)

-- a seat and a mailbox that are as they were
same_seat : (k : ℕ) (r : Run) (s : Seat) → slice_get r.seats k ≡ Some s → with_seat k s r ≡ r
same_seat k r s e = ap (λ (xs : List Seat). record r { seats = xs }) (set_same r.seats k s e)

same_box : (k : ℕ) (r : Run) (box : List Released) → slice_get r.mailboxes k ≡ Some box → record r { mailboxes = set r.mailboxes k box } ≡ r
same_box k r box e = ap (λ (xs : List (List Released)). record r { mailboxes = xs }) (set_same r.mailboxes k box e)

-- ---- `pop` and `take`

abbrev pub with_popped : ℕ → Run → Seat → List Released → Run
with_popped k r s box = record r { seats = set r.seats k s; mailboxes = set r.mailboxes k box }

same_both : (k : ℕ) (r : Run) (s : Seat) (box : List Released) → slice_get r.seats k ≡ Some s → slice_get r.mailboxes k ≡ Some box → with_popped k r s box ≡ r
same_both k r s box e b = same_box k (with_seat k s r) box b ∙ same_seat k r s e

pub popped_is : (k : ℕ) (r : Run) (s : Seat) (box : List Released) → slice_get r.seats k ≡ Some s → slice_get r.mailboxes k ≡ Some box
    → with_popped k r (seat_popped s box) (box_popped s box) ≡ popped k r (Some s) (Some box)
popped_is k r s [] e b = same_both k r s [] e b
popped_is k r s (p ∷ rest) e b =
    elim (is_some s.hand) as (λ y. with_popped k r (cond y s (record s { hand = Some p })) (cond y (p ∷ rest) rest) ≡ cond y r (with_popped k r (record s { hand = Some p }) rest)) [
      | true ↦ same_both k r s (p ∷ rest) e b
      | false ↦ refl
    ]

taken_by_is : (k : ℕ) (r : Run) (s : Seat) (hand : Option Released) → slice_get r.seats k ≡ Some s → with_seat k (with_taken s hand) r ≡ taken_by k r s hand
taken_by_is k r s None e = same_seat k r s e
taken_by_is k r s (Some p) e = refl

pub taken_is : (k : ℕ) (r : Run) (s : Seat) → slice_get r.seats k ≡ Some s → with_seat k (with_taken s s.hand) r ≡ hand_taken k r (Some s)
taken_is k r s e = taken_by_is k r s s.hand e

-- ---- `push`

abbrev pub with_pushed : ℕ → ℕ → Run → Seat → List Released → Run
with_pushed k to r s box = record r { seats = set r.seats k s; mailboxes = set r.mailboxes to box }

pub pushed_is : (k : ℕ) (r : Run) (s : Seat) (p : Released) (rest : List Released) (box : List Released)
    → slice_get r.seats k ≡ Some s → s.worker.outbox ≡ p ∷ rest → slice_get r.mailboxes (owner_of (length r.seats) p) ≡ Some box
    → with_pushed k (owner_of (length r.seats) p) r (seat_posted (record s { worker = after_sending s.worker }) p box) (box_posted p box) ≡ pushed k r (Some s)
pushed_is k r s p rest box e out there =
    let to = owner_of (length r.seats) p in
    let sent : Seat = record s { worker = after_sending s.worker } in
    let back : Seat = record s { worker = after_return p (after_sending s.worker) } in
    let by : with_pushed k to r (seat_posted sent p box) (box_posted p box) ≡ mailed k r s p to (Some box) =
    elim (nat_lt (length box) MAILBOX_PLACES) as (λ y. with_pushed k to r (cond y sent back) (cond y (box ++ p ∷ []) box) ≡ cond y (with_pushed k to r sent (box ++ p ∷ [])) (with_seat k back r)) [
      | true ↦ refl
      | false ↦ same_box to (with_seat k back r) box there
    ]
    in
    by ∙ ap (mailed k r s p to) (sym there) ∙ ap (pushed_of k r s) (sym out)

-- nothing is sent where the outbox is empty
pub pushed_none : (k : ℕ) (r : Run) (s : Seat) → slice_get r.seats k ≡ Some s → s.worker.outbox ≡ [] → with_seat k s r ≡ pushed k r (Some s)
pushed_none k r s e out = same_seat k r s e ∙ ap (pushed_of k r s) (sym out)

-- ---- `commit`

-- the run of a book and a seat
abbrev pub with_book : ℕ → Run → BookView × Seat → Run
with_book k r x = record r { book = x.0; seats = set r.seats k x.1 }

committed_for_is : (k : ℕ) (r : Run) (s : Seat) (o : Option CommitRefusal) → option_map (with_book k r) (committed_for r.book s o) ≡ committed_by k r s o
committed_for_is k r s None = refl
committed_for_is k r s (Some why) =
    elim (is_dropped why) as (λ y. option_map (with_book k r) (cond {A = Option (BookView × Seat)} y (Some (r.book, seat_dropped s)) None) ≡ cond {A = Option Run} y (Some (with_drop k s r)) None) [
      | true ↦ refl
      | false ↦ refl
    ]

pub committed_is : (k : ℕ) (r : Run) (s : Seat) → slice_get r.seats k ≡ Some s → option_map (with_book k r) (committed_in r.book s) ≡ committed k r (Some s)
committed_is k r s e =
    let why = commit_refusal_to r.book (batch_of s.worker) in
    elim (may_commit s) as (λ y. option_map (with_book k r) (cond {A = Option (BookView × Seat)} y (committed_for r.book s why) (Some (r.book, s))) ≡ cond {A = Option Run} y (committed_by k r s why) (Some r)) [
      | true ↦ committed_for_is k r s why
      | false ↦ ap (λ x. Some x) (same_seat k r s e)
    ]

-- the same, where it goes on, and where it ends the run
pub committed_on : (k : ℕ) (r : Run) (s : Seat) (b' : BookView) (s' : Seat) → slice_get r.seats k ≡ Some s → committed_in r.book s ≡ Some (b', s')
    → committed k r (Some s) ≡ Some (record r { book = b'; seats = set r.seats k s' })
committed_on k r s b' s' e is = sym (committed_is k r s e) ∙ ap (option_map (with_book k r)) is

pub committed_ends : (k : ℕ) (r : Run) (s : Seat) → slice_get r.seats k ≡ Some s → committed_in r.book s ≡ None → committed k r (Some s) ≡ None
committed_ends k r s e is = sym (committed_is k r s e) ∙ ap (option_map (with_book k r)) is

-- ---- `redeem`

-- the run of a book and a seat, where the oldest ticket was redeemed for this
redeemed_for_is : (k : ℕ) (r : Run) (s : Seat) (ticket : TicketView) (rest : List TicketView) (a : Result (Redeemed ParcelsView) NotOut)
    → slice_get r.seats k ≡ Some s → s.tickets ≡ ticket ∷ rest → redeemed_for r.book.batches ticket ≡ a
    → with_book k r (book_redeemed_for r.book ticket a, seat_redeemed_for s ticket rest a) ≡ redeemed_by k r s ticket rest a
redeemed_for_is k r s ticket rest (Ok (given.Released receipt parcels)) e held is = refl
redeemed_for_is k r s ticket rest (Ok (given.NotYet again)) e held is =
    let same = comes_back r.book.batches ticket again is in
    ap (λ (x : Batches ParcelsView). with_book k r (record r.book { batches = x }, record s { tickets = again ∷ rest })) same.1
    ∙ ap (λ (x : TicketView). with_seat k (record s { tickets = x ∷ rest }) r) same.0
    ∙ ap (λ (x : List TicketView). with_seat k (record s { tickets = x }) r) (sym held)
    ∙ same_seat k r s e
redeemed_for_is k r s ticket rest (Ok given.Void) e held is = refl
redeemed_for_is k r s ticket rest (Err error) e held is = refl

redeemed_of_is : (k : ℕ) (r : Run) (s : Seat) (held : List TicketView) → slice_get r.seats k ≡ Some s → s.tickets ≡ held
    → with_book k r (book_redeemed r.book held, seat_redeemed r.book s held) ≡ redeemed_of k r s held
redeemed_of_is k r s [] e are = same_seat k r s e
redeemed_of_is k r s (ticket ∷ rest) e are = redeemed_for_is k r s ticket rest (redeemed_for r.book.batches ticket) e are refl

pub redeemed_is : (k : ℕ) (r : Run) (s : Seat) → slice_get r.seats k ≡ Some s
    → with_book k r (book_redeemed r.book s.tickets, seat_redeemed r.book s s.tickets) ≡ ticket_redeemed k r (Some s)
redeemed_is k r s e = redeemed_of_is k r s s.tickets e refl

-- ---- refusals

-- the refusal of a batch that is dropped
pub dropped_for : (b : BookView) (batch : List Outcome) (why : CommitRefusal) → IsCommitRefusalTo b batch why → ends_with why ≡ None → commit_refusal_to b batch ≡ Some why
dropped_for b batch why (inl is) none = is
dropped_for b batch why (inr memory) none = absurd (let same = memory.0 in cc)

pub dropped : (why : CommitRefusal) → ends_with why ≡ None → is_dropped why ≡ true
dropped Halted none = absurd (cc)
dropped (Refused UnknownParent) none = refl
dropped (Refused NotAKid) none = refl
dropped (Refused SettledBefore) none = refl
dropped (Refused StateDiffers) none = refl
dropped (Refused NotDominated) none = refl
dropped (Refused BelowBound) none = refl
dropped (Refused Full) none = absurd (cc)
dropped (Refused NoMemory) none = absurd (cc)

-- a refusal ends a run
abbrev pub IsEndFor : BookView → List Outcome → ReplayFault → Type 0
IsEndFor b batch fault =
    (fault ≡ faults.NoMemory) ⊎ ((fault ≡ faults.Full) × ((why : CommitRefusal) × (commit_refusal_to b batch ≡ Some why) × (is_dropped why ≡ false)))

ended_by : (b : BookView) (batch : List Outcome) (why : CommitRefusal) (fault : ReplayFault) → commit_refusal_to b batch ≡ Some why → ends_with why ≡ Some fault → IsEndFor b batch fault
ended_by b batch Halted fault is ends = inr (cc, (Halted, is, refl))
ended_by b batch (Refused UnknownParent) fault is ends = absurd (cc)
ended_by b batch (Refused NotAKid) fault is ends = absurd (cc)
ended_by b batch (Refused SettledBefore) fault is ends = absurd (cc)
ended_by b batch (Refused StateDiffers) fault is ends = absurd (cc)
ended_by b batch (Refused NotDominated) fault is ends = absurd (cc)
ended_by b batch (Refused BelowBound) fault is ends = absurd (cc)
ended_by b batch (Refused Full) fault is ends = inr (cc, (Refused Full, is, refl))
ended_by b batch (Refused NoMemory) fault is ends = inl (cc)

pub ended : (b : BookView) (batch : List Outcome) (why : CommitRefusal) (fault : ReplayFault) → IsCommitRefusalTo b batch why → ends_with why ≡ Some fault → IsEndFor b batch fault
ended b batch why fault (inl is) ends = ended_by b batch why fault is ends
ended b batch why fault (inr memory) ends = inl (let same = ap ends_with memory.0 in cc)

-- ---- the parts of a commit

-- a worker that holds as many tickets as it may does not commit
pub many_tickets : (b : BookView) (s : Seat) → MAX_TICKETS ≤ length s.tickets → committed_in b s ≡ Some (b, s)
many_tickets b s many =
    ap (λ y. cond {A = Option (BookView × Seat)} (y && nat_lt 0 (length s.worker.outcomes)) (committed_for b s (commit_refusal_to b (batch_of s.worker))) (Some (b, s)))
    (le-ltb (length s.tickets) MAX_TICKETS many)

-- nor does one that has no outcomes
pub no_outcomes : (b : BookView) (s : Seat) → s.worker.outcomes ≡ [] → committed_in b s ≡ Some (b, s)
no_outcomes b s none =
    let why = commit_refusal_to b (batch_of s.worker) in
    let no : nat_lt 0 (length s.worker.outcomes) ≡ false = ap (λ (os : List Outcome). nat_lt 0 (length os)) none in
    elim (nat_lt (length s.tickets) MAX_TICKETS) as (λ y. cond {A = Option (BookView × Seat)} (y && nat_lt 0 (length s.worker.outcomes)) (committed_for b s why) (Some (b, s)) ≡ Some (b, s)) [
      | true ↦ ap (λ y. cond {A = Option (BookView × Seat)} y (committed_for b s why) (Some (b, s))) no
      | false ↦ refl
    ]

-- one that gave a batch does
some_given : (os : List Outcome) → ranks 0 (take MAX_OUTCOMES os) ≢ [] → nat_lt 0 (length os) ≡ true
some_given [] given = absurd (given refl)
some_given (o ∷ os) given = lt-ltb 0 (length (o ∷ os)) (omega arith)

pub gave_batch : (b : BookView) (s : Seat) → length s.tickets < MAX_TICKETS → (after_batch s.worker).given ≢ [] → committed_in b s ≡ committed_for b s (commit_refusal_to b (batch_of s.worker))
gave_batch b s few given =
    let why = commit_refusal_to b (batch_of s.worker) in
    ap (λ y. cond {A = Option (BookView × Seat)} (y && nat_lt 0 (length s.worker.outcomes)) (committed_for b s why) (Some (b, s))) (lt-ltb (length s.tickets) MAX_TICKETS few)
    ∙ ap (λ y. cond {A = Option (BookView × Seat)} y (committed_for b s why) (Some (b, s))) (some_given s.worker.outcomes given)

-- a batch that is accepted
pub gave_accepted : (b : BookView) (s : Seat) → length s.tickets < MAX_TICKETS → (after_batch s.worker).given ≢ [] → commit_refusal_to b (batch_of s.worker) ≡ None
    → committed_in b s ≡ Some (after_commit (batch_of s.worker) b, seat_committed b s)
gave_accepted b s few given is = gave_batch b s few given ∙ ap (committed_for b s) is

-- one that is dropped
pub gave_dropped : (b : BookView) (s : Seat) (why : CommitRefusal) → length s.tickets < MAX_TICKETS → (after_batch s.worker).given ≢ []
    → commit_refusal_to b (batch_of s.worker) ≡ Some why → is_dropped why ≡ true → committed_in b s ≡ Some (b, seat_dropped s)
gave_dropped b s why few given is drop =
    gave_batch b s few given ∙ ap (committed_for b s) is ∙ ap (λ y. cond {A = Option (BookView × Seat)} y (Some (b, seat_dropped s)) None) drop

-- one that ends the run
pub gave_ended : (b : BookView) (s : Seat) (why : CommitRefusal) → length s.tickets < MAX_TICKETS → (after_batch s.worker).given ≢ []
    → commit_refusal_to b (batch_of s.worker) ≡ Some why → is_dropped why ≡ false → committed_in b s ≡ None
gave_ended b s why few given is ends =
    gave_batch b s few given ∙ ap (committed_for b s) is ∙ ap (λ y. cond {A = Option (BookView × Seat)} y (Some (b, seat_dropped s)) None) ends

-- ---- what a seat's commit comes to

-- a book and a seat
abbrev made : BookView → WorkerView → Option Released → List TicketView → Option ℕ → Option (BookView × Seat)
made b w hand held told = Some (b, record { worker = w; hand = hand; tickets = held; told = told })

-- a batch that was given is accepted
pub accepts : (b b' : BookView) (s : Seat) (w w' : WorkerView) (batch : List Outcome) (k : TicketView) (held : List TicketView) (told : Option ℕ)
    → length s.tickets < MAX_TICKETS → batch ≡ batch_of s.worker → w ≡ after_batch s.worker → w.given ≢ [] → commit_refusal_to b batch ≡ None
    → b' ≡ after_commit batch b → w' ≡ after_numbering (length b.state.entries) w → k ≡ ticket_after batch b → held ≡ s.tickets ++ k ∷ [] → told ≡ book_bound b'.state
    → committed_in b s ≡ made b' w' s.hand held told
accepts b b' s w w' batch k held told few these gave given accepted is numbered ticket tickets bound =
    let batch_is = batch_of s.worker in
    let c = after_commit batch_is b in
    let v = after_numbering (length b.state.entries) (after_batch s.worker) in
    let ks = s.tickets ++ ticket_after batch_is b ∷ [] in
    let book : b' ≡ c = is ∙ ap (λ (os : List Outcome). after_commit os b) these in
    let worker : w' ≡ v = numbered ∙ ap (after_numbering (length b.state.entries)) gave in
    let all : held ≡ ks =
    tickets ∙ ap (λ (x : TicketView). s.tickets ++ x ∷ []) (ticket ∙ ap (λ (os : List Outcome). ticket_after os b) these)
    in
    let least : told ≡ book_bound c.state = bound ∙ ap (λ (x : BookView). book_bound x.state) book in
    gave_accepted b s few (λ none. given (ap (λ (x : WorkerView). x.given) gave ∙ none)) (ap (commit_refusal_to b) (sym these) ∙ accepted)
    ∙ sym
    (ap (λ (x : BookView). made x w' s.hand held told) book
    ∙ (ap (λ (x : WorkerView). made c x s.hand held told) worker ∙ (ap (λ (x : List TicketView). made c v s.hand x told) all ∙ ap (made c v s.hand ks) least)))

-- one that was given is dropped
pub drops : (b b' : BookView) (s : Seat) (w w' : WorkerView) (batch : List Outcome) (held : List TicketView) (why : CommitRefusal)
    → length s.tickets < MAX_TICKETS → batch ≡ batch_of s.worker → w ≡ after_batch s.worker → w.given ≢ [] → commit_refusal_to b batch ≡ Some why → is_dropped why ≡ true
    → b' ≡ b → w' ≡ after_numbering ROOT_PARENT w → held ≡ s.tickets → committed_in b s ≡ made b' w' s.hand held s.told
drops b b' s w w' batch held why few these gave given refused drop same numbered tickets =
    let v = after_numbering ROOT_PARENT (after_batch s.worker) in
    let worker : w' ≡ v = numbered ∙ ap (after_numbering ROOT_PARENT) gave in
    gave_dropped b s why few (λ none. given (ap (λ (x : WorkerView). x.given) gave ∙ none)) (ap (commit_refusal_to b) (sym these) ∙ refused) drop
    ∙ sym
    (ap (λ (x : BookView). made x w' s.hand held s.told) same
    ∙ (ap (λ (x : WorkerView). made b x s.hand held s.told) worker ∙ ap (λ (x : List TicketView). made b v s.hand x s.told) tickets))
