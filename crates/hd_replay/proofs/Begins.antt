-- A run that begins with a journal's entries.
use Rattle.std.proofs.Common.{◌≡◌, ℕ, suc, zero, ◌+◌, ◌≤◌, Option, Some, None, List, [], ◌∷◌, ◌++◌, length, map, replicate, refl, sym, ap, ap₂, ◌∙◌, subst, append_assoc}
use Rattle.std.specs.List.{AllByRecursion, range_with_len}
use Rattle.std.proofs.lemmas.List.{length-replicate, length-map, map-append, replicate_more}
use Rattle.std.proofs.lemmas.List.FromFn.{length-range_with_len}
use Rattle.hd_task.specs.declared.task.Task.{Task}
use Rattle.hd_task.specs.declared.plan.Kid.{Kid}
use Rattle.hd_zobrist.specs.declared.owners.TheConstants.{MAX_WORKERS}
use Rattle.hd_node.specs.Parcel.{ParcelView}
use Rattle.hd_image.specs.Image.{most_of}
use Rattle.hd_entries.specs.Holding.{Released, parcel_of}
use Rattle.hd_entries.specs.Resuming.{AreLegal, resumed_state}
use Rattle.hd_book.specs.View.{BookView}
use Rattle.hd_book.specs.Steps.{resumed_book}
use Rattle.hd_turns.specs.Worker.{WorkerView}
use Rattle.hd_recovery.specs.Recovered.{recovered_worker, recovered_workers}
use Rattle.hd_world.specs.Moves.{book_bound}
use Rattle.hd_world.specs.Seats.{Seat, Run}
use Rattle.hd_world.specs.Starting.{run_after}
use Rattle.hd_world.specs.Stops.{File, journal_entries}
use Rattle.hd_world.proofs.Beginnings.{recovered_from}
use Rattle.hd_replay.specs.Seats.{seat_with}
use Rattle.hd_replay.specs.Held.{AreParcelsOf, AreBoxesOf}
use Rattle.hd_replay.specs.Opening.{IsRunOf}

-- the run of a book and of workers at their places, if nothing is on its way
abbrev pub run_with : BookView → List Seat → ℕ → Run
run_with b seats workers = record {
  book = b;
  seats = seats;
  mailboxes = replicate workers [];
  bound = book_bound b.state;
  group = None;
  flushed = None;
}

same_seats : (t : Task) (entries : List Kid) (workers : ℕ) (ids : List ℕ)
    → map seat_with (map (λ (id : ℕ). recovered_worker t entries id workers) ids) ≡ map (λ (id : ℕ). seat_with (recovered_worker t entries id workers)) ids
same_seats t entries workers [] = refl
same_seats t entries workers (id ∷ ids) =
    ap (λ (ss : List Seat). seat_with (recovered_worker t entries id workers) ∷ ss) (same_seats t entries workers ids)

pub run_is : (t : Task) (f : File) (workers most : ℕ) (kids : List Kid) (b : BookView) (team : List WorkerView) (r : Run) → kids ≡ journal_entries f
    → most ≡ most_of f.version → AreLegal t kids → length kids ≤ most → b ≡ resumed_book t most kids → team ≡ recovered_workers t kids workers
    → r ≡ run_with b (map seat_with team) workers → IsRunOf t f workers r
run_is t f workers most kids b team r these most_is legal few book all is = record {
  recovered =
      recovered_from t f (subst (AreLegal t) these legal)
      (subst (λ (m : ℕ). length (journal_entries f) ≤ m) most_is (subst (λ (ks : List Kid). length ks ≤ most) these few));
  is =
      is
      ∙ (ap₂ (λ (x : BookView) (ws : List WorkerView). run_with x (map seat_with ws) workers) book all
      ∙ (ap (λ (ss : List Seat). run_with (resumed_book t most kids) ss workers) (same_seats t kids workers (range_with_len 0 workers))
      ∙ ap₂ (λ (m : ℕ) (ks : List Kid). run_after t m workers ks) most_is these));
}

-- ---- empty mailboxes

pub empty_parcels : (t : Task) (n : ℕ) → AllByRecursion (AreParcelsOf t) (replicate n [])
empty_parcels t zero = tt
empty_parcels t (suc n) = (tt, empty_parcels t n)

pub empty_boxes : (n : ℕ) → map (λ (box : List ParcelView). map parcel_of box) (replicate n []) ≡ replicate n []
empty_boxes zero = refl
empty_boxes (suc n) = ap (λ (boxes : List (List Released)). [] ∷ boxes) (empty_boxes n)

pub boxes_of : (t : Task) (workers seats : ℕ) (boxes : List (List ParcelView)) → boxes ≡ replicate workers [] → seats ≡ workers → 1 ≤ workers
    → workers ≤ MAX_WORKERS → AreBoxesOf t seats boxes
boxes_of t workers seats boxes is same some few =
    subst (λ (xs : List (List ParcelView)). AreBoxesOf t seats xs) (sym is)
    (subst (λ (n : ℕ). AreBoxesOf t n (replicate workers [])) (sym same)
    (record { parcels = empty_parcels t workers; one_each = length-replicate workers []; any = some; few = few }))

seen_twice : {X : Type 0} (items : X → List ParcelView) (boxes : List X)
    → map (λ (x : X). map parcel_of (items x)) boxes ≡ map (λ (box : List ParcelView). map parcel_of box) (map items boxes)
seen_twice items [] = refl
seen_twice items (x ∷ boxes) = ap (λ (rest : List (List Released)). map parcel_of (items x) ∷ rest) (seen_twice items boxes)

-- how the mailboxes are seen
pub boxes_seen : {X : Type 0} (items : X → List ParcelView) (boxes : List X) (n : ℕ) → map items boxes ≡ replicate n []
    → map (λ (x : X). map parcel_of (items x)) boxes ≡ replicate n []
boxes_seen items boxes n is =
    seen_twice items boxes ∙ (ap (map (λ (box : List ParcelView). map parcel_of box)) is ∙ empty_boxes n)

-- ---- one mailbox more

pub boxes_none : {X : Type 0} (items : X → List ParcelView) (boxes : List X) → boxes ≡ [] → map items boxes ≡ []
boxes_none items boxes is = ap (map items) is

pub boxes_more : {X : Type 0} (items : X → List ParcelView) (boxes after : List X) (box : X) (n : ℕ) → map items boxes ≡ replicate n [] → items box ≡ []
    → after ≡ boxes ++ box ∷ [] → map items after ≡ replicate (n + 1) []
boxes_more items boxes after box n are none is =
    ap (map items) is
    ∙ (map-append items boxes (box ∷ [])
    ∙ (ap₂ (λ (xs : List (List ParcelView)) (x : List ParcelView). xs ++ x ∷ []) are none ∙ replicate_more n []))

-- ---- one place more

pub seats_more : (before after : List Seat) (seat : Seat) (w : WorkerView) (left rest : List WorkerView) (all : List Seat) → after ≡ before ++ seat ∷ []
    → seat ≡ seat_with w → left ≡ w ∷ rest → before ++ map seat_with left ≡ all → after ++ map seat_with rest ≡ all
seats_more before after seat w left rest all is seat_is are so_far =
    ap (λ (xs : List Seat). xs ++ map seat_with rest) is
    ∙ (append_assoc before (seat ∷ []) (map seat_with rest)
    ∙ (ap (λ (s : Seat). before ++ s ∷ map seat_with rest) seat_is ∙ (ap (λ (ws : List WorkerView). before ++ map seat_with ws) (sym are) ∙ so_far)))

-- ---- a run's parts

pub run_parts : (b : BookView) (seats seats' : List Seat) (boxes boxes' : List (List Released)) (bound bound' : Option ℕ) → seats ≡ seats' → boxes ≡ boxes'
    → bound ≡ bound'
    → (let x : Run = record { book = b; seats = seats; mailboxes = boxes; bound = bound; group = None; flushed = None } in x)
    ≡ (let x : Run = record { book = b; seats = seats'; mailboxes = boxes'; bound = bound'; group = None; flushed = None } in x)
run_parts b seats seats' boxes boxes' bound bound' same_seat same_box same_bound =
    ap₂ (λ (ss : List Seat) (ms : List (List Released)). let x : Run = record { book = b; seats = ss; mailboxes = ms; bound = bound; group = None; flushed = None } in x)
    same_seat same_box
    ∙ ap (λ (o : Option ℕ). let x : Run = record { book = b; seats = seats'; mailboxes = boxes'; bound = o; group = None; flushed = None } in x) same_bound

pub team_count : (t : Task) (entries : List Kid) (workers : ℕ) (team : List WorkerView) → team ≡ recovered_workers t entries workers → length team ≡ workers
team_count t entries workers team is =
    ap length is
    ∙ (length-map (range_with_len 0 workers) (λ (id : ℕ). recovered_worker t entries id workers) ∙ length-range_with_len 0 workers)
