-- What a resumption leaves is true, each successor in one place at most, and in order with the
-- journal.
use Rattle.std.proofs.Common.{◌≡◌, ℕ, zero, suc, ◌+◌, ◌%◌, ◌<◌, ◌≤◌, ◌==◌, nat_lt, not, ◌&&◌, ◌||◌, Bool, true, false, cond, Some, None, List, [], ◌∷◌, map, filter, length, slice_get, true≢false, refl, sym, ap, ◌∙◌, arith}
use Rattle.std.specs.Prelude.{option_and_then, flat_map, replicate}
use Rattle.std.specs.List.{range_with_len, AllByRecursion}
use Rattle.std.proofs.lemmas.Bool.{lt-ltb, ltb-true, eqb-true}
use Rattle.std.proofs.lemmas.Option.{none-some, slice_get_within}
use Rattle.std.proofs.lemmas.List.{get_or-map, take_all}
use Rattle.hd_base.proofs.Lists.{AllByRecursion-append}
use Rattle.hd_base.proofs.Members.{AllByRecursion-from_contains}
use Rattle.hd_base.proofs.Tests.{list_any-from_contains, nat_lt-position_or_len}
use Rattle.hd_task.specs.declared.task.Task.{Task}
use Rattle.hd_task.specs.declared.plan.Kid.{Kid}
use Rattle.hd_task.specs.declared.plan.TheConstants.{ROOT_PARENT, ROOT_ACTION}
use Rattle.hd_task.specs.Plans.{Node, exec}
use Rattle.hd_task.specs.Entries.{plan_from}
use Rattle.hd_tables.specs.Kids.{root, same_kid}
use Rattle.hd_zobrist.specs.Hash.{state_hash}
use Rattle.hd_image.specs.Image.{IsGroup, most_of}
use Rattle.hd_entries.specs.Kids.{posted_by}
use Rattle.hd_entries.specs.Settling.{BookState, IsBookKept, expansions, knows_parent, is_posted, is_marked, place_of, node_of, entry_node}
use Rattle.hd_entries.specs.Holding.{Released}
use Rattle.hd_entries.specs.Resuming.{has, open_kids, resumed_state}
use Rattle.hd_entries.proofs.Accepting.{same_kid-true, same_kid-refl, stands}
use Rattle.hd_entries.proofs.Naming as naming
use Rattle.hd_turns.specs.Worker.{is_own}
use Rattle.hd_turns.specs.Truth.{IsTrueParcel, IsClosedBy, IsTrueWorker}
use Rattle.hd_turns.proofs.Lists.{AllByRecursion-filter}
use Rattle.hd_recovery.specs.Recovered.{closed_as, entry_closed, closed_in, open_as, open_at, open_nodes, is_own_closed, recovered_worker}
use Rattle.hd_world.specs.Starting.{seat_after, run_after}
use Rattle.hd_world.specs.Moves.{book_bound}
use Rattle.hd_world.specs.Stops.{File, journal_entries}
use Rattle.hd_world.specs.Truth.{IsTrueSeat, IsTrueRun}
use Rattle.hd_world.specs.Once.{total, in_parcels, in_seat, weight_like, room_of, IsOnce, times_in}
use Rattle.hd_world.specs.Order.{AreOut, AreTicketsOut, HasRoomForTickets, HaveRoom, NoneIsOut, InOrder}
use Rattle.hd_world.proofs.Sums.{one_if, total-append, total-map, total_none}
use Rattle.hd_world.proofs.Moving.{bound_itself}
use Rattle.hd_world.proofs.Committing.{posted_once}

-- ---- lists

each-map : {X Y : Type 0} (P : Y → Type 0) (f : X → Y) (xs : List X) → ((x : X) → P (f x)) → AllByRecursion P (map f xs)
each-map P f [] h = tt
each-map P f (x ∷ xs) h = (h x, each-map P f xs h)

each-replicate : {X : Type 0} (P : X → Type 0) (n : ℕ) (x : X) → P x → AllByRecursion P (replicate n x)
each-replicate P zero x p = tt
each-replicate P (suc n) x p = (p, each-replicate P n x p)

total-replicate : {X : Type 0} (h : X → ℕ) (n : ℕ) (x : X) → h x ≡ 0 → total h (replicate n x) ≡ 0
total-replicate h zero x e = refl
total-replicate h (suc n) x e = omega (arith, e, total-replicate h n x e)

total_zero : {X : Type 0} (h : X → ℕ) (xs : List X) → ((x : X) → h x ≡ 0) → total h xs ≡ 0
total_zero h [] e = refl
total_zero h (x ∷ xs) e = omega (arith, e x, total_zero h xs e)

-- ---- where a successor leads

-- a successor whose plan leads somewhere has a known parent
known_by : (b : BookState) (k : Kid) (r : Node) → length (expansions b) ≡ length b.entries → node_of b k ≡ Some r → knows_parent b k ≡ true
known_by b k r count e =
    let E = expansions b in
    elim (k.parent == ROOT_PARENT) as (λ x.
    option_and_then (exec b.task) (cond x (cond (k.action == ROOT_ACTION) (Some []) None) (plan_from (slice_get E k.parent) k.action)) ≡ Some r
    → ((x && (k.action == ROOT_ACTION)) || nat_lt k.parent (length b.entries)) ≡ true) [
      | true ↦ λ e.
          elim (k.action == ROOT_ACTION) as (λ y. option_and_then (exec b.task) (cond y (Some []) None) ≡ Some r → (y || nat_lt k.parent (length b.entries)) ≡ true) [
            | true ↦ λ _. refl
            | false ↦ λ e. absurd (none-some r e)
          ] e
      | false ↦ λ e.
          elim (slice_get E k.parent) as (λ o. slice_get E k.parent ≡ o → option_and_then (exec b.task) (plan_from o k.action) ≡ Some r → nat_lt k.parent (length b.entries) ≡ true) [
            | None ↦ λ _ e. absurd (none-some r e)
            | Some p ↦ λ is _. lt-ltb k.parent (length b.entries) (omega (arith, slice_get_within E k.parent p is, count))
          ] refl e
    ] e

module _ (b : BookState) (count : length (expansions b) ≡ length b.entries) where
  open_true : (k : Kid) → is_posted b k ≡ true → AllByRecursion (IsTrueParcel b) (open_at b k)
  open_true k posted =
      elim (node_of b k) as (λ o. node_of b k ≡ o → AllByRecursion (IsTrueParcel b) (open_as k o)) [
        | None ↦ λ _. tt
        | Some r ↦ λ is. (record { known = known_by b k r count is; posted = posted; leads = is }, tt)
      ] refl

  all_open_true : (kids : List Kid) → AllByRecursion (λ (k : Kid). is_posted b k ≡ true) kids → AllByRecursion (IsTrueParcel b) (flat_map (open_at b) kids)
  all_open_true [] posted = tt
  all_open_true (k ∷ kids) posted = AllByRecursion-append (IsTrueParcel b) (open_at b k) (flat_map (open_at b) kids) (open_true k posted.0) (all_open_true kids posted.1)

  closed_true : (n : ℕ) → AllByRecursion (IsClosedBy b []) (entry_closed b n)
  closed_true n =
      elim (entry_node b n) as (λ o. entry_node b n ≡ o → AllByRecursion (IsClosedBy b []) (closed_as n o)) [
        | None ↦ λ _. tt
        | Some r ↦ λ is. (is, tt)
      ] refl

  all_closed_true : (numbers : List ℕ) → AllByRecursion (IsClosedBy b []) (flat_map (entry_closed b) numbers)
  all_closed_true [] = tt
  all_closed_true (n ∷ numbers) = AllByRecursion-append (IsClosedBy b []) (entry_closed b n) (flat_map (entry_closed b) numbers) (closed_true n) (all_closed_true numbers)

-- ---- owners

-- a number is among numbers in a row once at most, and not among those above it
pub record IsAmong (c m a n : ℕ) : Type 0 where
  pub most : total (λ (id : ℕ). cond {A = ℕ} (m == id) c 0) (range_with_len a n) ≤ c
  pub none : m < a → total (λ (id : ℕ). cond {A = ℕ} (m == id) c 0) (range_with_len a n) ≡ 0

among : (c m a n : ℕ) → IsAmong c m a n
among c m a zero = record { most = omega arith; none = λ _. refl }
among c m a (suc n) =
    let rest = among c m (a + 1) n in
    elim (m == a) as (λ y. (m == a) ≡ y → IsAmong c m a (suc n)) [
      | true ↦ λ e. record {
        most = omega (arith, rest.none (omega (arith, eqb-true m a e)), ap (λ y. cond {A = ℕ} y c 0) e);
        none = λ lt. absurd (omega (arith, lt, eqb-true m a e));
      }
      | false ↦ λ e. record {
        most = omega (arith, rest.most, ap (λ y. cond {A = ℕ} y c 0) e);
        none = λ lt. omega (arith, rest.none (omega (arith, lt)), ap (λ y. cond {A = ℕ} y c 0) e);
      }
    ] refl

module _ (h : Released → ℕ) (workers : ℕ) where
  abbrev owner : Released → ℕ
  owner p = state_hash p.state % workers

  -- what each worker owns of some parcels
  abbrev owned : List Released → ℕ → ℕ
  owned parcels id = total h (filter (is_own id workers) parcels)

  -- one parcel more
  owned_more : (p : Released) (parcels : List Released) (ids : List ℕ) → total (owned (p ∷ parcels)) ids ≡ total (λ (id : ℕ). cond {A = ℕ} (owner p == id) (h p) 0) ids + total (owned parcels) ids
  owned_more p parcels [] = refl
  owned_more p parcels (id ∷ ids) =
      elim (owner p == id) as (λ y. total h (cond y (p ∷ filter (is_own id workers) parcels) (filter (is_own id workers) parcels)) + total (owned (p ∷ parcels)) ids ≡ cond {A = ℕ} y (h p) 0 + total (λ (id : ℕ). cond {A = ℕ} (owner p == id) (h p) 0) ids + (owned parcels id + total (owned parcels) ids)) [
        | true ↦ omega (arith, owned_more p parcels ids)
        | false ↦ omega (arith, owned_more p parcels ids)
      ]

  -- each parcel has one owner at most
  pub owned_once : (parcels : List Released) → total (owned parcels) (range_with_len 0 workers) ≤ total h parcels
  owned_once [] = omega (arith, total_zero (owned []) (range_with_len 0 workers) (λ id. refl))
  owned_once (p ∷ parcels) =
      omega (arith, owned_more p parcels (range_with_len 0 workers), (among (h p) (owner p) 0 workers).most, owned_once parcels)

-- ---- successors that are no entries

-- successors are as often among parcels as they are successors, or less
module _ (b : BookState) (k : Kid) where
  one_open : (q : Kid) → in_parcels (weight_like k) (open_at b q) ≤ weight_like k q
  one_open q =
      elim (node_of b q) as (λ o. in_parcels (weight_like k) (open_as q o) ≤ weight_like k q) [
        | None ↦ omega arith
        | Some r ↦ omega arith
      ]

  open_few : (kids : List Kid) → in_parcels (weight_like k) (flat_map (open_at b) kids) ≤ total (weight_like k) kids
  open_few [] = omega arith
  open_few (q ∷ kids) = omega (arith, one_open q, open_few kids, total-append (λ (p : Released). weight_like k p.kid) (open_at b q) (flat_map (open_at b) kids))

total-filter : (k : Kid) (q : Kid → Bool) (xs : List Kid) → total (weight_like k) (filter q xs) ≤ total (weight_like k) xs
total-filter k q [] = omega arith
total-filter k q (x ∷ xs) =
    elim (q x) as (λ b. total (weight_like k) (cond b (x ∷ filter q xs) (filter q xs)) ≤ weight_like k x + total (weight_like k) xs) [
      | true ↦ omega (arith, total-filter k q xs)
      | false ↦ omega (arith, total-filter k q xs)
    ]

none_kept : (k : Kid) (q : Kid → Bool) (xs : List Kid) → q k ≡ false → total (weight_like k) (filter q xs) ≡ 0
none_kept k q [] e = refl
none_kept k q (x ∷ xs) e =
    elim (q x) as (λ b. q x ≡ b → total (weight_like k) (cond b (x ∷ filter q xs) (filter q xs)) ≡ 0) [
      | true ↦ λ is.
          elim (same_kid k x) as (λ s. same_kid k x ≡ s → one_if s + total (weight_like k) (filter q xs) ≡ 0) [
            | true ↦ λ same. absurd (true≢false (sym is ∙ (ap q (sym (same_kid-true k x same)) ∙ e)))
            | false ↦ λ other. omega (arith, none_kept k q xs e)
          ] refl
      | false ↦ λ _. none_kept k q xs e
    ] refl

module _ (t : Task) (entries : List Kid) (kept : IsBookKept (resumed_state t entries)) where
  abbrev b : BookState
  b = resumed_state t entries

  abbrev posted : List Kid
  posted = posted_by t (expansions b)

  count : length (expansions b) ≡ length entries
  count = naming.length-plans_of entries (expansions b) kept.named

  -- the mark of a posted successor says whether it is an entry
  entry_mark : (k : Kid) → is_posted b k ≡ true → is_marked b k ≡ has entries k
  entry_mark k is =
      let lt : place_of b k < length posted = ltb-true (place_of b k) (length posted) is in
      get_or-map (has entries) posted (place_of b k) root true lt ∙ ap (has entries) (stands b kept k is).kid

  open_once : (k : Kid) → total (weight_like k) (open_kids t entries) ≤ room_of b k
  open_once k =
      let few = total-filter k (λ q. not (has entries q)) posted in
      elim (is_posted b k) as (λ p. is_posted b k ≡ p → total (weight_like k) (open_kids t entries) ≤ room_of b k) [
        | false ↦ λ e. omega (arith, few, total_none (same_kid k) posted (sym (nat_lt-position_or_len (same_kid k) posted) ∙ e))
        | true ↦ λ e.
            elim (has entries k) as (λ h. has entries k ≡ h → total (weight_like k) (open_kids t entries) ≤ room_of b k) [
              | true ↦ λ h. omega (arith, none_kept k (λ q. not (has entries q)) posted (ap not h))
              | false ↦ λ h.
                  let room : room_of b k ≡ 1 = ap (λ (m : Bool). cond {A = ℕ} m 0 1) (entry_mark k e ∙ h) in
                  omega (arith, few, posted_once b k kept, room)
            ] refl
      ] refl

  all_posted : AllByRecursion (λ (k : Kid). is_posted b k ≡ true) (open_kids t entries)
  all_posted =
      AllByRecursion-filter (λ (k : Kid). is_posted b k ≡ true) (λ k. not (has entries k)) posted
      (AllByRecursion-from_contains (λ (k : Kid). is_posted b k ≡ true) posted
      (λ k c. nat_lt-position_or_len (same_kid k) posted ∙ list_any-from_contains (same_kid k) posted k c (same_kid-refl k)))

  all_open : AllByRecursion (IsTrueParcel b) (open_nodes t entries)
  all_open = all_open_true b count (open_kids t entries) all_posted

  -- ---- what each worker has

  worker_true : (workers id : ℕ) → IsTrueWorker b (recovered_worker t entries id workers)
  worker_true workers id = record {
    of_task = refl;
    waiting = AllByRecursion-filter (IsTrueParcel b) (is_own id workers) (open_nodes t entries) all_open;
    numbered = refl;
    outcomes = tt;
    closed = AllByRecursion-filter (IsClosedBy b []) (is_own_closed id workers) (closed_in b) (all_closed_true b count (range_with_len 0 (length entries)));
    outbox = tt;
    seen = tt;
  }

  seat_true : (workers id : ℕ) → IsTrueSeat b (seat_after t entries workers id)
  seat_true workers id = record { worker = worker_true workers id; hand = tt; told = tt }

  pub starts_true : (most workers : ℕ) → most < ROOT_PARENT → IsTrueRun t (run_after t most workers entries)
  starts_true most workers numbered = record {
    of_task = refl;
    kept = kept;
    numbered = numbered;
    seats = each-map (IsTrueSeat b) (seat_after t entries workers) (range_with_len 0 workers) (seat_true workers);
    mailboxes = each-replicate (AllByRecursion (IsTrueParcel b)) workers [] tt;
    tickets = tt;
    bound = bound_itself (book_bound b);
  }

  pub starts_once : (most workers : ℕ) → IsOnce (run_after t most workers entries)
  starts_once most workers k =
      let h : Released → ℕ = λ p. weight_like k p.kid in
      let seats : total (in_seat (weight_like k)) (map (seat_after t entries workers) (range_with_len 0 workers)) ≡ total (owned h workers (open_nodes t entries)) (range_with_len 0 workers) =
      seat_sums workers (range_with_len 0 workers)
      in
      omega (
        arith,
        seats,
        owned_once h workers (open_nodes t entries),
        open_few b k (open_kids t entries),
        open_once k,
        total-replicate (in_parcels (weight_like k)) workers [] refl,
      )
    where
      seat_sums : (workers : ℕ) (ids : List ℕ) → total (in_seat (weight_like k)) (map (seat_after t entries workers) ids) ≡ total (owned (λ (p : Released). weight_like k p.kid) workers (open_nodes t entries)) ids
      seat_sums workers [] = refl
      seat_sums workers (id ∷ ids) = omega (arith, seat_sums workers ids)

  pub starts_out : (most workers : ℕ) → AreTicketsOut (run_after t most workers entries)
  starts_out most workers = record {
    out = each-map (AreOut (run_after t most workers entries).book) (seat_after t entries workers) (range_with_len 0 workers) (λ id. tt);
    held = λ n.
        omega (
          arith,
          total-map (times_in n) (seat_after t entries workers) (range_with_len 0 workers),
          total_zero (λ (id : ℕ). times_in n (seat_after t entries workers id)) (range_with_len 0 workers) (λ id. refl),
        );
  }

  pub starts_roomy : (most workers : ℕ) → HaveRoom (run_after t most workers entries)
  starts_roomy most workers =
      each-map (HasRoomForTickets (run_after t most workers entries).book) (seat_after t entries workers) (range_with_len 0 workers) (λ id. omega arith)

-- ---- in order

pub starts_in_order : (t : Task) (f : File) (workers : ℕ) → AllByRecursion (IsGroup f.version) f.groups → length (journal_entries f) ≤ most_of f.version
    → InOrder f (run_after t (most_of f.version) workers (journal_entries f))
starts_in_order t f workers sound few = record {
  running = refl;
  queue = record { batches = tt; out = omega arith };
  counted = refl;
  most_is = refl;
  few = few;
  sound = sound;
  stands = NoneIsOut refl refl refl (sym (take_all (length (journal_entries f)) (journal_entries f) (omega arith)));
}
