-- Where a search goes on, each open successor and each closed entry is at its owner, and each open
-- successor is in exactly one place.
use Rattle.std.proofs.Common.{◌≡◌, ℕ, ◌%◌, ◌<◌, ◌≤◌, true, false, cond, not, nat_le, is_some, Some, None, List, [], map, length, slice_get, Contains, refl, sym, ap, ◌∙◌, subst, arith, true≢false}
use Rattle.std.specs.List.{range_with_len}
use Rattle.std.proofs.lemmas.Bool.{eq-eqb, ltb-true, ltb-false, and_parts, leb-true}
use Rattle.std.proofs.lemmas.Option.{slice_get-get_or}
use Rattle.std.proofs.lemmas.List.{length-map, get_or_past}
use Rattle.std.proofs.lemmas.List.Elements.{Contains-get_or}
use Rattle.std.proofs.lemmas.List.FromFn.{length-map-range_with_len, get_or-map-range_with_len}
use Rattle.std.proofs.Math.Nat.{mod-lt}
use Rattle.hd_base.proofs.Members.{Contains-first, Contains-filter, Contains-flat_map, Contains-range_with_len}
use Rattle.hd_base.proofs.Tests.{list_any-from_contains}
use Rattle.hd_task.specs.declared.task.Task.{Task}
use Rattle.hd_task.specs.declared.plan.Kid.{Kid}
use Rattle.hd_task.specs.declared.plan.TheConstants.{ROOT_PARENT}
use Rattle.hd_zobrist.specs.Hash.{state_hash}
use Rattle.hd_tables.specs.Kids.{root, same_kid}
use Rattle.hd_node.specs.declared.batch.By.TheVariants.{Entry}
use Rattle.hd_image.specs.Image.{most_of}
use Rattle.hd_entries.specs.Kids.{posted_by}
use Rattle.hd_entries.specs.Settling.{BookState, IsBookKept, is_marked, is_posted, place_of}
use Rattle.hd_entries.specs.Holding.{Released, plans_at}
use Rattle.hd_entries.specs.Resuming.{has, first_fault, resumed_state, open_kids}
use Rattle.hd_entries.proofs.Accepting.{same_kid-refl, stands}
use Rattle.hd_entries.proofs.Again.{mark_is, nothing_kept}
use Rattle.hd_entries.proofs.Faultless.{kept_from}
use Rattle.hd_closed.specs.Closed.{Closed}
use Rattle.hd_turns.specs.Worker.{is_own}
use Rattle.hd_recovery.specs.Recovered.{open_as, open_at, open_nodes, closed_as, entry_closed, closed_in, is_own_closed}
use Rattle.hd_world.specs.Starting.{seat_after, run_after}
use Rattle.hd_world.specs.Once.{in_seat, in_run, weight_like, room_of}
use Rattle.hd_world.proofs.Sums.{total_at, total_some}
use Rattle.hd_world.proofs.Beginning.{starts_once}
use Rattle.hd_world.proofs.Sounding.{most_numbered}
use Rattle.hd_world.proofs.Playing.{faultless}
use Rattle.hd_world.specs.Owners.{IsOpenAtOwner, IsClosedAtOwner, IsOpenIn, IsClosedIn}
use Rattle.hd_world.specs.Headline.{IsRebuilt}
use Rattle.hd_world.specs.Stops.{File, journal_entries}
use Rattle.hd_world.specs.World.{is_recovered}
use Rattle.hd_world.proofs.Leading.{posted_leads, entry_leads}

-- what is made again from entries without a fault is kept
pub again_kept : (t : Task) (entries : List Kid) → length entries < ROOT_PARENT → first_fault t [] entries ≡ None → IsBookKept (resumed_state t entries)
again_kept t entries short free = kept_from t entries [] (nothing_kept t) (omega (arith, short)) free

module _ (t : Task) (entries : List Kid) (kept : IsBookKept (resumed_state t entries)) (workers : ℕ) where
  abbrev b : BookState
  b = resumed_state t entries

  abbrev posted : List Kid
  posted = posted_by t (plans_at entries)

  -- ---- open successors

  among_posted : (k : Kid) → is_posted b k ≡ true → Contains posted k
  among_posted k e = subst (Contains posted) (stands b kept k e).kid (Contains-get_or posted (place_of b k) root (ltb-true (place_of b k) (length posted) e))

  pub open_at_owner : (k : Kid) → is_posted b k ≡ true → has entries k ≡ false → IsOpenAtOwner t entries workers k
  open_at_owner k is_there other =
      let there = posted_leads b kept k is_there in
      let p : Released = record { kid = k; state = there.0.state; cost = there.0.cost } in
      let id = state_hash p.state % workers in
      let here : Contains (open_at b k) p = subst (λ o. Contains (open_as k o) p) (sym there.1) (Contains-first p []) in
      let kid : Contains (open_kids t entries) k = Contains-filter (λ q. not (has entries q)) posted k (among_posted k is_there) (ap not other) in
      record {
        parcel = p;
        kid = refl;
        leads = there.1;
        among = Contains-filter (is_own id workers) (open_nodes t entries) p (Contains-flat_map (open_at b) (open_kids t entries) k p kid here) (eq-eqb id id refl);
      }

  -- ---- closed entries

  pub closed_at_owner : (n : ℕ) → n < length entries → IsClosedAtOwner t entries workers n
  closed_at_owner n lt =
      let there = entry_leads b kept n lt in
      let c : Closed = record { by = Entry n; state = there.0.state; cost = there.0.cost } in
      let id = state_hash c.state % workers in
      let here : Contains (entry_closed b n) c = subst (λ o. Contains (closed_as n o) c) (sym there.1) (Contains-first c []) in
      record {
        closed = c;
        by = refl;
        leads = there.1;
        among =
            Contains-filter (is_own_closed id workers) (closed_in b) c
            (Contains-flat_map (entry_closed b) (range_with_len 0 (length entries)) n c (Contains-range_with_len (length entries) n lt) here)
            (eq-eqb id id refl);
      }

  -- ---- places

  -- a successor that is not marked is posted, and no entry
  unmarked_posted : (k : Kid) → is_marked b k ≡ false → is_posted b k ≡ true
  unmarked_posted k free =
      elim (is_posted b k) as (λ p. is_posted b k ≡ p → p ≡ true) [
        | true ↦ λ _. refl
        | false ↦ λ e.
            let past : length posted ≤ place_of b k = ltb-false (place_of b k) (length posted) e in
            absurd (true≢false (sym (get_or_past b.marks (place_of b k) true (omega (arith, past, length-map posted (has entries)))) ∙ free))
      ] refl

  seat_there : (id : ℕ) → id < workers → slice_get (map (seat_after t entries workers) (range_with_len 0 workers)) id ≡ Some (seat_after t entries workers id)
  seat_there id lt =
      let seats = map (seat_after t entries workers) (range_with_len 0 workers) in
      let d = seat_after t entries workers id in
      slice_get-get_or seats id d (omega (arith, lt, length-map-range_with_len (seat_after t entries workers) 0 workers))
      ∙ ap (λ s. Some s) (get_or-map-range_with_len (seat_after t entries workers) 0 workers id id d lt (omega arith))

  count_seats : (most : ℕ) → length (run_after t most workers entries).seats ≡ workers
  count_seats most = length-map-range_with_len (seat_after t entries workers) 0 workers

  -- the worker that owns a state
  owner_there : (most hash : ℕ) → 1 ≤ workers
      → slice_get (run_after t most workers entries).seats (hash % length (run_after t most workers entries).seats) ≡ Some (seat_after t entries workers (hash % workers))
  owner_there most hash some =
      ap (λ (n : ℕ). slice_get (run_after t most workers entries).seats (hash % n)) (count_seats most)
      ∙ seat_there (hash % workers) (mod-lt hash (omega (arith, some)))

  pub open_in_run : (most : ℕ) (k : Kid) → 1 ≤ workers → is_posted b k ≡ true → has entries k ≡ false → IsOpenIn (run_after t most workers entries) k
  open_in_run most k some posted other =
      let o = open_at_owner k posted other in
      record {
        parcel = o.parcel;
        kid = o.kid;
        leads = o.leads;
        seat = seat_after t entries workers (state_hash o.parcel.state % workers);
        owner = owner_there most (state_hash o.parcel.state) some;
        among = o.among;
      }

  pub closed_in_run : (most n : ℕ) → 1 ≤ workers → n < length entries → IsClosedIn (run_after t most workers entries) n
  closed_in_run most n some lt =
      let c = closed_at_owner n lt in
      record {
        closed = c.closed;
        by = c.by;
        leads = c.leads;
        seat = seat_after t entries workers (state_hash c.closed.state % workers);
        owner = owner_there most (state_hash c.closed.state) some;
        among = c.among;
      }

  is_held : (most : ℕ) (k : Kid) → 1 ≤ workers → is_marked b k ≡ false → 1 ≤ in_run (weight_like k) (run_after t most workers entries)
  is_held most k some free =
      let is_there = unmarked_posted k free in
      let o = open_at_owner k is_there (sym (mark_is t entries kept k is_there) ∙ free) in
      let id = state_hash o.parcel.state % workers in
      let seat = seat_after t entries workers id in
      let seats = map (seat_after t entries workers) (range_with_len 0 workers) in
      let here = total_some (λ (p : Released). same_kid k p.kid) seat.worker.waiting
      (list_any-from_contains (λ (p : Released). same_kid k p.kid) seat.worker.waiting o.parcel o.among (ap (same_kid k) o.kid ∙ same_kid-refl k)) in
      let lt : id < workers = mod-lt (state_hash o.parcel.state) (omega (arith, some)) in
      omega (arith, here, total_at (in_seat (weight_like k)) seats id seat (seat_there id lt))

  pub in_one_place : (most : ℕ) (k : Kid) → 1 ≤ workers → in_run (weight_like k) (run_after t most workers entries) ≡ room_of b k
  in_one_place most k some =
      let few = starts_once t entries kept most workers k in
      elim (is_marked b k) as (λ m. is_marked b k ≡ m → in_run (weight_like k) (run_after t most workers entries) ≤ cond {A = ℕ} m 0 1 → in_run (weight_like k) (run_after t most workers entries) ≡ cond {A = ℕ} m 0 1) [
        | true ↦ λ _ few. omega (arith, few)
        | false ↦ λ free few. omega (arith, few, is_held most k some free)
      ] refl few

-- where a run begins
pub is_rebuilt : (t : Task) (f : File) (workers : ℕ) → 1 ≤ workers → is_recovered t f ≡ true → IsRebuilt workers f (run_after t (most_of f.version) workers (journal_entries f))
is_rebuilt t f workers some recovered =
    let entries = journal_entries f in
    let most = most_of f.version in
    let parts = and_parts (nat_le (length entries) most) (not (is_some (first_fault t [] entries))) recovered in
    let short : length entries < ROOT_PARENT = omega (arith, leb-true (length entries) most parts.0, most_numbered f.version) in
    let kept = again_kept t entries short (faultless (first_fault t [] entries) parts.1) in
    record {
      seats = count_seats t entries kept workers most;
      entries = refl;
      closed = λ n lt. closed_in_run t entries kept workers most n some lt;
      waiting = λ k posted other. open_in_run t entries kept workers most k some posted other;
    }
