-- What is handed to the worker that owns it, among all workers.
use Rattle.std.proofs.Common.{◌≡◌, ℕ, ◌+◌, ◌%◌, ◌<◌, ◌≤◌, false, Some, None, Result, Ok, Err, OnOk, List, [], ◌∷◌, ◌++◌, map, filter, length, get_or, set, slice_get, flat_map, refl, sym, ap, ap₂, ◌∙◌, arith, append-nil}
use Rattle.std.specs.Prelude.{option_and_then}
use Rattle.std.specs.List.{range_with_len, AllByRecursion}
use Rattle.std.proofs.Math.Nat.{mod-lt}
use Rattle.std.proofs.lemmas.Bool.{eq-eqb}
use Rattle.std.proofs.lemmas.Option.{none-some}
use Rattle.std.proofs.lemmas.Grind.{flat_map-append}
use Rattle.std.proofs.lemmas.List.FromFn.{length-map-range_with_len, get_or-map-range_with_len}
use Rattle.hd_base.proofs.Lists.{range_with_len_more}
use Rattle.hd_task.specs.declared.task.Task.{Task}
use Rattle.hd_task.specs.declared.state.State.{State}
use Rattle.hd_task.specs.Plans.{Node, exec, IsStateOf}
use Rattle.hd_task.proofs.Runs as runs
use Rattle.hd_zobrist.specs.Hash.{state_hash}
use Rattle.hd_node.specs.Parcel.{ParcelView}
use Rattle.hd_node.specs.declared.batch.By.TheVariants.{Entry}
use Rattle.hd_entries.specs.Settling.{BookState, entry_node, expansions}
use Rattle.hd_entries.specs.Holding.{Released, parcel_of}
use Rattle.hd_entries.specs.Resuming.{LeadsToState}
use Rattle.hd_closed.specs.Closed.{Closed}
use Rattle.hd_turns.specs.Worker.{WorkerView, is_own}
use Rattle.hd_turns.specs.Calls.{with_parcel, after_closing}
use Rattle.hd_recovery.proofs.Parts.{set_one, filter_in, filter_out}
use Rattle.hd_recovery.specs.Recovered.{entry_closed, open_as, open_at, is_own_closed, with_own, team, AreOfTask}

-- ---- one worker among all

-- a worker that holds just this
abbrev holding : Task → ℕ → ℕ → List Closed → List Released → WorkerView
holding t n id closed waiting = record {
  task = t;
  id = id;
  workers = n;
  waiting = waiting;
  closed = closed;
  given = [];
  outcomes = [];
  outbox = [];
  seen = None;
  room = 0;
  lent = false;
}

module _ (t : Task) (n : ℕ) (some : 1 ≤ n) where
  -- the owner of a state is one of the workers
  pub owner_within : (s : State) → state_hash s % n < n
  owner_within s = mod-lt (state_hash s) (omega (arith, some))

  pub length-team : (closed : List Closed) (waiting : List Released) → length (team t n closed waiting) ≡ n
  length-team closed waiting = length-map-range_with_len (with_own t n closed waiting) 0 n

  -- the worker at a place
  pub team_at : (closed : List Closed) (waiting : List Released) (i : ℕ) (d : WorkerView) → i < n → get_or (team t n closed waiting) i d ≡ with_own t n closed waiting i
  team_at closed waiting i d lt = get_or-map-range_with_len (with_own t n closed waiting) 0 n i i d lt (omega arith)

  pub closed_too : (closed : List Closed) (waiting : List Released) (m : ℕ) (s : State) (cost : ℕ) →
      let o = state_hash s % n in
      let c : Closed = record { by = Entry m; state = s; cost = cost } in
      set (team t n closed waiting) o (after_closing m s cost (with_own t n closed waiting o)) ≡ team t n (closed ++ c ∷ []) waiting
  closed_too closed waiting m s cost =
      let o = state_hash s % n in
      let c : Closed = record { by = Entry m; state = s; cost = cost } in
      let its : after_closing m s cost (with_own t n closed waiting o) ≡ with_own t n (closed ++ c ∷ []) waiting o =
      ap (λ cs. holding t n o cs (filter (is_own o n) waiting)) (sym (filter_in (is_own_closed o n) closed c (eq-eqb o o refl)))
      in
      ap (set (team t n closed waiting) o) its
      ∙ set_one (with_own t n closed waiting) (with_own t n (closed ++ c ∷ []) waiting) n o (owner_within s)
      (λ i e. ap (λ cs. holding t n i cs (filter (is_own i n) waiting)) (filter_out (is_own_closed i n) closed c e))

  pub taken_too : (closed : List Closed) (waiting : List Released) (r : Released) →
      let o = state_hash r.state % n in
      set (team t n closed waiting) o (with_parcel r (with_own t n closed waiting o)) ≡ team t n closed (waiting ++ r ∷ [])
  taken_too closed waiting r =
      let o = state_hash r.state % n in
      let its : with_parcel r (with_own t n closed waiting o) ≡ with_own t n closed (waiting ++ r ∷ []) o =
      ap (λ rs. holding t n o (filter (is_own_closed o n) closed) rs) (sym (filter_in (is_own o n) waiting r (eq-eqb o o refl)))
      in
      ap (set (team t n closed waiting) o) its
      ∙ set_one (with_own t n closed waiting) (with_own t n closed (waiting ++ r ∷ [])) n o (owner_within r.state)
      (λ i e. ap (λ rs. holding t n i (filter (is_own_closed i n) closed) rs) (filter_out (is_own i n) waiting r e))

  -- ---- what is read of one of them, and what follows where it gets something

  -- the worker that is read at a place
  read_at : (closed : List Closed) (waiting : List Released) (s : State) (o : ℕ) (ws : List WorkerView) (w : WorkerView)
      → o ≡ state_hash s % n → ws ≡ team t n closed waiting → w ≡ get_or ws o w → w ≡ with_own t n closed waiting (state_hash s % n)
  read_at closed waiting s o ws w at is there =
      there ∙ (ap₂ (λ (xs : List WorkerView) (i : ℕ). get_or xs i w) is at ∙ team_at closed waiting (state_hash s % n) w (owner_within s))

  pub of_task : (closed : List Closed) (waiting : List Released) (s : State) (o : ℕ) (ws : List WorkerView) (w : WorkerView)
      → o ≡ state_hash s % n → ws ≡ team t n closed waiting → w ≡ get_or ws o w → w.task ≡ t
  of_task closed waiting s o ws w at is there = ap (λ (v : WorkerView). v.task) (read_at closed waiting s o ws w at is there)

  pub closed_next : (closed : List Closed) (waiting : List Released) (m : ℕ) (s : State) (cost o : ℕ) (ws : List WorkerView) (w v : WorkerView)
      → o ≡ state_hash s % n → ws ≡ team t n closed waiting → w ≡ get_or ws o w → v ≡ after_closing m s cost w
      → set ws o v ≡ team t n (closed ++ record { by = Entry m; state = s; cost = cost } ∷ []) waiting
  closed_next closed waiting m s cost o ws w v at is there new =
      let now : v ≡ after_closing m s cost (with_own t n closed waiting (state_hash s % n)) = new ∙ ap (after_closing m s cost) (read_at closed waiting s o ws w at is there) in
      ap₂ (λ (xs : List WorkerView) (i : ℕ). set xs i v) is at ∙ (ap (set (team t n closed waiting) (state_hash s % n)) now ∙ closed_too closed waiting m s cost)

  pub taken_next : (closed : List Closed) (waiting : List Released) (r : Released) (o : ℕ) (ws : List WorkerView) (w v : WorkerView)
      → o ≡ state_hash r.state % n → ws ≡ team t n closed waiting → w ≡ get_or ws o w → v ≡ with_parcel r w
      → set ws o v ≡ team t n closed (waiting ++ r ∷ [])
  taken_next closed waiting r o ws w v at is there new =
      let now : v ≡ with_parcel r (with_own t n closed waiting (state_hash r.state % n)) = new ∙ ap (with_parcel r) (read_at closed waiting r.state o ws w at is there) in
      ap₂ (λ (xs : List WorkerView) (i : ℕ). set xs i v) is at ∙ (ap (set (team t n closed waiting) (state_hash r.state % n)) now ∙ taken_too closed waiting r)

-- workers of a team are of its task
pub team_of_task : (t : Task) (n : ℕ) (closed : List Closed) (waiting : List Released) (ws : List WorkerView) → ws ≡ team t n closed waiting → AreOfTask t ws
team_of_task t n closed waiting ws is = λ id d lt.
    let long = ap length is ∙ length-map-range_with_len (with_own t n closed waiting) 0 n in
    ap (λ (xs : List WorkerView). (get_or xs id d).task) is
    ∙ ap (λ (w : WorkerView). w.task) (get_or-map-range_with_len (with_own t n closed waiting) 0 n id id d (omega (arith, lt, long)) (omega arith))

-- what holds of an `Ok`, where something else does
pub on_ok : {X E P Q : Type 0} (r : Result X E) → (P → Q) → OnOk r P → OnOk r Q
on_ok (Ok x) f p = f p
on_ok (Err e) f p = tt

-- ---- all entries, and all parcels

-- one entry more
pub closed_more : (b : BookState) (m : ℕ) → flat_map (entry_closed b) (range_with_len 0 (m + 1)) ≡ flat_map (entry_closed b) (range_with_len 0 m) ++ entry_closed b m
closed_more b m =
    ap (flat_map (entry_closed b)) (range_with_len_more 0 m m (omega arith))
    ∙ (flat_map-append (entry_closed b) (range_with_len 0 m) (m ∷ []) ∙ ap (λ cs. flat_map (entry_closed b) (range_with_len 0 m) ++ cs) (append-nil (entry_closed b m)))

-- parcels that say of their successors where these lead
pub all_open : (b : BookState) (parcels : List ParcelView) → AllByRecursion (LeadsToState b) parcels → map parcel_of parcels ≡ flat_map (open_at b) (map (λ (p : ParcelView). p.kid) parcels)
all_open b [] lead = refl
all_open b (p ∷ parcels) lead = ap₂ (λ (xs ys : List Released). xs ++ ys) (sym (ap (open_as p.kid) lead.0.leads)) (all_open b parcels lead.1)

-- the state of an entry is one of the task
pub state_there : (b : BookState) (m : ℕ) (r : Node) → entry_node b m ≡ Some r → IsStateOf b.task r.state
state_there b m r e =
    elim (slice_get (expansions b) m) as (λ o. option_and_then (exec b.task) o ≡ Some r → IsStateOf b.task r.state) [
      | None ↦ λ e. absurd (none-some r e)
      | Some p ↦ λ e. runs.exec-state b.task p r e
    ] e
