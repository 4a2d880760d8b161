-- What the workers have of entries that name a legal list: all of it is true, none of it is lost,
-- and none is there twice.
use Rattle.std.proofs.Common.{◌≡◌, ℕ, ◌+◌, ◌%◌, ◌<◌, ◌≤◌, ◌==◌, ◌&&◌, ◌||◌, nat_lt, not, Bool, true, false, cond, Option, Some, None, List, [], ◌∷◌, map, length, slice_get, flat_map, refl, ◌∙◌, arith}
use Rattle.std.specs.Prelude.{option_and_then}
use Rattle.std.specs.List.{range_with_len, count_by, sum_by, AllByRecursion}
use Rattle.std.proofs.Math.Nat.{mod-lt}
use Rattle.std.proofs.lemmas.Bool.{lt-ltb}
use Rattle.std.proofs.lemmas.List.Folds.{fold-map}
use Rattle.std.proofs.lemmas.Option.{none-some, slice_get_within}
use Rattle.hd_base.proofs.Lists.{AllByRecursion-append}
use Rattle.hd_base.proofs.Members.{AllByRecursion-from_contains}
use Rattle.hd_base.proofs.Tests.{list_any-from_contains, nat_lt-position_or_len}
use Rattle.hd_task.specs.declared.task.Task.{Task}
use Rattle.hd_task.specs.declared.state.State.{State}
use Rattle.hd_task.specs.declared.plan.Kid.{Kid}
use Rattle.hd_task.specs.declared.plan.TheConstants.{ROOT_PARENT, ROOT_ACTION}
use Rattle.hd_task.specs.Plans.{Node, exec}
use Rattle.hd_task.specs.Entries.{plan_from}
use Rattle.hd_zobrist.specs.Hash.{state_hash}
use Rattle.hd_node.specs.declared.batch.By.TheVariants.{Entry}
use Rattle.hd_tables.specs.Kids.{same_kid}
use Rattle.hd_entries.specs.Kids.{posted_by}
use Rattle.hd_entries.specs.Settling.{BookState, IsBookKept, expansions, entry_node, node_of, knows_parent, is_posted}
use Rattle.hd_entries.specs.Holding.{Released}
use Rattle.hd_entries.specs.Resuming.{has, open_kids, resumed_state, AreLegal}
use Rattle.hd_entries.proofs.Accepting.{same_kid-refl}
use Rattle.hd_entries.proofs.Again.{nothing_kept}
use Rattle.hd_entries.proofs.Faultless.{kept_from, no_faults}
use Rattle.hd_entries.proofs.Naming as naming
use Rattle.hd_closed.specs.Closed.{Closed}
use Rattle.hd_turns.specs.Worker.{WorkerView, is_own}
use Rattle.hd_turns.specs.Truth.{IsTrueParcel, IsClosedBy, IsTrueWorker}
use Rattle.hd_turns.proofs.Lists.{AllByRecursion-filter}
use Rattle.hd_recovery.specs.Recovered.{closed_as, entry_closed, closed_in, open_as, open_at, open_nodes, is_own_closed, recovered_worker, recovered_workers}
use Rattle.hd_recovery.proofs.Parts.{parts_count}
use Rattle.hd_recovery.proofs.Leading.{kids_there, entries_there}

-- ---- what is open, and what is closed, is true

known_by : (b : BookState) (k : Kid) (r : Node) → length (expansions b) ≡ length b.entries → node_of b k ≡ Some r → knows_parent b k ≡ true
known_by b k r count e =
    let E = expansions b in
    elim (k.parent == ROOT_PARENT) as (λ x.
    option_and_then (exec b.task) (cond x (cond (k.action == ROOT_ACTION) (Some []) None) (plan_from (slice_get E k.parent) k.action)) ≡ Some r
    → ((x && (k.action == ROOT_ACTION)) || nat_lt k.parent (length b.entries)) ≡ true) [
      | true ↦ λ e.
          elim (k.action == ROOT_ACTION) as (λ y. option_and_then (exec b.task) (cond y (Some []) None) ≡ Some r → (y || nat_lt k.parent (length b.entries)) ≡ true) [
            | true ↦ λ _. refl
            | false ↦ λ e. absurd (none-some r e)
          ] e
      | false ↦ λ e.
          elim (slice_get E k.parent) as (λ o. slice_get E k.parent ≡ o → option_and_then (exec b.task) (plan_from o k.action) ≡ Some r → nat_lt k.parent (length b.entries) ≡ true) [
            | None ↦ λ _ e. absurd (none-some r e)
            | Some p ↦ λ is _. lt-ltb k.parent (length b.entries) (omega (arith, slice_get_within E k.parent p is, count))
          ] refl e
    ] e

module _ (b : BookState) (count : length (expansions b) ≡ length b.entries) where
  one_true : (k : Kid) (o : Option Node) → node_of b k ≡ o → is_posted b k ≡ true → AllByRecursion (IsTrueParcel b) (open_as k o)
  one_true k None at is = tt
  one_true k (Some r) at is = (record { known = known_by b k r count at; posted = is; leads = at }, tt)

  all_open_true : (kids : List Kid) → AllByRecursion (λ (k : Kid). is_posted b k ≡ true) kids → AllByRecursion (IsTrueParcel b) (flat_map (open_at b) kids)
  all_open_true [] is = tt
  all_open_true (k ∷ kids) is =
      AllByRecursion-append (IsTrueParcel b) (open_at b k) (flat_map (open_at b) kids) (one_true k (node_of b k) refl is.0) (all_open_true kids is.1)

one_closed : (b : BookState) (n : ℕ) (o : Option Node) → entry_node b n ≡ o → AllByRecursion (IsClosedBy b []) (closed_as n o)
one_closed b n None at = tt
one_closed b n (Some r) at = (at, tt)

all_closed_true : (b : BookState) (numbers : List ℕ) → AllByRecursion (IsClosedBy b []) (flat_map (entry_closed b) numbers)
all_closed_true b [] = tt
all_closed_true b (n ∷ numbers) =
    AllByRecursion-append (IsClosedBy b []) (entry_closed b n) (flat_map (entry_closed b) numbers) (one_closed b n (entry_node b n) refl) (all_closed_true b numbers)

module _ (t : Task) (entries : List Kid) (kept : IsBookKept (resumed_state t entries)) where
  abbrev b : BookState
  b = resumed_state t entries

  -- the successors that are no entries are posted
  all_posted : AllByRecursion (λ (k : Kid). is_posted b k ≡ true) (open_kids t entries)
  all_posted =
      let posted = posted_by t (expansions b) in
      AllByRecursion-filter (λ (k : Kid). is_posted b k ≡ true) (λ k. not (has entries k)) posted
      (AllByRecursion-from_contains (λ (k : Kid). is_posted b k ≡ true) posted
      (λ k c. nat_lt-position_or_len (same_kid k) posted ∙ list_any-from_contains (same_kid k) posted k c (same_kid-refl k)))

  -- the successors of what is open, and the names of what is closed
  pub all_kids : map (λ (r : Released). r.kid) (open_nodes t entries) ≡ open_kids t entries
  all_kids = kids_there b kept (open_kids t entries) all_posted

  pub all_entries : map (λ (c : Closed). c.by) (closed_in b) ≡ map Entry (range_with_len 0 (length entries))
  all_entries = entries_there b kept 0 (length entries) (omega arith)

  pub worker_true : (id workers : ℕ) → IsTrueWorker b (recovered_worker t entries id workers)
  worker_true id workers = record {
    of_task = refl;
    waiting = AllByRecursion-filter (IsTrueParcel b) (is_own id workers) (open_nodes t entries) (all_open_true b (naming.length-plans_of entries (expansions b) kept.named) (open_kids t entries) all_posted);
    numbered = refl;
    outcomes = tt;
    closed = AllByRecursion-filter (IsClosedBy b []) (is_own_closed id workers) (closed_in b) (all_closed_true b (range_with_len 0 (length entries)));
    outbox = tt;
    seen = tt;
  }

-- the book that has the entries of a legal list
pub legal_kept : (t : Task) (entries : List Kid) → length entries < ROOT_PARENT → AreLegal t entries → IsBookKept (resumed_state t entries)
legal_kept t entries short legal =
    kept_from t entries [] (nothing_kept t) (omega (arith, short)) (no_faults t entries [] legal.0 refl legal.1 legal.2)

-- ---- each is at one worker

module _ (t : Task) (entries : List Kid) (workers : ℕ) (some : 1 ≤ workers) where
  owned : (s : State) → state_hash s % workers < workers
  owned s = mod-lt (state_hash s) (omega (arith, some))

  pub open_parts : (p : Released → Bool) → sum_by (λ (w : WorkerView). count_by p w.waiting) (recovered_workers t entries workers) ≡ count_by p (open_nodes t entries)
  open_parts p =
      fold-map (λ (a : ℕ) (w : WorkerView). a + count_by p w.waiting) (λ id. recovered_worker t entries id workers) 0 (range_with_len 0 workers)
      ∙ parts_count p (λ (r : Released). state_hash r.state % workers) workers (λ r. owned r.state) (open_nodes t entries)

  pub closed_parts : (p : Closed → Bool) → sum_by (λ (w : WorkerView). count_by p w.closed) (recovered_workers t entries workers) ≡ count_by p (closed_in (resumed_state t entries))
  closed_parts p =
      fold-map (λ (a : ℕ) (w : WorkerView). a + count_by p w.closed) (λ id. recovered_worker t entries id workers) 0 (range_with_len 0 workers)
      ∙ parts_count p (λ (c : Closed). state_hash c.state % workers) workers (λ c. owned c.state) (closed_in (resumed_state t entries))
