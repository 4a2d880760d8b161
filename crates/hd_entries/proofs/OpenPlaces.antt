-- The successors that are no entries, one after the other.
use Rattle.std.proofs.Common.{◌≡◌, ℕ, ◌+◌, ◌<◌, ◌≤◌, ◌==◌, Bool, true, false, cond, not, nat_lt, Option, Some, None, List, [], ◌∷◌, ◌++◌, map, filter, take, drop, length, get_or, slice_get, Contains, inl, inr, refl, sym, ap, ◌∙◌, subst, arith, append-nil, take_all, take-append-drop}
use Rattle.std.specs.List.{AllByRecursion}
use Rattle.std.proofs.lemmas.List.{get_or-map}
use Rattle.std.proofs.lemmas.Bool.{cases_eq, and_from, eq-eqb, lt-ltb, or_left, or_right, cond-true}
use Rattle.std.proofs.lemmas.Option.{none-some}
use Rattle.std.proofs.lemmas.List.Elements.{Contains-get_or, Contains-append_left, filter-append, filter_more}
use Rattle.hd_base.proofs.Tests.{nat_lt-position_or_len, list_any-from_contains}
use Rattle.hd_task.specs.declared.plan.Kid.{Kid}
use Rattle.hd_task.specs.declared.plan.TheConstants.{ROOT_PARENT, ROOT_ACTION}
use Rattle.hd_task.specs.Entries.{plan_from, plan_of}
use Rattle.hd_tables.specs.Kids.{root, same_kid}
use Rattle.hd_node.specs.Parcel.{ParcelView}
use Rattle.hd_entries.specs.Kids.{posted_by}
use Rattle.hd_entries.specs.Settling.{BookState, IsBookKept, expansions, is_posted, knows_parent}
use Rattle.hd_entries.specs.declared.content.EntriesContent.{EntriesContent}
use Rattle.hd_entries.specs.Holding.{posted_count, state_of, IsHeld}
use Rattle.hd_entries.specs.Resuming.{has, open_before, open_kids, open_in, IsOpenAt, LeadsToState}
use Rattle.hd_entries.specs.Waiting.{IsAgain}
use Rattle.hd_entries.proofs.Accepting.{count-entries, same_kid-refl, stands}
use Rattle.hd_entries.proofs.Naming as naming
use Rattle.hd_entries.proofs.Walking.{parent_names}

-- ---- what stands at a place

-- a successor whose parent is the root's and that names a plan is the root
root_action : (k : Kid) (o : Option (List ℕ)) (p : List ℕ) (c : Bool) → cond c (Some []) o ≡ Some p → o ≡ None → c ≡ true
root_action k o p true e none = refl
root_action k o p false e none = absurd (none-some p (sym none ∙ e))

-- a successor that names a plan has a known parent
known_by_plan : (b : BookState) → IsBookKept b → (k : Kid) (p : List ℕ) → plan_of (expansions b) k ≡ Some p → knows_parent b k ≡ true
known_by_plan b kept k p is =
    elim (cases_eq k.parent ROOT_PARENT) [
      | inl e ↦
          let from : cond (k.action == ROOT_ACTION) (Some []) None ≡ Some p =
          sym (cond-true (k.parent == ROOT_PARENT) (cond (k.action == ROOT_ACTION) (Some []) None) (plan_from (slice_get (expansions b) k.parent) k.action) (eq-eqb k.parent ROOT_PARENT e)) ∙ is
          in
          or_left (same_kid k root) (nat_lt k.parent (length b.entries))
          (and_from (k.parent == ROOT_PARENT) (k.action == ROOT_ACTION) (eq-eqb k.parent ROOT_PARENT e) (root_action k None p (k.action == ROOT_ACTION) from refl))
      | inr ne ↦
          let within = (parent_names (expansions b) k p ne is).within in
          let count = count-entries b kept in
          or_right (same_kid k root) (nat_lt k.parent (length b.entries)) (lt-ltb k.parent (length b.entries) (omega (arith, within, count)))
    ]

-- the successor at a place is posted, and its parent is known
pub record IsThere (b : BookState) (k : Kid) : Type 0 where
  pub known : knows_parent b k ≡ true
  pub posted : is_posted b k ≡ true

-- as many successors are posted as plans are generated
pub places_are : (b : BookState) → IsBookKept b → length (posted_by b.task (expansions b)) ≡ posted_count b
places_are b kept =
    let count = count-entries b kept in
    let short = kept.short in
    naming.posted_count b.task (expansions b) (omega (arith, count, short))

pub within_posted : (b : BookState) → IsBookKept b → (place : ℕ) → place < posted_count b → place < length (posted_by b.task (expansions b))
within_posted b kept place lt = let count = places_are b kept in omega (arith, lt, count)

-- a place of the definition is one of the table
pub in_table : (s : EntriesContent) (place : ℕ) → IsHeld s → place < posted_count (state_of s) → place < length s.kids.kids
in_table s place held lt =
    let long = ap (λ (ks : List Kid). length ks) held.posts.posted in
    let inside = within_posted (state_of s) held.kept place lt in
    omega (arith, long, inside)

pub there_at : (b : BookState) → IsBookKept b → (place : ℕ) → place < posted_count b → IsThere b (get_or (posted_by b.task (expansions b)) place root)
there_at b kept place inside =
    let P = posted_by b.task (expansions b) in
    let lt = within_posted b kept place inside in
    let k = get_or P place root in
    let posted : is_posted b k ≡ true =
    nat_lt-position_or_len (same_kid k) P ∙ list_any-from_contains (same_kid k) P k (Contains-get_or P place root lt) (same_kid-refl k)
    in
    let at = stands b kept k posted in
    record { known = known_by_plan b kept k _ at.plan; posted = posted }

-- ---- what is open

-- the mark of a place tells whether the successor there is an entry
mark_tells : (b : BookState) → IsAgain b → (place : ℕ) → place < length (posted_by b.task (expansions b)) → (c : Bool) → get_or b.marks place true ≡ c → has b.entries (get_or (posted_by b.task (expansions b)) place root) ≡ c
mark_tells b again place lt c is =
    let P = posted_by b.task (expansions b) in
    sym (get_or-map (has b.entries) P place root true lt) ∙ (sym (ap (λ (x : BookState). get_or x.marks place true) again) ∙ is)

next_of : (b : BookState) (place : ℕ) → place < length (posted_by b.task (expansions b)) → (c : Bool) → has b.entries (get_or (posted_by b.task (expansions b)) place root) ≡ c
    → open_before b (place + 1) ≡ open_before b place ++ cond (not c) (get_or (posted_by b.task (expansions b)) place root ∷ []) []
next_of b place lt c is =
    let P = posted_by b.task (expansions b) in
    filter_more (λ k. not (has b.entries k)) P place root lt
    ∙ ap (λ (x : Bool). open_before b place ++ cond (not x) (get_or P place root ∷ []) []) is

-- the successors before the next place, by the mark of this one
pub open_here : (b : BookState) → IsBookKept b → IsAgain b → (place : ℕ) → place < posted_count b → (c : Bool) → get_or b.marks place true ≡ c
    → open_before b (place + 1) ≡ open_before b place ++ cond (not c) (get_or (posted_by b.task (expansions b)) place root ∷ []) []
open_here b kept again place inside c is =
    let lt = within_posted b kept place inside in
    next_of b place lt c (mark_tells b again place lt c is)

-- one place more
pub open_more :
    (b : BookState) → IsBookKept b → IsAgain b → (place : ℕ) → place < posted_count b → (o : Option ParcelView) → IsOpenAt b place o
    → open_before b place ++ map (λ (p : ParcelView). p.kid) (open_in o) ≡ open_before b (place + 1)
open_more b kept again place inside None at =
    let lt = within_posted b kept place inside in
    append-nil (open_before b place) ∙ sym (next_of b place lt true (mark_tells b again place lt true at) ∙ append-nil (open_before b place))
open_more b kept again place inside (Some p) at =
    let lt = within_posted b kept place inside in
    ap (λ (k : Kid). open_before b place ++ k ∷ []) at.1 ∙ sym (next_of b place lt false (mark_tells b again place lt false at.0))

pub open_leads : (b : BookState) (place : ℕ) (o : Option ParcelView) → IsOpenAt b place o → AllByRecursion (LeadsToState b) (open_in o)
open_leads b place None at = tt
open_leads b place (Some p) at = (at.2, tt)

-- all places
pub all_open : (b : BookState) → IsBookKept b → (places : ℕ) → posted_count b ≤ places → open_before b places ≡ open_kids b.task b.entries
all_open b kept places le =
    let count = places_are b kept in
    ap (filter (λ k. not (has b.entries k))) (take_all places (posted_by b.task (expansions b)) (omega (arith, le, count)))

-- a successor at one of the first places that is no entry is one of all that are no entries
pub before_among : (b : BookState) (places : ℕ) (k : Kid) → Contains (open_before b places) k → Contains (open_kids b.task b.entries) k
before_among b places k c =
    let P = posted_by b.task (expansions b) in
    let is_open : Kid → Bool = λ k. not (has b.entries k) in
    subst (λ (ks : List Kid). Contains (filter is_open ks) k) (take-append-drop places P)
    (subst (λ (ks : List Kid). Contains ks k) (sym (filter-append is_open (take places P) (drop places P))) (Contains-append_left (filter is_open (take places P)) (filter is_open (drop places P)) k c))
