-- Where each successor of a run is in one place at most: no batch is refused, and a batch that is
-- accepted leaves it so.
use Rattle.std.proofs.Common.{◌≡◌, ℕ, ◌+◌, ◌<◌, ◌≤◌, ◌||◌, Bool, true, false, cond, not, Some, None, List, [], ◌∷◌, ◌++◌, map, length, get_or, refl, sym, ap, ap₂, ◌∙◌, subst, arith, length-append, append_assoc}
use Rattle.std.specs.Option.{option_or}
use Rattle.std.specs.List.{list_any, position_or_len, AllByRecursion}
use Rattle.std.proofs.lemmas.Bool.{or_parts, or_from, ltb-true, ltb-false}
use Rattle.std.proofs.lemmas.Option.{same_Some}
use Rattle.std.proofs.lemmas.List.{length-map, map-append, get_or_past}
use Rattle.std.proofs.lemmas.Simd.{map-map}
use Rattle.std.proofs.lemmas.List.Folds.{list_any-append}
use Rattle.hd_base.proofs.Truth.{or-false}
use Rattle.hd_base.proofs.Tests.{nat_lt-position_or_len, position_or_len-lt, position_or_len-append_left}
use Rattle.hd_base.proofs.Distinct.{AreApart, AreApart-map, AreApart-from_map}
use Rattle.hd_task.specs.declared.plan.Kid.{Kid}
use Rattle.hd_task.specs.declared.plan.TheConstants.{ROOT_PARENT}
use Rattle.hd_task.specs.Expansions.{generated}
use Rattle.hd_task.specs.Entries.{plan_of}
use Rattle.hd_task.proofs.Growing.{generated_once}
use Rattle.hd_tables.specs.Kids.{same_kid, kid_from}
use Rattle.hd_node.specs.Outcome.{kid_of}
use Rattle.hd_node.specs.Children.{ChildView}
use Rattle.hd_node.specs.declared.batch.Outcome.{Outcome}
use Rattle.hd_node.specs.declared.batch.Outcome.TheVariants.{Expanded, Duplicate, Bounded}
use Rattle.hd_entries.specs.Kids.{posted_by}
use Rattle.hd_entries.specs.Growing.{successor_count}
use Rattle.hd_entries.specs.Settling.{BookState, IsBookKept, IsOutcomeOfTask, expansions, is_marked, is_posted, place_of, is_settled_by, refusal_of, refusal_by, first_refusal, all_settled, knows_parent}
use Rattle.hd_entries.specs.Holding.{Released, released_from, released_by}
use Rattle.hd_entries.proofs.Accepting.{Follows, at_first, batch_follows, batch_task, same_kid-refl, stands, accepted_kept}
use Rattle.hd_entries.proofs.Held.{late}
use Rattle.hd_entries.proofs.Naming as naming
use Rattle.hd_entries.proofs.Posting.{posted_for, kids_led}
use Rattle.hd_turns.specs.Truth.{AreRight}
use Rattle.hd_world.specs.Once.{total, in_parcels, in_outcomes, weight_like, room_of}
use Rattle.hd_world.proofs.Sums.{one_if, total-append, total-map, total_some, total_none, total-apart}

-- ---- rooms

-- room for a successor is one at most
pub room_few : (b : BookState) (k : Kid) → room_of b k ≤ 1
room_few b k = elim (is_marked b k) as (λ m. cond {A = ℕ} m 0 1 ≤ 1) [ true ↦ omega arith | false ↦ omega arith ]

-- a successor that is somewhere is not settled
open_if_there : (b : BookState) (k : Kid) → 1 ≤ room_of b k → is_marked b k ≡ false
open_if_there b k h =
    elim (is_marked b k) as (λ m. 1 ≤ cond {A = ℕ} m 0 1 → m ≡ false) [
      | true ↦ λ h. absurd (omega (arith, h))
      | false ↦ λ _. refl
    ] h

-- ---- a batch is not refused

pub free_from : (b : BookState) (earlier later : List Outcome) → AreRight b earlier later → ((k : Kid) → in_outcomes (weight_like k) (earlier ++ later) ≤ room_of b k) → first_refusal b earlier later ≡ None
free_from b earlier [] x once = refl
free_from b earlier (o ∷ later) x once =
    let k = kid_of o in
    let whole = total-append (λ (q : Outcome). weight_like k (kid_of q)) earlier (o ∷ later) in
    let itself : weight_like k k ≡ 1 = ap one_if (same_kid-refl k) in
    let is_open : is_marked b k ≡ false = open_if_there b k (omega (arith, once k, whole, itself)) in
    let apart : is_settled_by earlier k ≡ false =
    elim (is_settled_by earlier k) as (λ s. is_settled_by earlier k ≡ s → s ≡ false) [
      | true ↦ λ e. absurd (omega (arith, once k, whole, itself, room_few b k, total_some (λ (q : Outcome). same_kid k (kid_of q)) earlier e))
      | false ↦ λ _. refl
    ] refl
    in
    let none : refusal_of b earlier o ≡ None =
    sym (late (knows_parent b k) (is_posted b k) (is_marked b k || is_settled_by earlier k) (refusal_by b earlier o) x.0.known x.0.posted (or_from (is_marked b k) (is_settled_by earlier k) is_open apart)) ∙ x.0.unrefused
    in
    ap (λ r. option_or r (first_refusal b (earlier ++ o ∷ []) later)) none
    ∙ free_from b (earlier ++ o ∷ []) later x.1
    (λ q. subst (λ (os : List Outcome). in_outcomes (weight_like q) os ≤ room_of b q) (sym (append_assoc earlier (o ∷ []) later)) (once q))

-- ---- a kept book

-- no successor is posted twice
pub posted_apart : (b : BookState) → IsBookKept b → AreApart (posted_by b.task (expansions b))
posted_apart b kept =
    let E = expansions b in
    let short : length E < ROOT_PARENT = omega (arith, naming.length-plans_of b.entries E kept.named, kept.short) in
    AreApart-from_map (plan_of E) (posted_by b.task E)
    (subst AreApart (sym (naming.posted_named b.task E short)) (AreApart-map Some (λ p q e. same_Some p q e) (generated b.task E) (generated_once b.task E kept.marked.legal)))

pub posted_once : (b : BookState) (k : Kid) → IsBookKept b → total (weight_like k) (posted_by b.task (expansions b)) ≤ 1
posted_once b k kept = total-apart k (posted_by b.task (expansions b)) (posted_apart b kept)

-- ---- what a batch releases

abbrev kids_of : List Released → List Kid
kids_of parcels = map (λ (p : Released). p.kid) parcels

pub released_kids : (n : ℕ) (outcomes : List Outcome) → posted_for n outcomes ≡ kids_of (released_by n outcomes)
released_kids n [] = refl
released_kids n (Expanded e ∷ outcomes) =
    ap₂ (λ (xs ys : List Kid). xs ++ ys) (map-map (kid_from n) (λ (c : ChildView). c.action) e.children ∙ sym (map-map (λ (p : Released). p.kid) (released_from n) e.children)) (released_kids (n + 1) outcomes)
    ∙ sym (map-append (λ (p : Released). p.kid) (map (released_from n) e.children) (released_by (n + 1) outcomes))
released_kids n (Duplicate k by ∷ outcomes) = let same : n ≡ n + 0 = omega arith in released_kids n outcomes ∙ ap (λ m. kids_of (released_by m outcomes)) same
released_kids n (Bounded k h ∷ outcomes) = let same : n ≡ n + 0 = omega arith in released_kids n outcomes ∙ ap (λ m. kids_of (released_by m outcomes)) same

pub length-released : (n : ℕ) (outcomes : List Outcome) → length (released_by n outcomes) ≡ successor_count outcomes
length-released n [] = refl
length-released n (Expanded e ∷ outcomes) =
    omega (arith, length-append (map (released_from n) e.children) (released_by (n + 1) outcomes), length-map e.children (released_from n), length-released (n + 1) outcomes)
length-released n (Duplicate k by ∷ outcomes) = omega (arith, length-released (n + 0) outcomes)
length-released n (Bounded k h ∷ outcomes) = omega (arith, length-released (n + 0) outcomes)

-- where none of the first ones passes, the first that does is after them
behind_them : (p : Kid → Bool) (xs ys : List Kid) → list_any p xs ≡ false → length xs ≤ position_or_len p (xs ++ ys)
behind_them p [] ys e = omega arith
behind_them p (x ∷ xs) ys e =
    let parts = or_parts (p x) (list_any p xs) e in
    let there : position_or_len p (x ∷ (xs ++ ys)) ≡ 1 + position_or_len p (xs ++ ys) = ap (λ (b : Bool). cond (not b) (1 + position_or_len p (xs ++ ys)) 0) parts.0 in
    omega (arith, there, behind_them p xs ys parts.1)

-- ---- a batch is committed

module _ (b : BookState) (batch : List Outcome) (kept : IsBookKept b) (own : AllByRecursion (IsOutcomeOfTask b.task) batch) (free : first_refusal b [] batch ≡ None) (room : length (all_settled b batch).entries < ROOT_PARENT) where
  abbrev after : BookState
  after = all_settled b batch

  abbrev new : List Released
  new = released_by (length b.entries) batch

  abbrev old : List Kid
  old = posted_by b.task (expansions b)

  follows : Follows b.task b.entries b.marks kept batch after.entries after.marks
  follows = batch_follows b.task b.entries b.marks kept [] batch b.entries b.marks (at_first b.task b.entries b.marks kept) free own room

  task_after : after.task ≡ b.task
  task_after = batch_task b.task b.entries b.marks kept batch free own room

  count_old : length (expansions b) ≡ length b.entries
  count_old = naming.length-plans_of b.entries (expansions b) kept.named

  kept_after : IsBookKept after
  kept_after = accepted_kept b batch kept own free room

  -- the successors that are posted then
  posted_after : posted_by after.task (expansions after) ≡ old ++ kids_of new
  posted_after =
      ap (λ u. posted_by u (expansions after)) task_after
      ∙ (ap (posted_by b.task) follows.tail
      ∙ (naming.posted_by-append b.task (expansions b) follows.more
      ∙ ap (λ ks. old ++ ks)
      (kids_led b.task (length (expansions b)) batch follows.more own follows.leads
      ∙ (ap (λ n. posted_for n batch) count_old ∙ released_kids (length b.entries) batch))))

  -- as many marks as successors
  marks_old : length b.marks ≡ length old
  marks_old = kept.marked.one_each ∙ sym (naming.posted_count b.task (expansions b) (omega (arith, count_old, kept.short)))

  marks_after : length after.marks ≡ length old + length new
  marks_after = omega (arith, follows.grown, marks_old, length-released (length b.entries) batch)

  -- how often a successor is among the new ones
  new_times : (k : Kid) → total (weight_like k) (kids_of new) ≡ in_parcels (weight_like k) new
  new_times k = total-map (weight_like k) (λ (p : Released). p.kid) new

  -- how often a successor is posted
  posted_times : (k : Kid) → total (weight_like k) old + in_parcels (weight_like k) new ≤ 1
  posted_times k = omega (arith, posted_once after k kept_after, ap (total (weight_like k)) posted_after, total-append (weight_like k) old (kids_of new), new_times k)

  -- a successor of the old ones: its mark, and that of the batch
  old_mark : (k : Kid) → is_posted b k ≡ true → is_marked after k ≡ (is_marked b k || is_settled_by batch k)
  old_mark k posted =
      let at = stands b kept k posted in
      let lt : place_of b k < length old = ltb-true (place_of b k) (length old) posted in
      let same : place_of after k ≡ place_of b k =
      ap (position_or_len (same_kid k)) posted_after ∙ position_or_len-append_left (same_kid k) old (kids_of new) lt
      in
      ap (λ n. get_or after.marks n true) same
      ∙ (follows.olds (place_of b k) (omega (arith, lt, marks_old))
      ∙ ap (λ q. is_marked b k || is_settled_by batch q) at.kid)

  -- a successor of the new ones is not marked
  new_mark : (k : Kid) → list_any (same_kid k) old ≡ false → list_any (same_kid k) (kids_of new) ≡ true → is_marked after k ≡ false
  new_mark k none some =
      let place : place_of after k ≡ position_or_len (same_kid k) (old ++ kids_of new) = ap (position_or_len (same_kid k)) posted_after in
      let within : position_or_len (same_kid k) (old ++ kids_of new) < length (old ++ kids_of new) =
      position_or_len-lt (same_kid k) (old ++ kids_of new) (list_any-append (same_kid k) old (kids_of new) ∙ ap₂ (λ (x y : Bool). x || y) none some)
      in
      follows.news (place_of after k)
      (omega (arith, place, behind_them (same_kid k) old (kids_of new) none, marks_old))
      (omega (arith, place, within, length-append old (kids_of new), length-map new (λ (p : Released). p.kid), marks_after))

  -- a successor that is not posted has no room
  none_unposted : (k : Kid) → is_posted b k ≡ false → room_of b k ≡ 0
  none_unposted k none =
      let past : length old ≤ place_of b k = ltb-false (place_of b k) (length old) none in
      ap (λ (m : Bool). cond {A = ℕ} m 0 1) (get_or_past b.marks (place_of b k) true (omega (arith, past, marks_old)))

  old_room : (k : Kid) → is_posted b k ≡ true → room_of b k + in_parcels (weight_like k) new ≤ room_of after k + in_outcomes (weight_like k) batch
  old_room k posted =
      let here : 1 ≤ total (weight_like k) old = total_some (same_kid k) old (sym (nat_lt-position_or_len (same_kid k) old) ∙ posted) in
      elim (is_settled_by batch k) as (λ s. is_settled_by batch k ≡ s → room_of b k + in_parcels (weight_like k) new ≤ room_of after k + in_outcomes (weight_like k) batch) [
        | true ↦ λ e. omega (arith, here, posted_times k, room_few b k, total_some (λ (o : Outcome). same_kid k (kid_of o)) batch e)
        | false ↦ λ e.
            let same : room_of after k ≡ room_of b k =
            ap (λ (m : Bool). cond {A = ℕ} m 0 1) (old_mark k posted ∙ (ap (λ s. is_marked b k || s) e ∙ or-false (is_marked b k)))
            in
            omega (arith, here, posted_times k, same)
      ] refl

  new_room : (k : Kid) → is_posted b k ≡ false → room_of b k + in_parcels (weight_like k) new ≤ room_of after k + in_outcomes (weight_like k) batch
  new_room k none =
      let none_old : list_any (same_kid k) old ≡ false = sym (nat_lt-position_or_len (same_kid k) old) ∙ none in
      elim (list_any (same_kid k) (kids_of new)) as (λ s. list_any (same_kid k) (kids_of new) ≡ s → room_of b k + in_parcels (weight_like k) new ≤ room_of after k + in_outcomes (weight_like k) batch) [
        | true ↦ λ e.
            let room_is : room_of after k ≡ 1 = ap (λ (m : Bool). cond {A = ℕ} m 0 1) (new_mark k none_old e) in
            omega (arith, none_unposted k none, posted_times k, room_is)
        | false ↦ λ e. omega (arith, none_unposted k none, new_times k, total_none (same_kid k) (kids_of new) e)
      ] refl

  -- the room for a successor and how often it is released, before and after
  pub commit_room_of : (k : Kid) → room_of b k + in_parcels (weight_like k) new ≤ room_of after k + in_outcomes (weight_like k) batch
  commit_room_of k =
      elim (is_posted b k) as (λ p. is_posted b k ≡ p → room_of b k + in_parcels (weight_like k) new ≤ room_of after k + in_outcomes (weight_like k) batch) [
        | true ↦ λ e. old_room k e
        | false ↦ λ e. new_room k e
      ] refl

  -- ---- no successor is lost

  -- a successor that is neither an old one nor a new one has no room then
  no_room_after : (k : Kid) → list_any (same_kid k) old ≡ false → list_any (same_kid k) (kids_of new) ≡ false → room_of after k ≡ 0
  no_room_after k none_old none_new =
      let none : list_any (same_kid k) (posted_by after.task (expansions after)) ≡ false =
      ap (list_any (same_kid k)) posted_after
      ∙ (list_any-append (same_kid k) old (kids_of new) ∙ ap₂ (λ (x y : Bool). x || y) none_old none_new)
      in
      let past : length (posted_by after.task (expansions after)) ≤ place_of after k =
      ltb-false (place_of after k) (length (posted_by after.task (expansions after))) (nat_lt-position_or_len (same_kid k) (posted_by after.task (expansions after)) ∙ none)
      in
      let count = ap length posted_after in
      ap (λ (m : Bool). cond {A = ℕ} m 0 1)
      (get_or_past after.marks (place_of after k) true (omega (arith, past, count, marks_after, length-append old (kids_of new), length-map new (λ (p : Released). p.kid))))

  old_room_is : (k : Kid) → is_posted b k ≡ true → in_outcomes (weight_like k) batch ≤ room_of b k → room_of b k + in_parcels (weight_like k) new ≡ room_of after k + in_outcomes (weight_like k) batch
  old_room_is k posted few =
      let here : 1 ≤ total (weight_like k) old = total_some (same_kid k) old (sym (nat_lt-position_or_len (same_kid k) old) ∙ posted) in
      elim (is_settled_by batch k) as (λ s. is_settled_by batch k ≡ s → room_of b k + in_parcels (weight_like k) new ≡ room_of after k + in_outcomes (weight_like k) batch) [
        | true ↦ λ e.
            let gone : room_of after k ≡ 0 =
            ap (λ (m : Bool). cond {A = ℕ} m 0 1) (old_mark k posted ∙ (ap (λ s. is_marked b k || s) e ∙ or-true (is_marked b k)))
            in
            omega (arith, here, posted_times k, room_few b k, few, gone, total_some (λ (o : Outcome). same_kid k (kid_of o)) batch e)
        | false ↦ λ e.
            let same : room_of after k ≡ room_of b k =
            ap (λ (m : Bool). cond {A = ℕ} m 0 1) (old_mark k posted ∙ (ap (λ s. is_marked b k || s) e ∙ or-false (is_marked b k)))
            in
            omega (arith, here, posted_times k, same, total_none (λ (o : Outcome). same_kid k (kid_of o)) batch e)
      ] refl
    where
      or-true : (x : Bool) → (x || true) ≡ true
      or-true true = refl
      or-true false = refl

  new_room_is : (k : Kid) → is_posted b k ≡ false → in_outcomes (weight_like k) batch ≤ room_of b k → room_of b k + in_parcels (weight_like k) new ≡ room_of after k + in_outcomes (weight_like k) batch
  new_room_is k none few =
      let none_old : list_any (same_kid k) old ≡ false = sym (nat_lt-position_or_len (same_kid k) old) ∙ none in
      elim (list_any (same_kid k) (kids_of new)) as (λ s. list_any (same_kid k) (kids_of new) ≡ s → room_of b k + in_parcels (weight_like k) new ≡ room_of after k + in_outcomes (weight_like k) batch) [
        | true ↦ λ e.
            let room_is : room_of after k ≡ 1 = ap (λ (m : Bool). cond {A = ℕ} m 0 1) (new_mark k none_old e) in
            omega (arith, few, none_unposted k none, posted_times k, room_is, new_times k, total_some (same_kid k) (kids_of new) e)
        | false ↦ λ e. omega (arith, few, none_unposted k none, new_times k, no_room_after k none_old e, total_none (same_kid k) (kids_of new) e)
      ] refl

  -- the same exactly, where the batch has no successor without room
  pub commit_room_is : (k : Kid) → in_outcomes (weight_like k) batch ≤ room_of b k → room_of b k + in_parcels (weight_like k) new ≡ room_of after k + in_outcomes (weight_like k) batch
  commit_room_is k few =
      elim (is_posted b k) as (λ p. is_posted b k ≡ p → room_of b k + in_parcels (weight_like k) new ≡ room_of after k + in_outcomes (weight_like k) batch) [
        | true ↦ λ e. old_room_is k e few
        | false ↦ λ e. new_room_is k e few
      ] refl
