-- Where nodes stand among those that slots hold.
use Rattle.std.proofs.Common.{◌≡◌, ◌⊎◌, ℕ, zero, suc, ◌+◌, ◌<◌, ◌≤◌, List, [], ◌∷◌, ◌++◌, Option, Some, None, length, set, slice_get, refl, sym, ap, ◌∙◌, subst, inl, inr, ⊎_elim, arith}
use Rattle.std.specs.List.{insert, remove}
use Rattle.std.proofs.lemmas.List.{length-append, take_all, take-append-le, take-set-le}
use Rattle.std.proofs.lemmas.Bool.{cases_lt}
use Rattle.std.proofs.lemmas.Option.{none-some, same_Some, slice_get_within}
use Rattle.hd_open.specs.Totals.{IsBest}
use Rattle.hd_open.specs.Live.{live, nodes_before, IsBestArrival}

-- after a node has come to a slot, there is one more after it
pub record IsPlaced {A : Type 0} (before after : List (Option A)) (arrival : ℕ) : Type 0 where
  pub up_to : (m : ℕ) → m ≤ arrival → nodes_before after m ≡ nodes_before before m
  pub behind : (m : ℕ) → arrival < m → nodes_before after m ≡ nodes_before before m + 1
  pub all : length (live after) ≡ length (live before) + 1

module _ {A : Type 0} where
  pub live-append : (xs ys : List (Option A)) → live (xs ++ ys) ≡ live xs ++ live ys
  live-append [] ys = refl
  live-append (Some x ∷ xs) ys = ap (λ (zs : List A). x ∷ zs) (live-append xs ys)
  live-append (None ∷ xs) ys = live-append xs ys

  -- ---- places

  pub place_more_some : (slots : List (Option A)) (i : ℕ) (x : A) → slice_get slots i ≡ Some (Some x) → nodes_before slots (i + 1) ≡ nodes_before slots i + 1
  place_more_some [] i x at = absurd (none-some (Some x) at)
  place_more_some (Some y ∷ slots) zero x at = refl
  place_more_some (None ∷ slots) zero x at = absurd (cc)
  place_more_some (Some y ∷ slots) (suc i) x at =
      let shift : suc i + 1 ≡ suc (i + 1) = omega arith in
      let moved : nodes_before (Some y ∷ slots) (suc i + 1) ≡ nodes_before (Some y ∷ slots) (suc (i + 1)) = ap (nodes_before (Some y ∷ slots)) shift in
      let rest = place_more_some slots i x at in
      omega arith
  place_more_some (None ∷ slots) (suc i) x at =
      let shift : suc i + 1 ≡ suc (i + 1) = omega arith in
      ap (nodes_before (None ∷ slots)) shift ∙ place_more_some slots i x at

  pub place_at-le : (slots : List (Option A)) (m n : ℕ) → m ≤ n → nodes_before slots m ≤ nodes_before slots n
  place_at-le [] zero n le = omega arith
  place_at-le [] (suc m) n le = omega arith
  place_at-le (x ∷ slots) zero n le = omega arith
  place_at-le (x ∷ slots) (suc m) zero le = absurd (omega arith)
  place_at-le (Some x ∷ slots) (suc m) (suc n) le = let rest = place_at-le slots m n (omega arith) in omega arith
  place_at-le (None ∷ slots) (suc m) (suc n) le = place_at-le slots m n (omega arith)

  -- all nodes stand before the end
  pub place_all : (slots : List (Option A)) (m : ℕ) → length slots ≤ m → nodes_before slots m ≡ length (live slots)
  place_all slots m le = ap (λ (xs : List (Option A)). length (live xs)) (take_all m slots le)

  pub place_at-le-all : (slots : List (Option A)) (m : ℕ) → nodes_before slots m ≤ length (live slots)
  place_at-le-all [] zero = omega arith
  place_at-le-all [] (suc m) = omega arith
  place_at-le-all (x ∷ slots) zero = omega arith
  place_at-le-all (Some x ∷ slots) (suc m) = let rest = place_at-le-all slots m in omega arith
  place_at-le-all (None ∷ slots) (suc m) = place_at-le-all slots m

  pub length-live-le : (slots : List (Option A)) → length (live slots) ≤ length slots
  length-live-le [] = omega arith
  length-live-le (Some x ∷ slots) = let rest = length-live-le slots in omega arith
  length-live-le (None ∷ slots) = let rest = length-live-le slots in omega arith

  -- where a slot is empty, there are fewer nodes than slots
  pub length-live-lt : (slots : List (Option A)) (i : ℕ) → slice_get slots i ≡ Some None → length (live slots) < length slots
  length-live-lt [] i at = absurd (cc)
  length-live-lt (Some x ∷ slots) zero at = absurd (cc)
  length-live-lt (None ∷ slots) zero at = let rest = length-live-le slots in omega arith
  length-live-lt (Some x ∷ slots) (suc i) at = let rest = length-live-lt slots i at in omega arith
  length-live-lt (None ∷ slots) (suc i) at = let rest = length-live-lt slots i at in omega arith

  -- fewer nodes stand before an arrival than slots
  pub place_at-le-arrival : (slots : List (Option A)) (m : ℕ) → nodes_before slots m ≤ m
  place_at-le-arrival [] zero = omega arith
  place_at-le-arrival [] (suc m) = omega arith
  place_at-le-arrival (x ∷ slots) zero = omega arith
  place_at-le-arrival (Some x ∷ slots) (suc m) = let rest = place_at-le-arrival slots m in omega arith
  place_at-le-arrival (None ∷ slots) (suc m) = let rest = place_at-le-arrival slots m in omega arith

  -- where nodes stand after an arrival, it is among the slots
  pub place_less : (slots : List (Option A)) (m : ℕ) → nodes_before slots m < length (live slots) → m < length slots
  place_less slots m less =
      elim (cases_lt m (length slots)) [
        | inl lt ↦ lt
        | inr le ↦ let all = place_all slots m le in absurd (omega arith)
      ]

  -- ---- a node at its place

  pub live_get : (slots : List (Option A)) (i : ℕ) (x : A) → slice_get slots i ≡ Some (Some x) → slice_get (live slots) (nodes_before slots i) ≡ Some x
  live_get [] i x at = absurd (none-some (Some x) at)
  live_get (Some y ∷ slots) zero x at = same_Some (Some y) (Some x) at
  live_get (None ∷ slots) zero x at = absurd (cc)
  live_get (Some y ∷ slots) (suc i) x at = live_get slots i x at
  live_get (None ∷ slots) (suc i) x at = live_get slots i x at

  pub live_from : (slots : List (Option A)) (p : ℕ) (x : A) → slice_get (live slots) p ≡ Some x → (i : ℕ) × (slice_get slots i ≡ Some (Some x)) × (nodes_before slots i ≡ p)
  live_from [] p x at = absurd (none-some x at)
  live_from (Some y ∷ slots) zero x at = (0, ap Some at, refl)
  live_from (Some y ∷ slots) (suc p) x at = let rest = live_from slots p x at in (suc rest.0, rest.1, ap suc rest.2)
  live_from (None ∷ slots) p x at = let rest = live_from slots p x at in (suc rest.0, rest.1, rest.2)

  pub live_none : (slots : List (Option A)) → ((i : ℕ) (x : A) → slice_get slots i ≡ Some (Some x) → ⊥) → live slots ≡ []
  live_none [] none = refl
  live_none (Some x ∷ slots) none = absurd (none zero x refl)
  live_none (None ∷ slots) none = live_none slots (λ i x at. none (suc i) x at)

  -- ---- nodes come and go

  pub live-set-none : (slots : List (Option A)) (i : ℕ) (x : A) → slice_get slots i ≡ Some (Some x) → live (set slots i None) ≡ remove (live slots) (nodes_before slots i)
  live-set-none [] i x at = absurd (none-some (Some x) at)
  live-set-none (Some y ∷ slots) zero x at = refl
  live-set-none (None ∷ slots) zero x at = absurd (cc)
  live-set-none (Some y ∷ slots) (suc i) x at = ap (λ (zs : List A). y ∷ zs) (live-set-none slots i x at)
  live-set-none (None ∷ slots) (suc i) x at = live-set-none slots i x at

  pub live-set-some : (slots : List (Option A)) (i : ℕ) (x : A) → slice_get slots i ≡ Some None → live (set slots i (Some x)) ≡ insert (live slots) (nodes_before slots i) x
  live-set-some [] i x at = absurd (cc)
  live-set-some (Some y ∷ slots) zero x at = absurd (cc)
  live-set-some (None ∷ slots) zero x at = refl
  live-set-some (Some y ∷ slots) (suc i) x at = ap (λ (zs : List A). y ∷ zs) (live-set-some slots i x at)
  live-set-some (None ∷ slots) (suc i) x at = live-set-some slots i x at

  -- a node comes to an empty slot
  place_set_behind : (slots : List (Option A)) (i : ℕ) (x : A) (m : ℕ) → slice_get slots i ≡ Some None → i < m → nodes_before (set slots i (Some x)) m ≡ nodes_before slots m + 1
  place_set_behind [] i x m at behind = absurd (cc)
  place_set_behind (y ∷ slots) i x zero at behind = absurd (omega arith)
  place_set_behind (Some y ∷ slots) zero x (suc m) at behind = absurd (cc)
  place_set_behind (None ∷ slots) zero x (suc m) at behind = omega arith
  place_set_behind (Some y ∷ slots) (suc i) x (suc m) at behind = let rest = place_set_behind slots i x m at (omega arith) in omega arith
  place_set_behind (None ∷ slots) (suc i) x (suc m) at behind = place_set_behind slots i x m at (omega arith)

  all_set : (slots : List (Option A)) (i : ℕ) (x : A) → slice_get slots i ≡ Some None → length (live (set slots i (Some x))) ≡ length (live slots) + 1
  all_set [] i x at = absurd (cc)
  all_set (Some y ∷ slots) zero x at = absurd (cc)
  all_set (None ∷ slots) zero x at = omega arith
  all_set (Some y ∷ slots) (suc i) x at = let rest = all_set slots i x at in omega arith
  all_set (None ∷ slots) (suc i) x at = all_set slots i x at

  pub placed_set : (slots : List (Option A)) (i : ℕ) (x : A) → slice_get slots i ≡ Some None → IsPlaced slots (set slots i (Some x)) i
  placed_set slots i x at = record {
    up_to = λ m le. ap (λ (xs : List (Option A)). length (live xs)) (take-set-le m slots i (Some x) le);
    behind = λ m behind. place_set_behind slots i x m at behind;
    all = all_set slots i x at;
  }

  -- the slot that a node has left, and the node in it again
  slice_get-set_here : (slots : List (Option A)) (i : ℕ) (y : Option A) → i < length slots → slice_get (set slots i y) i ≡ Some y
  slice_get-set_here [] i y within = absurd (omega arith)
  slice_get-set_here (x ∷ slots) zero y within = refl
  slice_get-set_here (x ∷ slots) (suc i) y within = slice_get-set_here slots i y (omega arith)

  set-set_same : (slots : List (Option A)) (i : ℕ) (y : Option A) (x : Option A) → slice_get slots i ≡ Some x → set (set slots i y) i x ≡ slots
  set-set_same [] i y x at = absurd (none-some x at)
  set-set_same (z ∷ slots) zero y x at = ap (λ (w : Option A). w ∷ slots) (sym (same_Some z x at))
  set-set_same (z ∷ slots) (suc i) y x at = ap (λ (ws : List (Option A)). z ∷ ws) (set-set_same slots i y x at)

  pub emptied : (slots : List (Option A)) (i : ℕ) (x : A) → slice_get slots i ≡ Some (Some x) → slice_get (set slots i None) i ≡ Some None
  emptied slots i x at = slice_get-set_here slots i None (slice_get_within slots i (Some x) at)

  pub placed_left : (slots : List (Option A)) (i : ℕ) (x : A) → slice_get slots i ≡ Some (Some x) → IsPlaced (set slots i None) slots i
  placed_left slots i x at =
      subst (λ (after : List (Option A)). IsPlaced (set slots i None) after i) (set-set_same slots i None (Some x) at) (placed_set (set slots i None) i x (emptied slots i x at))

  pub placed_push : (slots : List (Option A)) (x : A) → IsPlaced slots (slots ++ Some x ∷ []) (length slots)
  placed_push slots x = record {
    up_to = λ m le. ap (λ (xs : List (Option A)). length (live xs)) (take-append-le m slots (Some x ∷ []) le);
    behind = λ m behind.
        let longer = length-append slots (Some x ∷ []) in
        let after = place_all (slots ++ Some x ∷ []) m (omega arith) in
        let before = place_all slots m (omega arith) in
        let all = more in
        omega arith;
    all = more;
  }
    where
      more : length (live (slots ++ Some x ∷ [])) ≡ length (live slots) + 1
      more = ap length (live-append slots (Some x ∷ [])) ∙ length-append (live slots) (x ∷ [])

  -- what stands elsewhere
  pub slice_get-set_else : (slots : List (Option A)) (i k : ℕ) (y z : Option A) → slice_get (set slots i y) k ≡ Some z → ((i ≡ k) × (y ≡ z)) ⊎ (slice_get slots k ≡ Some z)
  slice_get-set_else [] i k y z at = inr at
  slice_get-set_else (x ∷ slots) zero zero y z at = inl (refl, same_Some y z at)
  slice_get-set_else (x ∷ slots) zero (suc k) y z at = inr at
  slice_get-set_else (x ∷ slots) (suc i) zero y z at = inr at
  slice_get-set_else (x ∷ slots) (suc i) (suc k) y z at =
      ⊎_elim (λ here. inl (ap suc here.0, here.1)) (λ else. inr else) (slice_get-set_else slots i k y z at)

  pub slice_get-push_else : (slots : List (Option A)) (k : ℕ) (y z : Option A) → slice_get (slots ++ y ∷ []) k ≡ Some z → ((length slots ≡ k) × (y ≡ z)) ⊎ (slice_get slots k ≡ Some z)
  slice_get-push_else [] zero y z at = inl (refl, same_Some y z at)
  slice_get-push_else [] (suc k) y z at = absurd (none-some z at)
  slice_get-push_else (x ∷ slots) zero y z at = inr at
  slice_get-push_else (x ∷ slots) (suc k) y z at =
      ⊎_elim (λ last. inl (ap suc last.0, last.1)) (λ else. inr else) (slice_get-push_else slots k y z at)

  -- ---- the best node

  pub best_place : (total : A → Option ℕ) (slots : List (Option A)) (i : ℕ) → IsBestArrival total slots i → IsBest total (live slots) (nodes_before slots i)
  best_place total slots i b = record {
    node = b.node;
    there = live_get slots i b.node b.there;
    least = λ k other at.
        let from = live_from slots k other at in
        ⊎_elim (λ less. inl less) (λ same. inr (same.0, (let le = place_at-le slots i from.0 same.1 in let is = from.2 in omega arith))) (b.least from.0 other from.1);
  }

  -- the same, of what contracts see
  pub best_of_view :
      (total : A → Option ℕ) (slots : List (Option A)) (nodes : List A) (i place : ℕ) → live slots ≡ nodes → IsBestArrival total slots i
      → place ≡ nodes_before slots i → IsBest total nodes place
  best_of_view total slots nodes i place is best at =
      subst (λ (ns : List A). IsBest total ns place) is (subst (λ (k : ℕ). IsBest total (live slots) k) (sym at) (best_place total slots i best))

  pub get_of_view :
      (slots : List (Option A)) (nodes : List A) (i place : ℕ) (x : A) → live slots ≡ nodes → slice_get slots i ≡ Some (Some x)
      → nodes_before slots i ≡ place → slice_get nodes place ≡ Some x
  get_of_view slots nodes i place x is at stands =
      subst (λ (ns : List A). slice_get ns place ≡ Some x) is (subst (λ (k : ℕ). slice_get (live slots) k ≡ Some x) stands (live_get slots i x at))
