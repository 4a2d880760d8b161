-- Lists that are handed out among owners.
use Rattle.std.proofs.Common.{◌≡◌, ℕ, zero, suc, ◌+◌, ◌<◌, ◌≤◌, ◌==◌, Bool, true, false, cond, List, [], ◌∷◌, ◌++◌, map, filter, length, get_or, set, refl, sym, ap, ◌∙◌, arith, length-set, append-nil}
use Rattle.std.specs.List.{range_with_len, count_by, sum_by}
use Rattle.std.proofs.lemmas.Bool.{eqb-true, eqb-false}
use Rattle.std.proofs.lemmas.List.Elements.{filter-append}
use Rattle.std.proofs.lemmas.List.Sums.{sum_by-cons}
use Rattle.std.proofs.lemmas.List.FromFn.{fill_by_all, length-map-range_with_len, get_or-map-range_with_len}
use Rattle.hd_base.proofs.Lists.{get_or-set}

-- ---- one among all

-- what is made from numbers, where that at one place is made otherwise
pub set_one :
    {X : Type 0} (f g : ℕ → X) (n o : ℕ) → o < n → ((i : ℕ) → (o == i) ≡ false → f i ≡ g i) → set (map f (range_with_len 0 n)) o (g o) ≡ map g (range_with_len 0 n)
set_one f g n o lt same =
    let xs = map f (range_with_len 0 n) in
    let long : length xs ≡ n = length-map-range_with_len f 0 n in
    fill_by_all g (set xs o (g o)) n (g o) (length-set xs o (g o) ∙ long) (λ k less.
    get_or-set xs o (g o) k (g o) (omega (arith, less, long))
    ∙ (elim (o == k) as (λ b. (o == k) ≡ b → cond b (g o) (get_or xs k (g o)) ≡ g k) [
      | true ↦ λ e. ap g (eqb-true o k e)
      | false ↦ λ e. get_or-map-range_with_len f 0 n k k (g o) less (omega arith) ∙ same k e
    ] refl))

-- those that pass a test, with one more after them
pub filter_in : {X : Type 0} (p : X → Bool) (xs : List X) (x : X) → p x ≡ true → filter p (xs ++ x ∷ []) ≡ filter p xs ++ x ∷ []
filter_in p xs x e = filter-append p xs (x ∷ []) ∙ ap (λ b. filter p xs ++ cond b (x ∷ []) []) e

pub filter_out : {X : Type 0} (p : X → Bool) (xs : List X) (x : X) → p x ≡ false → filter p xs ≡ filter p (xs ++ x ∷ [])
filter_out p xs x e = sym (filter-append p xs (x ∷ []) ∙ (ap (λ b. filter p xs ++ cond b (x ∷ []) []) e ∙ append-nil (filter p xs)))

-- ---- each with one owner

sum_by-same : (f g : ℕ → ℕ) → ((i : ℕ) → f i ≡ g i) → (xs : List ℕ) → sum_by f xs ≡ sum_by g xs
sum_by-same f g same [] = refl
sum_by-same f g same (x ∷ xs) = omega (arith, sum_by-cons f x xs, sum_by-cons g x xs, same x, sum_by-same f g same xs)

sum_by-plus : (f g : ℕ → ℕ) (xs : List ℕ) → sum_by (λ i. f i + g i) xs ≡ sum_by f xs + sum_by g xs
sum_by-plus f g [] = refl
sum_by-plus f g (x ∷ xs) = omega (arith, sum_by-cons (λ i. f i + g i) x xs, sum_by-cons f x xs, sum_by-cons g x xs, sum_by-plus f g xs)

sum_by-none : (xs : List ℕ) → sum_by (λ (i : ℕ). 0) xs ≡ 0
sum_by-none [] = refl
sum_by-none (x ∷ xs) = omega (arith, sum_by-cons (λ (i : ℕ). 0) x xs, sum_by-none xs)

module _ (o v : ℕ) where
  abbrev its : ℕ → ℕ
  its i = cond (o == i) v 0

  its_not : (i : ℕ) → (o ≡ i → ⊥) → its i ≡ 0
  its_not i other =
      elim (o == i) as (λ b. (o == i) ≡ b → cond b v 0 ≡ 0) [
        | true ↦ λ e. absurd (other (eqb-true o i e))
        | false ↦ λ _. refl
      ] refl

  -- a number is none of those after it
  missed : (a n : ℕ) → o < a → sum_by its (range_with_len a n) ≡ 0
  missed a zero lt = refl
  missed a (suc n) lt = omega (arith, sum_by-cons its a (range_with_len (a + 1) n), its_not a (λ e. omega (arith, e, lt)), missed (a + 1) n (omega (arith, lt)))

  -- and once among those from one on, where it is one of them
  pub found_once : (a n : ℕ) → a ≤ o → o < a + n → sum_by its (range_with_len a n) ≡ v
  found_once a zero le lt = absurd (omega (arith, le, lt))
  found_once a (suc n) le lt =
      elim (o == a) as (λ b. (o == a) ≡ b → sum_by its (range_with_len a (suc n)) ≡ v) [
        | true ↦ λ e.
            let same : o ≡ a = eqb-true o a e in
            let here : its a ≡ v = ap (λ b. cond b v 0) e in
            omega (arith, sum_by-cons its a (range_with_len (a + 1) n), here, missed (a + 1) n (omega (arith, same)))
        | false ↦ λ e.
            let other : o ≡ a → ⊥ = eqb-false o a e in
            let here : its a ≡ 0 = its_not a other in
            omega (arith, sum_by-cons its a (range_with_len (a + 1) n), here, found_once (a + 1) n (above other) (omega (arith, lt)))
      ] refl
    where
      above : (o ≡ a → ⊥) → a + 1 ≤ o
      above other = omega (arith, le, other)

module _ {X : Type 0} (p : X → Bool) (owner : X → ℕ) (n : ℕ) (owned : (x : X) → owner x < n) where
  one_more : (x : X) (xs : List X) (i : ℕ) → count_by p (filter (λ y. owner y == i) (x ∷ xs)) ≡ its (owner x) (cond (p x) 1 0) i + count_by p (filter (λ y. owner y == i) xs)
  one_more x xs i =
      elim (owner x == i) as (λ b. count_by p (cond b (x ∷ filter (λ y. owner y == i) xs) (filter (λ y. owner y == i) xs)) ≡ cond b (cond (p x) 1 0) 0 + count_by p (filter (λ y. owner y == i) xs)) [
        | true ↦ sum_by-cons (λ (y : X). cond (p y) 1 0) x (filter (λ y. owner y == i) xs)
        | false ↦ omega arith
      ]

  -- what is handed out among owners is there as often as before
  pub parts_count : (xs : List X) → sum_by (λ i. count_by p (filter (λ y. owner y == i) xs)) (range_with_len 0 n) ≡ count_by p xs
  parts_count [] = sum_by-none (range_with_len 0 n)
  parts_count (x ∷ xs) =
      let at = its (owner x) (cond (p x) 1 0) in
      let rest : ℕ → ℕ = λ i. count_by p (filter (λ y. owner y == i) xs) in
      let whole : count_by p (x ∷ xs) ≡ cond (p x) 1 0 + count_by p xs = sum_by-cons (λ (y : X). cond (p y) 1 0) x xs in
      sum_by-same (λ i. count_by p (filter (λ y. owner y == i) (x ∷ xs))) (λ i. at i + rest i) (one_more x xs) (range_with_len 0 n)
      ∙ omega (arith, sum_by-plus at rest (range_with_len 0 n), found_once (owner x) (cond (p x) 1 0) 0 n (omega arith) (omega (arith, owned x)), parts_count xs, whole)
