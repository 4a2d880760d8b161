-- Sums over a list that is read at a place, as the views of a queue's passes are.
use Rattle.std.proofs.Common.{◌≡◌, ◌≢◌, ℕ, zero, suc, ◌+◌, ◌≤◌, List, [], ◌∷◌, set, sym, refl, ap, arith}
use Rattle.std.specs.List.{sum_by}
use Rattle.std.proofs.lemmas.List.Sums.{sum_by-cons}
use mathlib.Core.Option.{some, some-injective, some-ne-none}
use lib.ListN.{get_elem?}

module _ {X : Type 0} (f : X → ℕ) where
  -- the sum after a change at one place
  pub sum_set : (xs : List X) (i : ℕ) (x y : X) → get_elem? xs i ≡ some x → sum_by f (set xs i y) + f x ≡ sum_by f xs + f y
  sum_set [] i x y e = absurd (some-ne-none x (sym e))
  sum_set (z ∷ zs) zero x y e = let is : f z ≡ f x = ap f (some-injective z x e) in omega (arith, is, sum_by-cons f y zs, sum_by-cons f z zs)
  sum_set (z ∷ zs) (suc i) x y e = omega (arith, sum_set zs i x y e, sum_by-cons f z (set zs i y), sum_by-cons f z zs)

  -- one of the numbers is at most the sum
  pub sum_at : (xs : List X) (i : ℕ) (x : X) → get_elem? xs i ≡ some x → f x ≤ sum_by f xs
  sum_at [] i x e = absurd (some-ne-none x (sym e))
  sum_at (z ∷ zs) zero x e = let is : f z ≡ f x = ap f (some-injective z x e) in omega (arith, is, sum_by-cons f z zs)
  sum_at (z ∷ zs) (suc i) x e = omega (arith, sum_at zs i x e, sum_by-cons f z zs)

  -- and so are two of them together
  pub sum_two : (xs : List X) (i j : ℕ) (x y : X) → j ≢ i → get_elem? xs i ≡ some x → get_elem? xs j ≡ some y → f x + f y ≤ sum_by f xs
  sum_two [] i j x y n e h = absurd (some-ne-none x (sym e))
  sum_two (z ∷ zs) zero zero x y n e h = absurd (n refl)
  sum_two (z ∷ zs) zero (suc j) x y n e h = let is : f z ≡ f x = ap f (some-injective z x e) in omega (arith, is, sum_at zs j y h, sum_by-cons f z zs)
  sum_two (z ∷ zs) (suc i) zero x y n e h = let is : f z ≡ f y = ap f (some-injective z y h) in omega (arith, is, sum_at zs i x e, sum_by-cons f z zs)
  sum_two (z ∷ zs) (suc i) (suc j) x y n e h = omega (arith, sum_two zs i j x y (λ q. n (ap suc q)) e h, sum_by-cons f z zs)

  -- the sum of noughts
  sum_none : (xs : List X) → ((j : ℕ) (y : X) → get_elem? xs j ≡ some y → f y ≡ 0) → sum_by f xs ≡ 0
  sum_none [] h = refl
  sum_none (z ∷ zs) h = let here : f z ≡ 0 = h 0 z refl in omega (arith, here, sum_none zs (λ j. h (suc j)), sum_by-cons f z zs)

  -- where all others are nought, the sum is the one number
  pub sum_only : (xs : List X) (i : ℕ) (x : X) → get_elem? xs i ≡ some x → ((j : ℕ) (y : X) → j ≢ i → get_elem? xs j ≡ some y → f y ≡ 0) → sum_by f xs ≡ f x
  sum_only [] i x e h = absurd (some-ne-none x (sym e))
  sum_only (z ∷ zs) zero x e h =
      let is : f z ≡ f x = ap f (some-injective z x e) in
      let rest : sum_by f zs ≡ 0 = sum_none zs (λ j y at. h (suc j) y (λ q. omega arith) at) in
      omega (arith, is, rest, sum_by-cons f z zs)
  sum_only (z ∷ zs) (suc i) x e h =
      let here : f z ≡ 0 = h 0 z (λ q. omega arith) refl in
      let rest : sum_by f zs ≡ f x = sum_only zs i x e (λ j y n at. h (suc j) y (λ q. n (omega arith)) at) in
      omega (arith, here, rest, sum_by-cons f z zs)
