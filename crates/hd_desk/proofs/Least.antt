-- The least of numbers, and of all that seats have offered.
use Rattle.std.proofs.Common.{◌≡◌, ℕ, zero, suc, ◌<◌, ◌≤◌, List, [], ◌∷◌, ◌++◌, min, set, refl, sym, ap, ◌∙◌, arith}
use mathlib.Core.Option.{some, some-injective, some-ne-none}
use lib.ListN.{get_elem?}
use Rattle.hd_desk.specs.declared.bound_rule.Offers.{Offers}
use Rattle.hd_desk.specs.Bound.{least}
use Rattle.hd_desk.specs.Offers.{least_offered}

pub least-le : (n : ℕ) (xs : List ℕ) → least n xs ≤ n
least-le n [] = omega arith
least-le n (x ∷ xs) = let rest = least-le n xs in omega arith

pub least-min : (x n : ℕ) (ys : List ℕ) → least (min x n) ys ≡ min x (least n ys)
least-min x n [] = refl
least-min x n (y ∷ ys) = let rest = least-min x n ys in omega arith

pub least-append : (n : ℕ) (xs ys : List ℕ) → least n (xs ++ ys) ≡ least (least n ys) xs
least-append n [] ys = refl
least-append n (x ∷ xs) ys = ap (min x) (least-append n xs ys)

least_comm : (n : ℕ) (xs ys : List ℕ) → least (least n xs) ys ≡ least (least n ys) xs
least_comm n [] ys = refl
least_comm n (x ∷ xs) ys = least-min x (least n xs) ys ∙ ap (min x) (least_comm n xs ys)

-- the same numbers once more change nothing
least_idem : (n : ℕ) (xs : List ℕ) → least (least n xs) xs ≡ least n xs
least_idem n [] = refl
least_idem n (x ∷ xs) =
    let once = least-min x (least n xs) xs in
    let rest = least_idem n xs in
    omega arith

module _ (start : ℕ) where
  -- what a seat offered is taken into account already
  pub least_offered_has : (views : List Offers) (seat : ℕ) (v : Offers) → get_elem? views seat ≡ some v → least (least_offered start views) v.offers ≡ least_offered start views
  least_offered_has [] seat v at = absurd (some-ne-none v (sym at))
  least_offered_has (u ∷ views) zero v at =
      let same = ap (λ (w : Offers). w.offers) (some-injective u v at) in
      ap (λ xs. least (least (least_offered start views) u.offers) xs) (sym same) ∙ least_idem (least_offered start views) u.offers
  least_offered_has (u ∷ views) (suc seat) v at =
      least_comm (least_offered start views) u.offers v.offers ∙ ap (λ n. least n u.offers) (least_offered_has views seat v at)

  -- what one seat offered, in place of what another did
  pub least_offered-set : (views : List Offers) (seat : ℕ) (v w : Offers) → get_elem? views seat ≡ some v → least (least_offered start (set views seat w)) v.offers ≡ least (least_offered start views) w.offers
  least_offered-set [] seat v w at = absurd (some-ne-none v (sym at))
  least_offered-set (u ∷ views) zero v w at =
      let same = ap (λ (x : Offers). x.offers) (some-injective u v at) in
      ap (λ xs. least (least (least_offered start views) w.offers) xs) (sym same) ∙ least_comm (least_offered start views) w.offers u.offers
  least_offered-set (u ∷ views) (suc seat) v w at =
      least_comm (least_offered start (set views seat w)) u.offers v.offers
      ∙ (ap (λ n. least n u.offers) (least_offered-set views seat v w at) ∙ least_comm (least_offered start views) w.offers u.offers)

  -- a seat that has offered nothing, after the others
  pub least_offered-push : (views : List Offers) (w : Offers) → w.offers ≡ [] → least_offered start (views ++ w ∷ []) ≡ least_offered start views
  least_offered-push [] w none = ap (least start) none
  least_offered-push (u ∷ views) w none = ap (λ n. least n u.offers) (least_offered-push views w none)

  -- where nobody has offered anything
  pub least_offered_none : (views : List Offers) → ((seat : ℕ) (v : Offers) → get_elem? views seat ≡ some v → v.offers ≡ []) → least_offered start views ≡ start
  least_offered_none [] none = refl
  least_offered_none (u ∷ views) none =
      ap (least (least_offered start views)) (none zero u refl) ∙ least_offered_none views (λ seat v at. none (suc seat) v at)
