-- Sums over lists of which one element is changed, where elements are read as the rules of tables
-- and queues read them.
use Rattle.std.proofs.Common.{◌≡◌, ℕ, zero, suc, ◌+◌, ◌<◌, List, [], ◌∷◌, length, get_or, set, refl, sym, ap, ◌∙◌, subst, arith}
use Rattle.std.specs.List.{sum_by}
use Rattle.std.proofs.lemmas.List.Sums.{sum_by-set, sum_by-cons}
use mathlib.Core.Option.{some, some-injective, some-ne-none}
use lib.ListN.{get_elem?}

pub get_elem-within : {X : Type 0} (xs : List X) (i : ℕ) (x : X) → get_elem? xs i ≡ some x → (i < length xs) × (get_or xs i x ≡ x)
get_elem-within [] i x at = absurd (some-ne-none x (sym at))
get_elem-within (y ∷ xs) zero x at = (omega arith, some-injective y x at)
get_elem-within (y ∷ xs) (suc i) x at = let rest = get_elem-within xs i x at in (omega (arith, rest.0), rest.1)

-- the sum after one element has changed
pub sum_by-set_elem : {X : Type 0} (f : X → ℕ) (xs : List X) (i : ℕ) (x y : X) → get_elem? xs i ≡ some x → sum_by f (set xs i y) + f x ≡ sum_by f xs + f y
sum_by-set_elem f xs i x y at =
    let there = get_elem-within xs i x at in
    ap (λ z. sum_by f (set xs i y) + f z) (sym there.1) ∙ sum_by-set f xs i y x there.0

-- in a sum of nothing each element gives nothing
pub sum_by_zero : {X : Type 0} (f : X → ℕ) (xs : List X) (i : ℕ) (x : X) → sum_by f xs ≡ 0 → get_elem? xs i ≡ some x → f x ≡ 0
sum_by_zero f [] i x none at = absurd (some-ne-none x (sym at))
sum_by_zero f (y ∷ xs) zero x none at =
    let same : f y ≡ f x = ap f (some-injective y x at) in
    let all = sum_by-cons f y xs in
    omega arith
sum_by_zero f (y ∷ xs) (suc i) x none at =
    let all = sum_by-cons f y xs in
    let rest : sum_by f xs ≡ 0 = omega arith in
    sum_by_zero f xs i x rest at
