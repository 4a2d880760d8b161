-- What holds of the elements of lists that are changed.
use Rattle.std.proofs.Common.{◌≡◌, ◌≢◌, ℕ, zero, suc, Some, List, [], ◌∷◌, map, take, drop, set, slice_get, refl, ap}
use Rattle.std.specs.List.{AllByRecursion}

pub AllByRecursion-set : {X : Type 0} (P : X → Type 0) (xs : List X) (i : ℕ) (x : X) → AllByRecursion P xs → P x → AllByRecursion P (set xs i x)
AllByRecursion-set P [] i x all p = tt
AllByRecursion-set P (y ∷ xs) zero x all p = (p, all.1)
AllByRecursion-set P (y ∷ xs) (suc i) x all p = (all.0, AllByRecursion-set P xs i x all.1 p)

pub AllByRecursion-from_map : {X Y : Type 0} (P : Y → Type 0) (f : X → Y) (xs : List X) → AllByRecursion P (map f xs) → AllByRecursion (λ x. P (f x)) xs
AllByRecursion-from_map P f [] all = tt
AllByRecursion-from_map P f (x ∷ xs) all = (all.0, AllByRecursion-from_map P f xs all.1)

-- the elements at the other places stay
pub slice_get-set_other : {X : Type 0} (xs : List X) (i : ℕ) (x : X) (j : ℕ) → j ≢ i → slice_get (set xs i x) j ≡ slice_get xs j
slice_get-set_other [] i x j e = refl
slice_get-set_other (y ∷ xs) zero x zero e = absurd (e refl)
slice_get-set_other (y ∷ xs) zero x (suc j) e = refl
slice_get-set_other (y ∷ xs) (suc i) x zero e = refl
slice_get-set_other (y ∷ xs) (suc i) x (suc j) e = slice_get-set_other xs i x j (λ same. e (ap suc same))

pub AllByRecursion-from_slice_get : {X : Type 0} (P : X → Type 0) (xs : List X) → ((k : ℕ) (x : X) → slice_get xs k ≡ Some x → P x) → AllByRecursion P xs
AllByRecursion-from_slice_get P [] h = tt
AllByRecursion-from_slice_get P (x ∷ xs) h = (h zero x refl, AllByRecursion-from_slice_get P xs (λ k y e. h (suc k) y e))

-- ---- parts of lists

pub AllByRecursion-take : {X : Type 0} (P : X → Type 0) (n : ℕ) (xs : List X) → AllByRecursion P xs → AllByRecursion P (take n xs)
AllByRecursion-take P zero xs all = tt
AllByRecursion-take P (suc n) [] all = tt
AllByRecursion-take P (suc n) (x ∷ xs) all = (all.0, AllByRecursion-take P n xs all.1)

pub AllByRecursion-drop : {X : Type 0} (P : X → Type 0) (n : ℕ) (xs : List X) → AllByRecursion P xs → AllByRecursion P (drop n xs)
AllByRecursion-drop P zero xs all = all
AllByRecursion-drop P (suc n) [] all = tt
AllByRecursion-drop P (suc n) (x ∷ xs) all = AllByRecursion-drop P n xs all.1
