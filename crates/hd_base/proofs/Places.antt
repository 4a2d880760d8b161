-- What stands at a place of a list, and beside it in another.
use Rattle.std.proofs.Common.{◌≡◌, ℕ, zero, suc, List, [], ◌∷◌, length, Contains, Some, slice_get, refl, ap, ◌∙◌, subst, arith}
use Rattle.std.specs.List.{AllZip}
use Rattle.std.proofs.lemmas.Option.{none-some, same_Some, slice_get-get_or}

-- a member stands somewhere
pub place_of : {X : Type 0} (xs : List X) (x : X) → Contains xs x → (k : ℕ) × (slice_get xs k ≡ Some x)
place_of xs x c = (c.0, slice_get-get_or xs c.0 x c.1 ∙ ap Some c.2)

module _ {X Y : Type 0} (R : X → Y → Type 0) where
  -- beside each element of the one list stands one of the other
  pub right_of : (xs : List X) (ys : List Y) (k : ℕ) (x : X) → AllZip R xs ys → slice_get xs k ≡ Some x → (y : Y) × (slice_get ys k ≡ Some y) × R x y
  right_of [] ys k x zip e = absurd (none-some x e)
  right_of (a ∷ xs) [] k x zip e = absurd zip
  right_of (a ∷ xs) (b ∷ ys) zero x zip e = (b, refl, subst (λ z. R z b) (same_Some a x e) zip.0)
  right_of (a ∷ xs) (b ∷ ys) (suc k) x zip e = right_of xs ys k x zip.1 e

  pub left_of : (xs : List X) (ys : List Y) (k : ℕ) (y : Y) → AllZip R xs ys → slice_get ys k ≡ Some y → (x : X) × (slice_get xs k ≡ Some x) × R x y
  left_of xs [] k y zip e = absurd (none-some y e)
  left_of [] (b ∷ ys) k y zip e = absurd zip
  left_of (a ∷ xs) (b ∷ ys) zero y zip e = (a, refl, subst (R a) (same_Some b y e) zip.0)
  left_of (a ∷ xs) (b ∷ ys) (suc k) y zip e = left_of xs ys k y zip.1 e

  pub length-all_zip : (xs : List X) (ys : List Y) → AllZip R xs ys → length xs ≡ length ys
  length-all_zip [] [] zip = refl
  length-all_zip [] (b ∷ ys) zip = absurd zip
  length-all_zip (a ∷ xs) [] zip = absurd zip
  length-all_zip (a ∷ xs) (b ∷ ys) zip = omega (arith, length-all_zip xs ys zip.1)
