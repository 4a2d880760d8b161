-- What holds of each element of a list, and places in longer lists.
use Rattle.std.proofs.Common.{◌≡◌, ℕ, zero, suc, ◌+◌, ◌<◌, Bool, true, false, cond, Option, Some, List, [], ◌∷◌, ◌++◌, map, filter, drop, length, slice_get, Contains, ⊎_elim, refl, ap, subst, arith}
use Rattle.std.specs.Prelude.{option_and_then}
use Rattle.std.specs.List.{AllByRecursion, remove}
use Rattle.std.proofs.lemmas.Option.{none-some}
use Rattle.hd_base.proofs.Members.{Contains-nil, Contains-cons_cases}

pub AllByRecursion-contains : {X : Type 0} (P : X → Type 0) (xs : List X) (x : X) → AllByRecursion P xs → Contains xs x → P x
AllByRecursion-contains P [] x all k = absurd (Contains-nil x k)
AllByRecursion-contains P (y ∷ xs) x all k =
    ⊎_elim (λ same. subst P same all.0) (λ later. AllByRecursion-contains P xs x all.1 later) (Contains-cons_cases y xs x k)

pub AllByRecursion-map : {X Y : Type 0} (P : X → Type 0) (Q : Y → Type 0) (f : X → Y) → ((x : X) → P x → Q (f x)) → (xs : List X) → AllByRecursion P xs → AllByRecursion Q (map f xs)
AllByRecursion-map P Q f h [] all = tt
AllByRecursion-map P Q f h (x ∷ xs) all = (h x all.0, AllByRecursion-map P Q f h xs all.1)

pub AllByRecursion-weaker : {X : Type 0} (P Q : X → Type 0) → ((x : X) → P x → Q x) → (xs : List X) → AllByRecursion P xs → AllByRecursion Q xs
AllByRecursion-weaker P Q h [] all = tt
AllByRecursion-weaker P Q h (x ∷ xs) all = (h x all.0, AllByRecursion-weaker P Q h xs all.1)

pub AllByRecursion-filter : {X : Type 0} (P : X → Type 0) (p : X → Bool) (xs : List X) → AllByRecursion P xs → AllByRecursion P (filter p xs)
AllByRecursion-filter P p [] all = tt
AllByRecursion-filter P p (x ∷ xs) all =
    elim (p x) as (λ b. AllByRecursion P (cond b (x ∷ filter p xs) (filter p xs))) [
      | true ↦ (all.0, AllByRecursion-filter P p xs all.1)
      | false ↦ AllByRecursion-filter P p xs all.1
    ]

pub AllByRecursion-remove : {X : Type 0} (P : X → Type 0) (xs : List X) (i : ℕ) → AllByRecursion P xs → AllByRecursion P (remove xs i)
AllByRecursion-remove P [] zero all = tt
AllByRecursion-remove P [] (suc i) all = tt
AllByRecursion-remove P (x ∷ xs) zero all = all.1
AllByRecursion-remove P (x ∷ xs) (suc i) all = (all.0, AllByRecursion-remove P xs i all.1)

pub AllByRecursion-rest : {X : Type 0} (P : X → Type 0) (xs : List X) → AllByRecursion P xs → AllByRecursion P (drop 1 xs)
AllByRecursion-rest P [] all = tt
AllByRecursion-rest P (x ∷ xs) all = all.1

-- ---- places

pub slice_get-append_front : {X : Type 0} (xs ys : List X) (i : ℕ) (x : X) → slice_get xs i ≡ Some x → slice_get (xs ++ ys) i ≡ Some x
slice_get-append_front [] ys i x e = absurd (none-some x e)
slice_get-append_front (y ∷ xs) ys zero x e = e
slice_get-append_front (y ∷ xs) ys (suc i) x e = slice_get-append_front xs ys i x e

pub slice_get-append_left : {X : Type 0} (xs ys : List X) (i : ℕ) → i < length xs → slice_get (xs ++ ys) i ≡ slice_get xs i
slice_get-append_left [] ys i lt = absurd (omega arith)
slice_get-append_left (y ∷ xs) ys zero lt = refl
slice_get-append_left (y ∷ xs) ys (suc i) lt = slice_get-append_left xs ys i (omega arith)

pub slice_get-append_right : {X : Type 0} (xs ys : List X) (i j : ℕ) → i ≡ length xs + j → slice_get (xs ++ ys) i ≡ slice_get ys j
slice_get-append_right [] ys i j e = ap (slice_get ys) (let k : i ≡ j = omega arith in k)
slice_get-append_right (y ∷ xs) ys zero j e = absurd (omega arith)
slice_get-append_right (y ∷ xs) ys (suc i) j e = slice_get-append_right xs ys i j (omega arith)

-- a look-up and what follows, by a list of what follows
pub then_at : {X Y : Type 0} (f : X → Option Y) (xs : List X) (j : ℕ) → option_and_then f (slice_get xs j) ≡ option_and_then (λ (o : Option Y). o) (slice_get (map f xs) j)
then_at f [] j = refl
then_at f (x ∷ xs) zero = refl
then_at f (x ∷ xs) (suc j) = then_at f xs j
