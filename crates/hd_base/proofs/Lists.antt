-- Lists: their places, what they are made of, and what holds of each element by recursion.
use Rattle.std.proofs.Common.{◌≡◌, ℕ, zero, suc, ◌+◌, ◌-◌, ◌<◌, ◌==◌, true, false, cond, Some, None, List, [], ◌∷◌, ◌++◌, map, take, drop, length, get_or, set, replicate, reverse, fold, slice_get, slice_range, ◌⊎◌, inl, inr, refl, sym, ap, ap₂, ◌∙◌, subst, arith, get_or-set_same, get_or-set_other}
use mathlib.Core.List.{reverse_aux}
use Rattle.std.proofs.Math.Seq.{take-append_seam, drop-append_seam}
use Rattle.std.specs.List.{range_with_len, AllByRecursion}
use Rattle.std.specs.Option.{option_or}
use Rattle.std.proofs.lemmas.Bool.{eqb-true, eqb-false}
use Rattle.std.proofs.lemmas.Option.{none-some, same_Some}
use Rattle.std.proofs.lemmas.List.{map-id, drop-drop}
use Rattle.std.proofs.lemmas.List.FromFn.{map-range_with_len_more}
use Rattle.std.proofs.lemmas.List.Sums.{fold_more}

map-reverse_aux : {X Y : Type 0} (f : X → Y) (xs ys : List X) → map f (reverse_aux xs ys) ≡ reverse_aux (map f xs) (map f ys)
map-reverse_aux f [] ys = refl
map-reverse_aux f (x ∷ xs) ys = map-reverse_aux f xs (x ∷ ys)

pub map-reverse : {X Y : Type 0} (f : X → Y) (xs : List X) → map f (reverse xs) ≡ reverse (map f xs)
map-reverse f xs = map-reverse_aux f xs []

pub range_with_len_more : (a n j : ℕ) → a + n ≡ j → range_with_len a (n + 1) ≡ range_with_len a n ++ j ∷ []
range_with_len_more a n j e =
    sym (map-id (range_with_len a (n + 1))) ∙ (map-range_with_len_more (λ (x : ℕ). x) a n j e ∙ ap (λ (xs : List ℕ). xs ++ j ∷ []) (map-id (range_with_len a n)))

pub cons_parts : {X : Type 0} (x y : X) (xs ys : List X) → x ∷ xs ≡ y ∷ ys → (x ≡ y) × (xs ≡ ys)
cons_parts x y xs ys e = (ap (λ zs. get_or zs 0 x) e, ap (drop 1) e)

pub nil_from_append : {X : Type 0} (xs ys : List X) → xs ++ ys ≡ [] → (xs ≡ []) × (ys ≡ [])
nil_from_append [] ys e = (refl, e)
nil_from_append (x ∷ xs) ys e = absurd (cc)

pub push_not_nil : {X : Type 0} (xs : List X) (x : X) → xs ++ x ∷ [] ≡ [] → ⊥
push_not_nil [] x e = cc
push_not_nil (y ∷ xs) x e = cc

pub nil_from_map : {X Y : Type 0} (f : X → Y) (xs : List X) → map f xs ≡ [] → xs ≡ []
nil_from_map f [] e = refl
nil_from_map f (x ∷ xs) e = absurd (cc)

pub nil_from_slice_get : {X : Type 0} (xs : List X) → slice_get xs 0 ≡ None → xs ≡ []
nil_from_slice_get [] e = refl
nil_from_slice_get (x ∷ xs) e = absurd (none-some x (sym e))

pub slice_get-append_zero : {X : Type 0} (xs ys : List X) → slice_get (xs ++ ys) 0 ≡ option_or (slice_get xs 0) (slice_get ys 0)
slice_get-append_zero [] ys = refl
slice_get-append_zero (x ∷ xs) ys = refl

pub slice_get-push_cases : {X : Type 0} (xs : List X) (x : X) (i : ℕ) (y : X) → slice_get (xs ++ x ∷ []) i ≡ Some y → (slice_get xs i ≡ Some y) ⊎ (x ≡ y)
slice_get-push_cases [] x zero y e = inr (same_Some x y e)
slice_get-push_cases [] x (suc i) y e = absurd (none-some y e)
slice_get-push_cases (z ∷ xs) x zero y e = inl e
slice_get-push_cases (z ∷ xs) x (suc i) y e = slice_get-push_cases xs x i y e

pub get_or-set : {X : Type 0} (xs : List X) (j : ℕ) (y : X) (i : ℕ) (d : X) → i < length xs → get_or (set xs j y) i d ≡ cond (j == i) y (get_or xs i d)
get_or-set xs j y i d h =
    elim (j == i) as (λ b. (j == i) ≡ b → get_or (set xs j y) i d ≡ cond b y (get_or xs i d)) [
      | true ↦ λ e. let same : j ≡ i = eqb-true j i e in subst (λ k. get_or (set xs k y) i d ≡ y) (sym same) (get_or-set_same xs i y d h)
      | false ↦ λ e. get_or-set_other xs j i y d (λ k. eqb-false j i e (sym k))
    ] refl

pub get_or-replicate_same : {X : Type 0} (n i : ℕ) (x : X) → get_or (replicate n x) i x ≡ x
get_or-replicate_same zero i x = refl
get_or-replicate_same (suc n) zero x = refl
get_or-replicate_same (suc n) (suc i) x = get_or-replicate_same n i x

-- what stands after a part of a list
pub drop_behind : {X : Type 0} (whole : List X) (at : ℕ) (part rest : List X) → drop at whole ≡ part ++ rest → drop (at + length part) whole ≡ rest
drop_behind whole at part rest e = sym (drop-drop (length part) at whole) ∙ (ap (drop (length part)) e ∙ drop-append_seam part rest)

pub slice_range_at : {X : Type 0} (whole : List X) (at : ℕ) (part rest : List X) → drop at whole ≡ part ++ rest → slice_range whole at (at + length part) ≡ part
slice_range_at {X} whole at part rest e =
    let size : at + length part - at ≡ length part = omega arith in
    ap₂ (λ (n : ℕ) (xs : List X). take n xs) size e ∙ take-append_seam part rest

-- a fold whose steps keep a list's length
pub length-fold : {X Y : Type 0} (f : List Y → X → List Y) → ((ys : List Y) (x : X) → length (f ys x) ≡ length ys) → (xs : List X) (ys : List Y) → length (fold f ys xs) ≡ length ys
length-fold f keeps [] ys = refl
length-fold f keeps (x ∷ xs) ys = length-fold f keeps xs (f ys x) ∙ keeps ys x

-- a fold that has come to i, with the element at i, is the fold that has come to i + 1
pub fold_more_read : {X Y : Type 0} (f : Y → X → Y) (first : Y) (xs : List X) (i : ℕ) (x : X) (y r : Y) → i < length xs → x ≡ get_or xs i x → y ≡ fold f first (take i xs) → r ≡ f y x → r ≡ fold f first (take (i + 1) xs)
fold_more_read f first xs i x y r h at is er =
    er ∙ (ap (λ s. f s x) is ∙ (ap (f (fold f first (take i xs))) at ∙ sym (fold_more f first xs i x h)))

pub AllByRecursion-append : {X : Type 0} (P : X → Type 0) (xs ys : List X) → AllByRecursion P xs → AllByRecursion P ys → AllByRecursion P (xs ++ ys)
AllByRecursion-append P [] ys h k = k
AllByRecursion-append P (x ∷ xs) ys h k = (h.0, AllByRecursion-append P xs ys h.1 k)

pub AllByRecursion-push : {X : Type 0} (P : X → Type 0) (xs : List X) (x : X) → AllByRecursion P xs → P x → AllByRecursion P (xs ++ x ∷ [])
AllByRecursion-push P xs x h p = AllByRecursion-append P xs (x ∷ []) h (p, tt)

pub AllByRecursion-slice_get : {X : Type 0} (P : X → Type 0) (xs : List X) (n : ℕ) (x : X) → AllByRecursion P xs → slice_get xs n ≡ Some x → P x
AllByRecursion-slice_get P [] n x all e = absurd (none-some x e)
AllByRecursion-slice_get P (y ∷ xs) zero x all e = subst P (same_Some y x e) all.0
AllByRecursion-slice_get P (y ∷ xs) (suc n) x all e = AllByRecursion-slice_get P xs n x all.1 e
