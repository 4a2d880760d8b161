-- Sums of what the elements of lists weigh.
use Rattle.std.proofs.Common.{◌≡◌, ℕ, zero, suc, ◌+◌, ◌≤◌, ◌||◌, Bool, true, false, cond, not, Some, List, [], ◌∷◌, ◌++◌, map, filter, set, slice_get, get_or, true≢false, refl, sym, ap, ◌∙◌, arith}
use Rattle.std.specs.List.{list_any, remove}
use Rattle.std.proofs.lemmas.Option.{none-some, same_Some}
use Rattle.std.proofs.lemmas.List.Folds.{list_any_none}
use Rattle.hd_base.proofs.Distinct.{AreApart}
use Rattle.hd_task.specs.declared.plan.Kid.{Kid}
use Rattle.hd_tables.specs.Kids.{same_kid}
use Rattle.hd_entries.proofs.Accepting.{same_kid-true}
use Rattle.hd_world.specs.Once.{total, weight_like}

pub total-append : {X : Type 0} (h : X → ℕ) (xs ys : List X) → total h (xs ++ ys) ≡ total h xs + total h ys
total-append h [] ys = omega arith
total-append h (x ∷ xs) ys = omega (arith, total-append h xs ys)

pub total-map : {X Y : Type 0} (h : Y → ℕ) (f : X → Y) (xs : List X) → total h (map f xs) ≡ total (λ x. h (f x)) xs
total-map h f [] = refl
total-map h f (x ∷ xs) = omega (arith, total-map h f xs)

-- an element that is replaced
pub total-set : {X : Type 0} (h : X → ℕ) (xs : List X) (i : ℕ) (y x : X) → slice_get xs i ≡ Some y → total h (set xs i x) + h y ≡ total h xs + h x
total-set h [] i y x e = absurd (none-some y e)
total-set h (z ∷ xs) zero y x e = let same : h z ≡ h y = ap h (same_Some z y e) in omega (arith, same)
total-set h (z ∷ xs) (suc i) y x e = omega (arith, total-set h xs i y x e)

-- whatever it replaces
pub total-set_most : {X : Type 0} (h : X → ℕ) (xs : List X) (i : ℕ) (x : X) → total h (set xs i x) ≤ total h xs + h x
total-set_most h [] i x = omega arith
total-set_most h (z ∷ xs) zero x = omega arith
total-set_most h (z ∷ xs) (suc i) x = omega (arith, total-set_most h xs i x)

-- an element that is taken out
pub total-remove : {X : Type 0} (h : X → ℕ) (xs : List X) (i : ℕ) (y : X) → slice_get xs i ≡ Some y → total h (remove xs i) + h y ≡ total h xs
total-remove h [] i y e = absurd (none-some y e)
total-remove h (z ∷ xs) zero y e = let same : h z ≡ h y = ap h (same_Some z y e) in omega (arith, same)
total-remove h (z ∷ xs) (suc i) y e = omega (arith, total-remove h xs i y e)

-- an element weighs no more than all
pub total_at : {X : Type 0} (h : X → ℕ) (xs : List X) (i : ℕ) (y : X) → slice_get xs i ≡ Some y → h y ≤ total h xs
total_at h xs i y e = omega (arith, total-remove h xs i y e)

-- those that pass a test, and the others
pub total_parts : {X : Type 0} (h : X → ℕ) (p : X → Bool) (xs : List X) → total h (filter p xs) + total h (filter (λ x. not (p x)) xs) ≡ total h xs
total_parts h p [] = omega arith
total_parts h p (x ∷ xs) =
    elim (p x) as (λ b. total h (cond b (x ∷ filter p xs) (filter p xs)) + total h (cond (not b) (x ∷ filter (λ x. not (p x)) xs) (filter (λ x. not (p x)) xs)) ≡ h x + total h xs) [
      | true ↦ omega (arith, total_parts h p xs)
      | false ↦ omega (arith, total_parts h p xs)
    ]

-- ---- how many pass a test

-- one where a test passes
abbrev pub one_if : Bool → ℕ
one_if b = cond b 1 0

pub total_some : {X : Type 0} (p : X → Bool) (xs : List X) → list_any p xs ≡ true → 1 ≤ total (λ x. one_if (p x)) xs
total_some p [] e = absurd (true≢false (sym e))
total_some p (x ∷ xs) e =
    elim (p x) as (λ b. (b || list_any p xs) ≡ true → 1 ≤ one_if b + total (λ x. one_if (p x)) xs) [
      | true ↦ λ _. omega arith
      | false ↦ λ e. omega (arith, total_some p xs e)
    ] e

pub total_none : {X : Type 0} (p : X → Bool) (xs : List X) → list_any p xs ≡ false → total (λ x. one_if (p x)) xs ≡ 0
total_none p [] e = refl
total_none p (x ∷ xs) e =
    elim (p x) as (λ b. (b || list_any p xs) ≡ false → one_if b + total (λ x. one_if (p x)) xs ≡ 0) [
      | true ↦ λ e. absurd (true≢false e)
      | false ↦ λ e. omega (arith, total_none p xs e)
    ] e

-- ---- successors that are apart

rest_apart : {X : Type 0} (x : X) (xs : List X) → AreApart (x ∷ xs) → AreApart xs
rest_apart x xs apart i j d lt within same = apart (suc i) (suc j) d (omega (arith, lt)) (omega (arith, within)) same

-- no later successor is the first one
others : (k x : Kid) (xs : List Kid) → AreApart (x ∷ xs) → k ≡ x → list_any (same_kid k) xs ≡ false
others k x xs apart is =
    list_any_none (same_kid k) xs
    (λ i d lt.
    elim (same_kid k (get_or xs i d)) as (λ b. same_kid k (get_or xs i d) ≡ b → b ≡ false) [
      | true ↦ λ e. absurd (apart zero (suc i) d (omega arith) (omega (arith, lt)) (sym is ∙ same_kid-true k (get_or xs i d) e))
      | false ↦ λ _. refl
    ] refl)

pub total-apart : (k : Kid) (xs : List Kid) → AreApart xs → total (weight_like k) xs ≤ 1
total-apart k [] apart = omega arith
total-apart k (x ∷ xs) apart =
    elim (same_kid k x) as (λ b. same_kid k x ≡ b → one_if b + total (weight_like k) xs ≤ 1) [
      | true ↦ λ e. omega (arith, total_none (same_kid k) xs (others k x xs apart (same_kid-true k x e)))
      | false ↦ λ e. omega (arith, total-apart k xs (rest_apart x xs apart))
    ] refl
