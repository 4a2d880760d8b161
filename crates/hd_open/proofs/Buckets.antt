-- Lists of arrivals, and buckets of them.
use Rattle.std.proofs.Common.{◌≡◌, ◌≢◌, ◌⊎◌, ℕ, zero, suc, ◌+◌, ◌<◌, ◌≤◌, List, [], ◌∷◌, ◌++◌, Some, length, set, drop, slice_get, refl, sym, ◌∙◌, subst, inl, inr, ⊎_elim, arith}
use Rattle.std.specs.List.{AllByRecursion}
use Rattle.std.proofs.lemmas.List.{get_or-set_same, get_or-set_other}
use Rattle.std.proofs.lemmas.Option.{none-some, same_Some}
use Rattle.std.proofs.Math.ListN.{get_or-eq_default}
use Rattle.hd_open.specs.Queue.{IsAmong, IsAscending, bucket}

-- ---- numbers in a list

pub among_more : (xs : List ℕ) (y k : ℕ) → IsAmong xs k → IsAmong (xs ++ y ∷ []) k
among_more [] y k among = absurd among
among_more (x ∷ xs) y k among = ⊎_elim (λ here. inl here) (λ later. inr (among_more xs y k later)) among

pub among_last : (xs : List ℕ) (y : ℕ) → IsAmong (xs ++ y ∷ []) y
among_last [] y = inl refl
among_last (x ∷ xs) y = inr (among_last xs y)

pub among_cases : (xs : List ℕ) (y k : ℕ) → IsAmong (xs ++ y ∷ []) k → IsAmong xs k ⊎ (y ≡ k)
among_cases [] y k among = ⊎_elim (λ here. inr here) (λ later. absurd later) among
among_cases (x ∷ xs) y k among =
    ⊎_elim (λ here. inl (inl here)) (λ later. ⊎_elim (λ old. inl (inr old)) (λ new. inr new) (among_cases xs y k later)) among

pub among_rest : (xs : List ℕ) (a k : ℕ) → slice_get xs 0 ≡ Some a → IsAmong xs k → IsAmong (drop 1 xs) k ⊎ (a ≡ k)
among_rest [] a k at among = absurd among
among_rest (x ∷ xs) a k at among = ⊎_elim (λ here. inr (sym (same_Some x a at) ∙ here)) (λ later. inl later) among

pub among_of_rest : (xs : List ℕ) (k : ℕ) → IsAmong (drop 1 xs) k → IsAmong xs k
among_of_rest [] k among = absurd among
among_of_rest (x ∷ xs) k among = inr among

pub length_rest : (xs : List ℕ) (a : ℕ) → slice_get xs 0 ≡ Some a → length (drop 1 xs) + 1 ≡ length xs
length_rest [] a at = absurd (none-some a at)
length_rest (x ∷ xs) a at = omega arith

-- ---- ascending ones

all_push : (x : ℕ) (xs : List ℕ) (y : ℕ) → AllByRecursion (λ z. x ≤ z) xs → x ≤ y → AllByRecursion (λ z. x ≤ z) (xs ++ y ∷ [])
all_push x [] y all le = (le, _)
all_push x (z ∷ xs) y all le = (all.0, all_push x xs y all.1 le)

all_among : (x : ℕ) (xs : List ℕ) (k : ℕ) → AllByRecursion (λ z. x ≤ z) xs → IsAmong xs k → x ≤ k
all_among x [] k all among = absurd among
all_among x (z ∷ xs) k all among = ⊎_elim (λ here. subst (λ (n : ℕ). x ≤ n) here all.0) (λ later. all_among x xs k all.1 later) among

pub ascending_push : (xs : List ℕ) (y : ℕ) → IsAscending xs → ((k : ℕ) → IsAmong xs k → k ≤ y) → IsAscending (xs ++ y ∷ [])
ascending_push [] y up least = (_, _)
ascending_push (x ∷ xs) y up least = (all_push x xs y up.0 (least x (inl refl)), ascending_push xs y up.1 (λ k among. least k (inr among)))

pub ascending_rest : (xs : List ℕ) → IsAscending xs → IsAscending (drop 1 xs)
ascending_rest [] up = up
ascending_rest (x ∷ xs) up = up.1

pub first_least : (xs : List ℕ) (a k : ℕ) → IsAscending xs → slice_get xs 0 ≡ Some a → IsAmong xs k → a ≤ k
first_least [] a k up at among = absurd among
first_least (x ∷ xs) a k up at among =
    let is : x ≡ a = same_Some x a at in
    ⊎_elim (λ here. omega arith) (λ later. let le = all_among x xs k up.0 later in omega arith) among

-- a list has nothing if it has no first
pub none_among : (xs : List ℕ) (k : ℕ) → xs ≡ [] → IsAmong xs k → ⊥
none_among [] k is among = among
none_among (x ∷ xs) k is among = absurd (cc)

-- ---- buckets

pub bucket_here : (small : List (List ℕ)) (t : ℕ) (b : List ℕ) → t < length small → bucket (set small t b) t ≡ b
bucket_here small t b within = get_or-set_same small t b [] within

pub bucket_else : (small : List (List ℕ)) (t u : ℕ) (b : List ℕ) → u ≢ t → bucket (set small t b) u ≡ bucket small u
bucket_else small t u b apart = get_or-set_other small t u b [] apart

pub bucket_past : (small : List (List ℕ)) (t : ℕ) → length small ≤ t → bucket small t ≡ []
bucket_past small t past = get_or-eq_default small [] past

pub bucket_more : (small : List (List ℕ)) (t : ℕ) → bucket (small ++ [] ∷ []) t ≡ bucket small t
bucket_more [] zero = refl
bucket_more [] (suc t) = refl
bucket_more (b ∷ small) zero = refl
bucket_more (b ∷ small) (suc t) = bucket_more small t
