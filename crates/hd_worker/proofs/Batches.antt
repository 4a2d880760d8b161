-- Batches of outcomes, and their numbers.
use Rattle.std.proofs.Common.{◌≡◌, ℕ, zero, suc, ◌+◌, ◌^◌, ◌<◌, ◌≤◌, ◌≢◌, min, List, [], ◌∷◌, map, take, drop, length, get_or, inl, inr, refl, sym, ap, ◌∙◌, arith}
use Rattle.std.specs.List.{AllByRecursion}
use Rattle.std.proofs.lemmas.Bool.{cases_lt}
use Rattle.std.proofs.lemmas.List.{take_all}
use Rattle.std.proofs.Math.ListN.{drop_of_length-le}
use Rattle.hd_task.specs.declared.task.Task.{Task}
use Rattle.hd_node.specs.declared.batch.Outcome.{Outcome}
use Rattle.hd_node.specs.declared.batch.Outcome.TheVariants.{Expanded, Duplicate, Bounded}
use Rattle.hd_entries.specs.Settling.{entry_of, IsOutcomeOfTask}
use Rattle.hd_turns.specs.Calls.{ranks, outcome_numbered}

-- each rank is below the number of outcomes
entry_few : (o : Outcome) → length (entry_of o) ≤ 1
entry_few (Expanded e) = omega arith
entry_few (Duplicate k by) = omega arith
entry_few (Bounded k h) = omega arith

pub ranks_below : (n : ℕ) (outcomes : List Outcome) (bound : ℕ) → n + length outcomes ≤ bound → AllByRecursion (λ rank. rank < bound) (ranks n outcomes)
ranks_below n [] bound le = tt
ranks_below n (o ∷ outcomes) bound le =
    let few = entry_few o in
    let more : length (o ∷ outcomes) ≡ length outcomes + 1 = omega arith in
    (omega arith, ranks_below (n + length (entry_of o)) outcomes bound (omega arith))

-- as many as there are outcomes
pub ranks_many : (n : ℕ) (outcomes : List Outcome) → length (ranks n outcomes) ≡ length outcomes
ranks_many n [] = refl
ranks_many n (o ∷ outcomes) = ap (λ (m : ℕ). suc m) (ranks_many (n + length (entry_of o)) outcomes)

-- numbers from `first` on fit
pub ranks_fit : (first : ℕ) (given : List ℕ) (most : ℕ) → AllByRecursion (λ rank. rank < most) given → 0 < most → first + most ≤ 2 ^ 64 → (k : ℕ) → first + get_or given k 0 < 2 ^ 64
ranks_fit first [] most all some fits k = let none : ◌≡◌ {A = ℕ} (get_or [] k 0) 0 = refl in omega arith
ranks_fit first (r ∷ given) most all some fits zero = let lt = all.0 in omega arith
ranks_fit first (r ∷ given) most all some fits (suc k) = ranks_fit first given most all.1 some fits k

-- as many as there are, and at most so many
pub take_min : {X : Type 0} (most : ℕ) (xs : List X) (n : ℕ) → n ≡ min (length xs) most → take n xs ≡ take most xs
take_min {X} most xs n is =
    elim (cases_lt (length xs) most) [
      | inl lt ↦ take_all n xs (omega arith) ∙ sym (take_all most xs (omega arith))
      | inr le ↦ ap (λ (m : ℕ). take m xs) (let e : n ≡ most = omega arith in e)
    ]

pub drop_min : {X : Type 0} (most : ℕ) (xs : List X) (n : ℕ) → n ≡ min (length xs) most → drop n xs ≡ drop most xs
drop_min {X} most xs n is =
    elim (cases_lt (length xs) most) [
      | inl lt ↦ drop_of_length-le xs (let e : length xs ≤ n = omega arith in e) ∙ sym (drop_of_length-le xs (let e : length xs ≤ most = omega arith in e))
      | inr le ↦ ap (λ (m : ℕ). drop m xs) (let e : n ≡ most = omega arith in e)
    ]

pub all_take : {X : Type 0} (P : X → Type 0) (n : ℕ) (xs : List X) → AllByRecursion P xs → AllByRecursion P (take n xs)
all_take P zero [] all = tt
all_take P (suc n) [] all = tt
all_take P zero (x ∷ xs) all = tt
all_take P (suc n) (x ∷ xs) all = (all.0, all_take P n xs all.1)

pub all_drop : {X : Type 0} (P : X → Type 0) (n : ℕ) (xs : List X) → AllByRecursion P xs → AllByRecursion P (drop n xs)
all_drop P zero [] all = tt
all_drop P (suc n) [] all = tt
all_drop P zero (x ∷ xs) all = all
all_drop P (suc n) (x ∷ xs) all = all_drop P n xs all.1

-- outcomes of a task stay so when they are named again
pub all_renamed : (t : Task) (first : ℕ) (given : List ℕ) (outcomes : List Outcome) → AllByRecursion (IsOutcomeOfTask t) outcomes → AllByRecursion (IsOutcomeOfTask t) (map (outcome_numbered first given) outcomes)
all_renamed t first given [] all = tt
all_renamed t first given (Expanded e ∷ outcomes) all = (all.0, all_renamed t first given outcomes all.1)
all_renamed t first given (Duplicate k by ∷ outcomes) all = (tt, all_renamed t first given outcomes all.1)
all_renamed t first given (Bounded k h ∷ outcomes) all = (all.0, all_renamed t first given outcomes all.1)

-- if there are outcomes there are numbers for them
pub ranks-some : (n : ℕ) (outcomes : List Outcome) → 1 ≤ length outcomes → ranks n outcomes ≢ []
ranks-some n [] some = λ e. absurd (let none : length {A = Outcome} [] ≡ 0 = refl in omega arith)
ranks-some n (o ∷ outcomes) some = λ e. absurd (cc)
