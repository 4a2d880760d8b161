-- Where no first element fails a test, all pass it, and the other way round. Where there is one,
-- they do not.
use Rattle.std.proofs.Common.{◌≡◌, Bool, true, false, List, [], ◌∷◌, Option, Some, None, not, refl, sym, ap, ◌∙◌, ◌&&◌, cond, length, ◌<◌, arith}
use Rattle.std.proofs.lemmas.Bool.{and_parts}
use Rattle.std.proofs.lemmas.Option.{none-some}
use Rattle.std.specs.Prelude.{find}
use Rattle.std.specs.List.{list_all}
use Rattle.hd_judge.proofs.Leaving.{and_false, false_and}

cond_none : {X : Type 0} (b : Bool) (x : X) (o : Option X) → cond (not b) (Some x) o ≡ None → (b ≡ true) × (o ≡ None)
cond_none true x o none = (refl, none)
cond_none false x o none = absurd (none-some x (sym none))

pub all_where_none : {X : Type 0} (p : X → Bool) (xs : List X) → find (λ x. not (p x)) xs ≡ None → list_all p xs ≡ true
all_where_none p [] none = refl
all_where_none p (x ∷ xs) none =
    let both = cond_none (p x) x (find (λ y. not (p y)) xs) none in
    ap (λ b. b && list_all p xs) both.0 ∙ all_where_none p xs both.1

pub none_where_all : {X : Type 0} (p : X → Bool) (xs : List X) → list_all p xs ≡ true → find (λ x. not (p x)) xs ≡ None
none_where_all p [] all = refl
none_where_all p (x ∷ xs) all =
    let both = and_parts (p x) (list_all p xs) all in
    ap (λ b. cond (not b) (Some x) (find (λ y. not (p y)) xs)) both.0 ∙ none_where_all p xs both.1

pub fails_where_some : {X : Type 0} (p : X → Bool) (xs : List X) (y : X) → find (λ x. not (p x)) xs ≡ Some y → list_all p xs ≡ false
fails_where_some p [] y found = absurd (none-some y found)
fails_where_some p (x ∷ xs) y found =
    elim (p x) as (λ b. cond (not b) (Some x) (find (λ z. not (p z)) xs) ≡ Some y → (b && list_all p xs) ≡ false) [
      | true ↦ λ e. fails_where_some p xs y e
      | false ↦ λ e. refl
    ] found

-- where not all pass one of two tests, not all pass both
pub both_first : {X : Type 0} (p q : X → Bool) (xs : List X) → list_all p xs ≡ false → list_all (λ x. p x && q x) xs ≡ false
both_first p q [] fails = fails
both_first p q (x ∷ xs) fails =
    elim (p x) as (λ b. (b && list_all p xs) ≡ false → ((b && q x) && list_all (λ y. p y && q y) xs) ≡ false) [
      | true ↦ λ e. and_false (q x) (list_all (λ y. p y && q y) xs) (both_first p q xs e)
      | false ↦ λ e. refl
    ] fails

pub both_second : {X : Type 0} (p q : X → Bool) (xs : List X) → list_all q xs ≡ false → list_all (λ x. p x && q x) xs ≡ false
both_second p q [] fails = fails
both_second p q (x ∷ xs) fails =
    elim (q x) as (λ b. (b && list_all q xs) ≡ false → ((p x && b) && list_all (λ y. p y && q y) xs) ≡ false) [
      | true ↦ λ e. and_false (p x && true) (list_all (λ y. p y && q y) xs) (both_second p q xs e)
      | false ↦ λ e. false_and (p x && false) (list_all (λ y. p y && q y) xs) (and_false (p x) false refl)
    ] fails

-- nothing is found in an empty list
pub find_empty : {X : Type 0} (p : X → Bool) (xs : List X) → length xs < 1 → find p xs ≡ None
find_empty p [] less = refl
find_empty p (x ∷ xs) less = absurd (omega (arith, less))
