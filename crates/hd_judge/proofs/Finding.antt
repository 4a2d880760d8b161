-- The first fluent without a first value, in two lists one after the other.
use Rattle.std.proofs.Common.{◌≡◌, ℕ, ◌+◌, ◌<◌, List, [], ◌∷◌, ◌++◌, Option, Some, None, not, take, drop, length, get_or, sym, ap, ◌∙◌}
use Rattle.std.proofs.lemmas.List.{take_more, take-append-drop, append-nil}
use Rattle.std.proofs.lemmas.Grind.{flat_map-append}
use Rattle.std.specs.Prelude.{flat_map}
use Rattle.std.specs.Option.{option_or}
use Rattle.std.proofs.lemmas.List.Folds.{find-append}
use Rattle.hd_lifted.specs.declared.schema.Ground.{Ground}
use Rattle.hd_lifted.specs.declared.task.LiftedTask.{LiftedTask}
use Rattle.hd_lifted.specs.Questions.{is_undefined, first_undefined}

pub undefined_append : (t : LiftedTask) (xs ys : List Ground)
    → first_undefined t (xs ++ ys) ≡ option_or (first_undefined t xs) (first_undefined t ys)
undefined_append t xs ys = find-append (is_undefined t) xs ys

-- one element more
pub flat_more : {X : Type 0} (f : X → List Ground) (xs : List X) (k : ℕ) (x : X) → k < length xs → x ≡ get_or xs k x
    → flat_map f (take (k + 1) xs) ≡ flat_map f (take k xs) ++ f x
flat_more f xs k x lt at =
    ap (flat_map f) (take_more xs k x lt ∙ ap (λ y. take k xs ++ y ∷ []) (sym at))
    ∙ (flat_map-append f (take k xs) (x ∷ []) ∙ ap (λ ys. flat_map f (take k xs) ++ ys) (append-nil (f x)))

-- what the elements so far meet is defined, and what the next one meets reports
pub undefined_with : {X : Type 0} (t : LiftedTask) (f : X → List Ground) (xs : List X) (k : ℕ) (x : X) → k < length xs → x ≡ get_or xs k x
    → first_undefined t (flat_map f (take k xs)) ≡ None → first_undefined t (flat_map f (take (k + 1) xs)) ≡ first_undefined t (f x)
undefined_with t f xs k x lt at none =
    ap (first_undefined t) (flat_more f xs k x lt at)
    ∙ (undefined_append t (flat_map f (take k xs)) (f x) ∙ ap (λ o. option_or o (first_undefined t (f x))) none)

pub undefined_next : {X : Type 0} (t : LiftedTask) (f : X → List Ground) (xs : List X) (k : ℕ) (x : X) → k < length xs → x ≡ get_or xs k x
    → first_undefined t (flat_map f (take k xs)) ≡ None → None ≡ first_undefined t (f x)
    → first_undefined t (flat_map f (take (k + 1) xs)) ≡ None
undefined_next t f xs k x lt at none here = undefined_with t f xs k x lt at none ∙ sym here

pub undefined_found : {X : Type 0} (t : LiftedTask) (f : X → List Ground) (xs : List X) (k : ℕ) (x : X) (g : Ground) → k < length xs → x ≡ get_or xs k x
    → first_undefined t (flat_map f (take k xs)) ≡ None → Some g ≡ first_undefined t (f x)
    → first_undefined t (flat_map f xs) ≡ Some g
undefined_found t f xs k x g lt at none here =
    ap (λ ys. first_undefined t (flat_map f ys)) (sym (take-append-drop (k + 1) xs))
    ∙ (ap (first_undefined t) (flat_map-append f (take (k + 1) xs) (drop (k + 1) xs))
    ∙ (undefined_append t (flat_map f (take (k + 1) xs)) (flat_map f (drop (k + 1) xs))
    ∙ ap (λ o. option_or o (first_undefined t (flat_map f (drop (k + 1) xs)))) (undefined_with t f xs k x lt at none ∙ sym here)))
