-- The first element that passes a test, as a loop comes to it.
use Rattle.std.proofs.Common.{◌≡◌, ℕ, ◌+◌, ◌<◌, Bool, true, cond, List, [], ◌∷◌, ◌++◌, take, drop, length, get_or, Some, None, sym, ap, ◌∙◌}
use Rattle.std.specs.Prelude.{find}
use Rattle.std.specs.Option.{option_or}
use Rattle.std.proofs.lemmas.List.{take_more, take-append-drop}
use Rattle.std.proofs.lemmas.List.Folds.{find-append}

-- none passes so far, and the next passes or not
pub find-next : {X : Type 0} (p : X → Bool) (xs : List X) (i : ℕ) (x : X) → i < length xs → x ≡ get_or xs i x → find p (take i xs) ≡ None
    → find p (take (i + 1) xs) ≡ cond (p x) (Some x) None
find-next p xs i x lt at none =
    ap (find p) (take_more xs i x lt ∙ ap (λ y. take i xs ++ y ∷ []) (sym at))
    ∙ (find-append p (take i xs) (x ∷ []) ∙ ap (λ o. option_or o (cond (p x) (Some x) None)) none)

pub find-found : {X : Type 0} (p : X → Bool) (xs : List X) (i : ℕ) (x : X) → i < length xs → x ≡ get_or xs i x → find p (take i xs) ≡ None → p x ≡ true
    → find p xs ≡ Some x
find-found p xs i x lt at none passes =
    ap (find p) (sym (take-append-drop (i + 1) xs))
    ∙ (find-append p (take (i + 1) xs) (drop (i + 1) xs)
    ∙ ap (λ o. option_or o (find p (drop (i + 1) xs))) (find-next p xs i x lt at none ∙ ap (λ (b : Bool). cond b (Some x) None) passes))
