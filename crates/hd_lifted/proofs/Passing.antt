-- What the elements of a list pass where all of them do, where one does, and where none does.
use Rattle.std.proofs.Common.{◌≡◌, ℕ, zero, suc, Bool, true, false, List, [], ◌∷◌, Contains, Some, slice_get, inl, inr, sym, ap, ◌∙◌, subst, true≢false}
use Rattle.std.specs.List.{list_any, list_all}
use Rattle.std.proofs.lemmas.Bool.{and_parts, or_cases, or_parts}
use Rattle.std.proofs.lemmas.Option.{none-some, same_Some}
use Rattle.hd_base.proofs.Members.{Contains-first, Contains-later, Contains-cons_cases, Contains-nil}

pub passes-from_all : {X : Type 0} (p : X → Bool) (xs : List X) (x : X) → list_all p xs ≡ true → Contains xs x → p x ≡ true
passes-from_all p [] x t c = absurd (Contains-nil x c)
passes-from_all p (y ∷ xs) x t c =
    let b = and_parts (p y) (list_all p xs) t in
    elim (Contains-cons_cases y xs x c) [ inl e ↦ ap p (sym e) ∙ b.0 | inr c ↦ passes-from_all p xs x b.1 c ]

-- an element that passes
pub record IsPassing {X : Type 0} (p : X → Bool) (xs : List X) : Type 0 where
  pub value : X
  pub among : Contains xs value
  pub passes : p value ≡ true

pub passing-from_any : {X : Type 0} (p : X → Bool) (xs : List X) → list_any p xs ≡ true → IsPassing p xs
passing-from_any p [] t = absurd (true≢false (sym t))
passing-from_any p (x ∷ xs) t =
    elim (or_cases (p x) (list_any p xs) t) [
      | inl t ↦ record { value = x; among = Contains-first x xs; passes = t }
      | inr t ↦ let k = passing-from_any p xs t in record { value = k.value; among = Contains-later x xs k.value k.among; passes = k.passes }
    ]

pub fails-from_none : {X : Type 0} (p : X → Bool) (xs : List X) (x : X) → list_any p xs ≡ false → Contains xs x → p x ≡ false
fails-from_none p [] x t c = absurd (Contains-nil x c)
fails-from_none p (y ∷ xs) x t c =
    let b = or_parts (p y) (list_any p xs) t in
    elim (Contains-cons_cases y xs x c) [ inl e ↦ ap p (sym e) ∙ b.0 | inr c ↦ fails-from_none p xs x b.1 c ]

pub Contains-slice_get : {X : Type 0} (xs : List X) (k : ℕ) (x : X) → slice_get xs k ≡ Some x → Contains xs x
Contains-slice_get [] k x e = absurd (none-some x e)
Contains-slice_get (y ∷ xs) zero x e = subst (Contains (y ∷ xs)) (same_Some y x e) (Contains-first y xs)
Contains-slice_get (y ∷ xs) (suc k) x e = Contains-later y xs x (Contains-slice_get xs k x e)
