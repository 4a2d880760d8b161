-- How many elements of a list pass a test, where another test passes each of them and more.
use Rattle.std.proofs.Common.{◌≡◌, suc, ◌≤◌, Bool, true, false, cond, ◌&&◌, List, [], ◌∷◌, filter, length, Contains, inl, inr, refl, sym, ap, ◌∙◌, arith}
use Rattle.std.specs.List.{list_all, list_any}
use Rattle.std.proofs.lemmas.Bool.{true≢false, and_parts, or_cases}
use Rattle.hd_base.proofs.Members.{Contains-first, Contains-later, Contains-cons_cases, Contains-nil}

module _ {X : Type 0} (p q : X → Bool) (weaker : (x : X) → p x ≡ true → q x ≡ true) where
  longer : (a b : Bool) (x : X) (ps qs : List X) → (a ≡ true → b ≡ true) → length ps ≤ length qs → length (cond a (x ∷ ps) ps) ≤ length (cond b (x ∷ qs) qs)
  longer true true x ps qs h le = omega (arith, le)
  longer true false x ps qs h le = absurd (true≢false (sym (h refl)))
  longer false true x ps qs h le = omega (arith, le)
  longer false false x ps qs h le = le

  pub length-filter-le : (xs : List X) → length (filter p xs) ≤ length (filter q xs)
  length-filter-le [] = omega arith
  length-filter-le (x ∷ xs) = longer (p x) (q x) x (filter p xs) (filter q xs) (weaker x) (length-filter-le xs)

  longer_here : (a b : Bool) (x : X) (ps qs : List X) → a ≡ false → b ≡ true → length ps ≤ length qs → suc (length (cond a (x ∷ ps) ps)) ≤ length (cond b (x ∷ qs) qs)
  longer_here true b x ps qs ea eb le = absurd (true≢false ea)
  longer_here false true x ps qs ea eb le = omega (arith, le)
  longer_here false false x ps qs ea eb le = absurd (true≢false (sym eb))

  longer_later : (a b : Bool) (x : X) (ps qs : List X) → (a ≡ true → b ≡ true) → suc (length ps) ≤ length qs → suc (length (cond a (x ∷ ps) ps)) ≤ length (cond b (x ∷ qs) qs)
  longer_later true true x ps qs h le = omega (arith, le)
  longer_later true false x ps qs h le = absurd (true≢false (sym (h refl)))
  longer_later false true x ps qs h le = omega (arith, le)
  longer_later false false x ps qs h le = le

  -- an element that only the second test passes counts once more
  pub length-filter-lt : (xs : List X) (x : X) → Contains xs x → p x ≡ false → q x ≡ true → suc (length (filter p xs)) ≤ length (filter q xs)
  length-filter-lt [] x c fails passes = absurd (Contains-nil x c)
  length-filter-lt (y ∷ xs) x c fails passes =
      elim (Contains-cons_cases y xs x c) [
        | inl e ↦ longer_here (p y) (q y) y (filter p xs) (filter q xs) (ap p e ∙ fails) (ap q e ∙ passes) (length-filter-le xs)
        | inr c ↦ longer_later (p y) (q y) y (filter p xs) (filter q xs) (weaker y) (length-filter-lt xs x c fails passes)
      ]

length-filter-all : {X : Type 0} (xs : List X) → length (filter (λ x. true) xs) ≡ length xs
length-filter-all [] = refl
length-filter-all (x ∷ xs) = ap suc (length-filter-all xs)

-- where one element fails, fewer pass than there are
pub length-filter-some_fail : {X : Type 0} (p : X → Bool) (xs : List X) (x : X) → Contains xs x → p x ≡ false → suc (length (filter p xs)) ≤ length xs
length-filter-some_fail p xs x c fails = omega (arith, length-filter-all xs, length-filter-lt p (λ x. true) (λ y _. refl) xs x c fails refl)

-- ---- which element decides

-- an element of which something is known
pub record IsAmongWith {X : Type 0} (p : X → Bool) (b : Bool) (xs : List X) : Type 0 where
  pub member : X
  pub among : Contains xs member
  pub is : p member ≡ b

pub passing_member : {X : Type 0} (p : X → Bool) (xs : List X) → list_any p xs ≡ true → IsAmongWith p true xs
passing_member p [] e = absurd (true≢false (sym e))
passing_member p (x ∷ xs) e =
    elim (or_cases (p x) (list_any p xs) e) [
      | inl here ↦ record { member = x; among = Contains-first x xs; is = here }
      | inr e ↦ let k = passing_member p xs e in record { member = k.member; among = Contains-later x xs k.member k.among; is = k.is }
    ]

failing_here : {X : Type 0} (p : X → Bool) (x : X) (xs : List X) (b : Bool) → p x ≡ b → (list_all p xs ≡ false → IsAmongWith p false xs) → (b && list_all p xs) ≡ false → IsAmongWith p false (x ∷ xs)
failing_here p x xs false is later e = record { member = x; among = Contains-first x xs; is = is }
failing_here p x xs true is later e = let k = later e in record { member = k.member; among = Contains-later x xs k.member k.among; is = k.is }

pub failing_member : {X : Type 0} (p : X → Bool) (xs : List X) → list_all p xs ≡ false → IsAmongWith p false xs
failing_member p [] e = absurd (true≢false e)
failing_member p (x ∷ xs) e = failing_here p x xs (p x) refl (failing_member p xs) e

pub each_passes : {X : Type 0} (p : X → Bool) (xs : List X) (x : X) → list_all p xs ≡ true → Contains xs x → p x ≡ true
each_passes p [] x e c = absurd (Contains-nil x c)
each_passes p (y ∷ xs) x e c =
    let both = and_parts (p y) (list_all p xs) e in
    elim (Contains-cons_cases y xs x c) [ inl same ↦ ap p (sym same) ∙ both.0 | inr c ↦ each_passes p xs x both.1 c ]
