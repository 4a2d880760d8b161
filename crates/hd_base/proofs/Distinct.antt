-- Lists in which no element stands twice, and how long they are.
use Rattle.std.proofs.Common.{◌≡◌, ◌≢◌, ℕ, zero, suc, ◌+◌, ◌-◌, ◌<◌, ◌≤◌, List, [], ◌∷◌, ◌++◌, map, length, get_or, Contains, inl, inr, refl, sym, ap, ◌∙◌, subst, arith, length-append}
use Rattle.std.specs.List.{range_with_len, AllPairs}
use Rattle.std.proofs.lemmas.Bool.{cases_lt}
use Rattle.std.proofs.lemmas.List.{length-map, get_or-map, get_or_append_left, get_or-append_right}
use Rattle.std.proofs.lemmas.List.Elements.{Contains-get_or}
use Rattle.std.proofs.lemmas.List.FromFn.{length-range_with_len, get_or-range_with_len}
use Rattle.hd_base.proofs.Members.{Contains-first, Contains-later, Contains-cons_cases, Contains-nil}

-- no two places have the same element
abbrev pub AreApart : {X : Type 0} → List X → Type 0
AreApart {X} xs = AllPairs (λ (x y : X). x ≢ y) xs

-- two lists that have no element in common, one after the other
pub AreApart-append : {X : Type 0} (xs ys : List X) → AreApart xs → AreApart ys → ((x : X) → Contains xs x → Contains ys x → ⊥) → AreApart (xs ++ ys)
AreApart-append xs ys apart_x apart_y disjoint i j d lt within same =
    let n = length xs in
    let len : length (xs ++ ys) ≡ n + length ys = length-append xs ys in
    elim (cases_lt j n) [
      | inl j_left ↦
          let i_left : i < n = omega (arith, lt, j_left) in
          apart_x i j d lt j_left (sym (get_or_append_left xs ys d i i_left) ∙ same ∙ get_or_append_left xs ys d j j_left)
      | inr j_right ↦
          let inside : j - n < length ys = omega (arith, len, within, j_right) in
          let at_j : get_or (xs ++ ys) j d ≡ get_or ys (j - n) d = get_or-append_right xs ys n j d refl j_right in
          elim (cases_lt i n) [
            | inl i_left ↦
                let at_i : get_or (xs ++ ys) i d ≡ get_or xs i d = get_or_append_left xs ys d i i_left in
                let both : get_or ys (j - n) d ≡ get_or xs i d = sym at_j ∙ sym same ∙ at_i in
                disjoint (get_or xs i d) (Contains-get_or xs i d i_left) (subst (Contains ys) both (Contains-get_or ys (j - n) d inside))
            | inr i_right ↦
                let before : i - n < j - n = omega (arith, lt, i_right) in
                let at_i : get_or (xs ++ ys) i d ≡ get_or ys (i - n) d = get_or-append_right xs ys n i d refl i_right in
                apart_y (i - n) (j - n) d before inside (sym at_i ∙ same ∙ at_j)
          ]
    ]

-- what different elements are mapped to, where that differs too
pub AreApart-map : {X Y : Type 0} (f : X → Y) → ((a b : X) → f a ≡ f b → a ≡ b) → (xs : List X) → AreApart xs → AreApart (map f xs)
AreApart-map f one [] apart i j d lt within same = absurd (omega (arith, within))
AreApart-map f one (x ∷ xs) apart i j d lt within same =
    let j_in : j < length (x ∷ xs) = omega (arith, within, length-map (x ∷ xs) f) in
    let i_in : i < length (x ∷ xs) = omega (arith, lt, j_in) in
    apart i j x lt j_in
    (one (get_or (x ∷ xs) i x) (get_or (x ∷ xs) j x) (sym (get_or-map f (x ∷ xs) i x d i_in) ∙ same ∙ get_or-map f (x ∷ xs) j x d j_in))

pub AreApart-from_map : {X Y : Type 0} (f : X → Y) (xs : List X) → AreApart (map f xs) → AreApart xs
AreApart-from_map f xs apart i j d lt within same =
    let i_in : i < length xs = omega (arith, lt, within) in
    apart i j (f d) lt (omega (arith, within, length-map xs f))
    (get_or-map f xs i d (f d) i_in ∙ ap f same ∙ sym (get_or-map f xs j d (f d) within))

-- numbers in a row
pub AreApart-range_with_len : (a n : ℕ) → AreApart (range_with_len a n)
AreApart-range_with_len a n i j d lt within same =
    let j_in : j < n = omega (arith, within, length-range_with_len a n) in
    let i_in : i < n = omega (arith, lt, j_in) in
    let numbers : a + i ≡ a + j = sym (get_or-range_with_len a n i d i_in) ∙ same ∙ get_or-range_with_len a n j d j_in in
    omega (arith, lt, numbers)

-- ---- how long they are

-- a list without one of its elements
record IsShorter {X : Type 0} (xs : List X) (x : X) : Type 0 where
  rest : List X
  shorter : length xs ≡ suc (length rest)
  others : (y : X) → x ≢ y → Contains xs y → Contains rest y

without : {X : Type 0} (xs : List X) (x : X) → Contains xs x → IsShorter xs x
without [] x c = absurd (Contains-nil x c)
without (z ∷ xs) x c =
    elim (Contains-cons_cases z xs x c) [
      | inl e ↦ record {
        rest = xs;
        shorter = refl;
        others = λ y other d. elim (Contains-cons_cases z xs y d) [ inl same ↦ absurd (other (sym e ∙ same)) | inr d ↦ d ];
      }
      | inr c ↦
          let k = without xs x c in
          record {
            rest = z ∷ k.rest;
            shorter = ap suc k.shorter;
            others = λ y other d.
                elim (Contains-cons_cases z xs y d) [
                  | inl same ↦ subst (Contains (z ∷ k.rest)) same (Contains-first z k.rest)
                  | inr d ↦ Contains-later z k.rest y (k.others y other d)
                ];
          }
    ]

-- a list without repetitions whose elements a list has is no longer than that
pub length-le_from_members : {X : Type 0} (xs ys : List X) → AllPairs (λ x y. x ≢ y) xs → ((x : X) → Contains xs x → Contains ys x) → length xs ≤ length ys
length-le_from_members [] ys distinct among = omega arith
length-le_from_members (x ∷ xs) ys distinct among =
    let k = without ys x (among x (Contains-first x xs)) in
    let rest = length-le_from_members xs k.rest
    (λ i j d lt within. distinct (suc i) (suc j) d (omega (arith, lt)) (omega (arith, within)))
    (λ y c.
    let apart : x ≢ y = subst (λ z. x ≢ z) c.2 (distinct 0 (suc c.0) y (omega arith) (omega (arith, c.1))) in
    k.others y apart (among y (Contains-later x xs y c))) in
    omega (arith, rest, k.shorter)
