-- Lists in a strict order: two of them with the same members are one, and nothing stands twice in
-- one.
use Rattle.std.proofs.Common.{◌≡◌, ℕ, suc, ◌<◌, List, [], ◌∷◌, Contains, Some, slice_get, get_or, refl, sym, ap₂, ◌∙◌, subst, inl, inr, arith}
use Rattle.std.specs.List.{AllPairs}
use Rattle.std.specs.declared.cmp.Ordering.TheVariants.{Less, Equal}
use Rattle.std.proofs.lemmas.Bool.{cases_lt}
use Rattle.std.proofs.lemmas.Option.{slice_get_within, get_or_from_slice_get}
use Rattle.std.proofs.lemmas.Cmp.{nat_list_cmp_total, tied_itself}
use Rattle.hd_base.proofs.Members.{Contains-first, Contains-later, Contains-cons_cases, Contains-nil}
use Rattle.hd_lifted.specs.Numbering.{ComesBefore, HasExactly}

module _ {X : Type 0} (L : X → X → Type 0) (irreflexive : (x : X) → L x x → ⊥) (chains : (x y z : X) → L x y → L y z → L x z) where
  -- the first comes before each later one
  first_before : (x : X) (xs : List X) (z : X) → AllPairs L (x ∷ xs) → Contains xs z → L x z
  first_before x xs z rising c = subst (L x) c.2 (rising 0 (suc c.0) z (omega arith) (omega (arith, c.1)))

  rest_rises : (x : X) (xs : List X) → AllPairs L (x ∷ xs) → AllPairs L xs
  rest_rises x xs rising i j d lt within = rising (suc i) (suc j) d (omega (arith, lt)) (omega (arith, within))

  -- a member of the rest of one list is a member of the rest of the other, where both begin alike
  in_rest : (x y : X) (xs ys : List X) (z : X) → AllPairs L (x ∷ xs) → x ≡ y → Contains xs z → Contains (y ∷ ys) z → Contains ys z
  in_rest x y xs ys z rising same among c =
      elim (Contains-cons_cases y ys z c) [
        | inl e ↦ absurd (irreflexive z (subst (λ w. L w z) (same ∙ e) (first_before x xs z rising among)))
        | inr k ↦ k
      ]

  same_first : (x y : X) (xs ys : List X) → AllPairs L (x ∷ xs) → AllPairs L (y ∷ ys) → Contains (y ∷ ys) x → Contains (x ∷ xs) y → x ≡ y
  same_first x y xs ys first second c d =
      elim (Contains-cons_cases y ys x c) [
        | inl e ↦ sym e
        | inr k ↦
            elim (Contains-cons_cases x xs y d) [
              | inl e ↦ e
              | inr m ↦ absurd (irreflexive x (chains x y x (first_before x xs y first m) (first_before y ys x second k)))
            ]
      ]

  pub rising_lists_are_one :
      (xs ys : List X) → AllPairs L xs → AllPairs L ys
      → ((z : X) → Contains xs z → Contains ys z) → ((z : X) → Contains ys z → Contains xs z)
      → xs ≡ ys
  rising_lists_are_one [] [] first second there back = refl
  rising_lists_are_one [] (y ∷ ys) first second there back = absurd (Contains-nil y (back y (Contains-first y ys)))
  rising_lists_are_one (x ∷ xs) [] first second there back = absurd (Contains-nil x (there x (Contains-first x xs)))
  rising_lists_are_one (x ∷ xs) (y ∷ ys) first second there back =
      let same : x ≡ y = same_first x y xs ys first second (there x (Contains-first x xs)) (back y (Contains-first y ys)) in
      ap₂ (λ z zs. z ∷ zs) same
      (rising_lists_are_one xs ys (rest_rises x xs first) (rest_rises y ys second)
      (λ z c. in_rest x y xs ys z first same c (there z (Contains-later x xs z c)))
      (λ z c. in_rest y x ys xs z second (sym same) c (back z (Contains-later y ys z c))))

-- no list comes before itself
pub before_itself : (xs : List ℕ) → ComesBefore xs xs → ⊥
before_itself xs e =
    let clash : Less ≡ Equal = sym e ∙ tied_itself nat_list_cmp_total xs in
    absurd (cc)

-- two lists that have exactly the same, in the order of their keys, are one
pub lists_are_one : {X : Type 0} (Is : X → Type 0) (key : X → List ℕ) (xs ys : List X) → HasExactly Is key xs → HasExactly Is key ys → xs ≡ ys
lists_are_one Is key xs ys first second =
    rising_lists_are_one (λ x y. ComesBefore (key x) (key y)) (λ x. before_itself (key x))
    (λ x y z. nat_list_cmp_total.trans (key x) (key y) (key z)) xs ys first.rising second.rising
    (λ x c. (second.exactly x).0 ((first.exactly x).1 c))
    (λ x c. (first.exactly x).0 ((second.exactly x).1 c))

-- ---- places

module _ {X : Type 0} (key : X → List ℕ) (xs : List X) (rising : AllPairs (λ x y. ComesBefore (key x) (key y)) xs) where
  -- nothing stands at two places
  not_both : (j k : ℕ) (x : X) → j < k → slice_get xs j ≡ Some x → slice_get xs k ≡ Some x → ⊥
  not_both j k x lt first second =
      let before = rising j k x lt (slice_get_within xs k x second) in
      let left = subst (λ y. ComesBefore (key y) (key (get_or xs k x))) (get_or_from_slice_get xs j x x first) before in
      before_itself (key x) (subst (λ y. ComesBefore (key x) (key y)) (get_or_from_slice_get xs k x x second) left)

  pub one_place : (j k : ℕ) (x : X) → slice_get xs j ≡ Some x → slice_get xs k ≡ Some x → j ≡ k
  one_place j k x first second =
      elim (cases_lt j k) [
        | inl lt ↦ absurd (not_both j k x lt first second)
        | inr le ↦ elim (cases_lt k j) [
          | inl lt ↦ absurd (not_both k j x lt second first)
          | inr ge ↦ omega (arith, le, ge)
        ]
      ]
