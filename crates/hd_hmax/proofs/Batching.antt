-- Recipes of actions are put into batches.
use Rattle.std.proofs.Common.{◌≡◌, ◌≢◌, ℕ, ◌+◌, ◌<◌, ◌≤◌, List, [], ◌∷◌, ◌++◌, length, get_or, replicate, Contains, inl, inr, sym, ap, ◌∙◌, subst, arith}
use Rattle.std.proofs.lemmas.Bool.{cases_lt, cases_eq}
use Rattle.std.proofs.lemmas.List.{get_or_default, get_or_past, get_or-replicate, length-replicate}
use Rattle.std.proofs.lemmas.List.Elements.{Contains-get_or, Contains-push, Contains-push_cases, Contains-append_left}
use Rattle.hd_base.proofs.Members.{Contains-first, Contains-later, Contains-nil, Contains-cons_cases}
use Rattle.hd_hmax.specs.declared.batches.Recipe.{Recipe}
use Rattle.hd_hmax.specs.Rules.{row}
use Rattle.hd_hmax.specs.Batches.{asks_of, gives_of, IsRecipe, HasAdded, batch, AreBatches}

-- ---- the recipe for two places

-- what stands there, or else what stands first, is among those that are needed
asked_at : (needs : List ℕ) (k first : ℕ) → Contains needs first → Contains needs (get_or needs k first)
asked_at needs k first some =
    elim (cases_lt k (length needs)) [
      | inl within ↦ Contains-get_or needs k first within
      | inr past ↦ subst (Contains needs) (sym (get_or_past needs k first past)) some
    ]

module _ (needs : List ℕ) (r : Recipe) (some : 0 < length needs) (few : length needs ≤ 4) (first : r.first ≡ get_or needs 0 0)
    (second : r.second ≡ get_or needs 1 r.first) (third : r.third ≡ get_or needs 2 r.first) (fourth : r.fourth ≡ get_or needs 3 r.first) where
  first_asked : Contains needs r.first
  first_asked = subst (Contains needs) (sym first) (Contains-get_or needs 0 0 some)

  at : (k p : ℕ) → k < length needs → get_or needs k p ≡ p → get_or needs k r.first ≡ p
  at k p within is = get_or_default needs k r.first p within ∙ is

  at_first : (p : ℕ) → get_or needs 0 p ≡ p → r.first ≡ p
  at_first p is = first ∙ (get_or_default needs 0 0 p some ∙ is)

  asks_all : (p : ℕ) → Contains needs p → Contains (asks_of r) p
  unfolding asks_of
  asks_all p m =
      let k = m.0 in
      let within : k < length needs = m.1 in
      let is : get_or needs k p ≡ p = m.2 in
      let here = λ (n : ℕ) (e : k ≡ n). subst (λ x. get_or needs x p ≡ p) e is in
      let there = λ (n : ℕ) (e : k ≡ n). subst (λ x. x < length needs) e within in
      elim (cases_eq k 0) [
        | inl e ↦ subst (Contains (asks_of r)) (at_first p (here 0 e)) (Contains-first r.first (r.second ∷ r.third ∷ r.fourth ∷ []))
        | inr ne0 ↦
            elim (cases_eq k 1) [
              | inl e ↦
                  subst (Contains (asks_of r)) (second ∙ at 1 p (there 1 e) (here 1 e))
                  (Contains-later r.first (r.second ∷ r.third ∷ r.fourth ∷ []) r.second (Contains-first r.second (r.third ∷ r.fourth ∷ [])))
              | inr ne1 ↦
                  elim (cases_eq k 2) [
                    | inl e ↦
                        subst (Contains (asks_of r)) (third ∙ at 2 p (there 2 e) (here 2 e))
                        (Contains-later r.first (r.second ∷ r.third ∷ r.fourth ∷ []) r.third
                        (Contains-later r.second (r.third ∷ r.fourth ∷ []) r.third (Contains-first r.third (r.fourth ∷ []))))
                    | inr ne2 ↦
                        let e : k ≡ 3 = omega (arith, within, few, ne0, ne1, ne2) in
                        subst (Contains (asks_of r)) (fourth ∙ at 3 p (there 3 e) (here 3 e))
                        (Contains-later r.first (r.second ∷ r.third ∷ r.fourth ∷ []) r.fourth
                        (Contains-later r.second (r.third ∷ r.fourth ∷ []) r.fourth (Contains-later r.third (r.fourth ∷ []) r.fourth (Contains-first r.fourth []))))
                  ]
            ]
      ]

  asks_only : (p : ℕ) → Contains (asks_of r) p → Contains needs p
  unfolding asks_of
  asks_only p m =
      elim (Contains-cons_cases r.first (r.second ∷ r.third ∷ r.fourth ∷ []) p m) [
        | inl e ↦ subst (Contains needs) e first_asked
        | inr m1 ↦
            elim (Contains-cons_cases r.second (r.third ∷ r.fourth ∷ []) p m1) [
              | inl e ↦ subst (Contains needs) (sym second ∙ e) (asked_at needs 1 r.first first_asked)
              | inr m2 ↦
                  elim (Contains-cons_cases r.third (r.fourth ∷ []) p m2) [
                    | inl e ↦ subst (Contains needs) (sym third ∙ e) (asked_at needs 2 r.first first_asked)
                    | inr m3 ↦
                        elim (Contains-cons_cases r.fourth [] p m3) [
                          | inl e ↦ subst (Contains needs) (sym fourth ∙ e) (asked_at needs 3 r.first first_asked)
                          | inr none ↦ absurd (Contains-nil p none)
                        ]
                  ]
            ]
      ]

  module _ (brings : List ℕ) (i : ℕ) (within : i < length brings) (one : r.one ≡ get_or brings i 0) (other : r.other ≡ get_or brings (i + 1) r.one) where
    one_brought : Contains brings r.one
    one_brought = subst (Contains brings) (sym one) (Contains-get_or brings i 0 within)

    gives_only : (p : ℕ) → Contains (gives_of r) p → Contains brings p
    unfolding gives_of
    gives_only p m =
        elim (Contains-cons_cases r.one (r.other ∷ []) p m) [
          | inl e ↦ subst (Contains brings) e one_brought
          | inr m1 ↦
              elim (Contains-cons_cases r.other [] p m1) [
                | inl e ↦ subst (Contains brings) (sym other ∙ e) (asked_at brings (i + 1) r.one one_brought)
                | inr none ↦ absurd (Contains-nil p none)
              ]
        ]

    recipe_right : IsRecipe needs brings r
    recipe_right = record { all = asks_all; only = asks_only; gives = gives_only }

    gives_both : (k : ℕ) → i ≤ k → k < i + 2 → k < length brings → Contains (gives_of r) (get_or brings k 0)
    unfolding gives_of
    gives_both k low high there =
        elim (cases_eq k i) [
          | inl e ↦ subst (Contains (gives_of r)) (one ∙ ap (λ x. get_or brings x 0) (sym e)) (Contains-first r.one (r.other ∷ []))
          | inr ne ↦
              let e : k ≡ i + 1 = omega (arith, low, high, ne) in
              subst (Contains (gives_of r)) (other ∙ (get_or_default brings (i + 1) r.one 0 (omega (arith, there, e)) ∙ ap (λ x. get_or brings x 0) (sym e)))
              (Contains-later r.one (r.other ∷ []) r.other (Contains-first r.other []))
        ]

    -- a recipe more
    pub added_next : (start recipes : List Recipe) → HasAdded needs brings i start recipes → HasAdded needs brings (i + 2) start (recipes ++ r ∷ [])
    added_next start recipes f = record {
      kept = λ x m. Contains-append_left recipes (r ∷ []) x (f.kept x m);
      all = λ k low there.
          elim (cases_lt k i) [
            | inl before ↦ let e = f.all k before there in (e.0, Contains-append_left recipes (r ∷ []) e.0 e.1, e.2, e.3)
            | inr now ↦ (r, Contains-push recipes r, recipe_right, gives_both k now low there)
          ];
      only = λ x m.
          elim (Contains-push_cases recipes r x m) [
            | inl before ↦ f.only x before
            | inr same ↦ inr (subst (IsRecipe needs brings) same recipe_right)
          ];
    }

-- none so far
pub added_none : (needs brings : List ℕ) (start : List Recipe) → HasAdded needs brings 0 start start
added_none needs brings start = record { kept = λ x m. m; all = λ k low. absurd (omega (arith, low)); only = λ x m. inl m }

-- all of them
pub added_all : (needs brings : List ℕ) (i : ℕ) (start recipes : List Recipe) → length brings ≤ i → HasAdded needs brings i start recipes → HasAdded needs brings (length brings) start recipes
added_all needs brings i start recipes past f = record { kept = f.kept; all = λ k low there. f.all k (omega (arith, past, there)) there; only = f.only }

-- ---- batches

abbrev pub nothing : List Recipe
nothing = []

nothing_at : (n c : ℕ) → batch (replicate n []) c ≡ []
nothing_at n c =
    elim (cases_lt c n) [
      | inl within ↦ get_or-replicate n c [] [] within
      | inr past ↦ get_or_past (replicate n []) c [] (let e = length-replicate n nothing in omega (arith, e, past))
    ]

pub batches_none : (needs brings : List (List ℕ)) (prices : List ℕ) (n : ℕ) (batches : List (List Recipe)) (rest : List ℕ) → batches ≡ replicate n [] → rest ≡ [] → AreBatches needs brings prices 0 batches rest
batches_none needs brings prices n batches rest same none = record {
  all = λ q p low. absurd (omega (arith, low));
  only = λ c r m.
      absurd (Contains-nil r (subst (λ xs. Contains xs r) (ap (λ xs. batch xs c) same ∙ nothing_at n c) m));
  inside = λ q m. absurd (Contains-nil q (subst (λ xs. Contains xs q) none m));
}

module _ (needs brings : List (List ℕ)) (prices : List ℕ) (q : ℕ) (batches : List (List Recipe)) (rest : List ℕ) (f : AreBatches needs brings prices q batches rest) where
  -- an action more that has recipes
  module _ (new : List (List Recipe)) (price : ℕ) (is : get_or prices q 0 ≡ price) (added : HasAdded (row needs q) (row brings q) (length (row brings q)) (batch batches price) (batch new price))
      (others : (c : ℕ) → c ≢ price → batch new c ≡ batch batches c) where
    stays : (c : ℕ) (r : Recipe) → Contains (batch batches c) r → Contains (batch new c) r
    stays c r m =
        elim (cases_eq c price) [
          | inl same ↦ subst (λ x. Contains (batch new x) r) (sym same) (added.kept r (subst (λ x. Contains (batch batches x) r) same m))
          | inr apart ↦ subst (λ xs. Contains xs r) (sym (others c apart)) m
        ]

    pub batches_next : AreBatches needs brings prices (q + 1) new rest
    batches_next = record {
      all = λ k p low m.
          elim (cases_lt k q) [
            | inl before ↦
                elim (f.all k p before m) [
                  | inl other ↦ inl other
                  | inr by ↦ inr (by.0, stays (get_or prices k 0) by.0 by.1, by.2, by.3)
                ]
            | inr last ↦
                let same : k ≡ q = omega (arith, low, last) in
                let here = subst (λ x. Contains (row brings x) p) same m in
                let by = added.all here.0 here.1 here.1 in
                inr (
                  by.0,
                  subst (λ x. Contains (batch new x) by.0) (sym (ap (λ x. get_or prices x 0) same ∙ is)) by.1,
                  subst (λ x. IsRecipe (row needs x) (row brings x) by.0) (sym same) by.2,
                  subst (Contains (gives_of by.0)) (get_or_default (row brings q) here.0 0 p here.1 ∙ here.2) by.3,
                )
          ];
      only = λ c r m.
          elim (cases_eq c price) [
            | inl same ↦
                elim (added.only r (subst (λ x. Contains (batch new x) r) same m)) [
                  | inl old ↦ let by = f.only price r old in (by.0, let h = by.1 in omega (arith, h), by.2 ∙ sym same, by.3)
                  | inr now ↦ (q, omega arith, is ∙ sym same, now)
                ]
            | inr apart ↦ let by = f.only c r (subst (λ xs. Contains xs r) (others c apart) m) in (by.0, let h = by.1 in omega (arith, h), by.2, by.3)
          ];
      inside = λ k m. let h = f.inside k m in omega (arith, h);
    }

  -- an action more that has none
  pub batches_rest : AreBatches needs brings prices (q + 1) batches (rest ++ q ∷ [])
  batches_rest = record {
    all = λ k p low m.
        elim (cases_lt k q) [
          | inl before ↦
              elim (f.all k p before m) [
                | inl other ↦ inl (Contains-append_left rest (q ∷ []) k other)
                | inr by ↦ inr by
              ]
          | inr last ↦
              let same : k ≡ q = omega (arith, low, last) in
              inl (subst (Contains (rest ++ q ∷ [])) (sym same) (Contains-push rest q))
        ];
    only = λ c r m. let by = f.only c r m in (by.0, let h = by.1 in omega (arith, h), by.2, by.3);
    inside = λ k m.
        elim (Contains-push_cases rest q k m) [
          | inl before ↦ let h = f.inside k before in omega (arith, h)
          | inr same ↦ omega (arith, same)
        ];
  }

pub added_rows : (needs brings ns bs : List ℕ) (old new : List Recipe) → ns ≡ needs → bs ≡ brings → HasAdded ns bs (length bs) old new → HasAdded needs brings (length brings) old new
added_rows needs brings ns bs old new ns_is bs_is f = subst (λ xs. HasAdded needs xs (length xs) old new) bs_is (subst (λ xs. HasAdded xs bs (length bs) old new) ns_is f)
