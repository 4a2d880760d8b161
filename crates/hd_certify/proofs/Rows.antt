-- Rows that count values which ascend.
use Rattle.std.proofs.Common.{◌≡◌, ◌≢◌, inl, inr, ℕ, zero, suc, ◌+◌, ◌-◌, ◌<◌, ◌≤◌, List, [], ◌∷◌, ◌++◌, take, length, get_or, refl, sym, ap, ◌∙◌, subst, append_assoc, append-nil, arith}
use Rattle.std.specs.Prelude.{replicate}
use Rattle.std.specs.List.{AllByRecursion}
use Rattle.std.specs.List.Sorted.{IsSorted, IsPermutation}
use Rattle.std.specs.Ordering.{nat_cmp}
use Rattle.std.proofs.lemmas.Grind.{flat_map-append}
use Rattle.std.proofs.lemmas.Bool.{cases_lt}
use Rattle.std.proofs.lemmas.List.{take_more, take_all}
use Rattle.std.proofs.lemmas.List.Sorted.{IsPermutation-refl, IsPermutation-trans}
use Rattle.std.proofs.lemmas.Map.Keys.{ge_from_not_lt}
use Rattle.hd_base.proofs.Lists.{AllByRecursion-push}
use Rattle.hd_certify.specs.declared.surveyed.ValueCount.{ValueCount}
use Rattle.hd_certify.specs.Survey.{count_row, spread, AreAscending, IsTableOf, CountsOn}

replicate-push : {X : Type 0} (n : ℕ) (x : X) → replicate (n + 1) x ≡ replicate n x ++ x ∷ []
replicate-push zero x = refl
replicate-push (suc n) x =
    let more : suc n + 1 ≡ suc (n + 1) = omega arith in
    ap (λ (m : ℕ). replicate m x) more ∙ ap (λ ys. x ∷ ys) (replicate-push n x)

spread-one : (r : ValueCount) → spread (r ∷ []) ≡ replicate r.count r.value
spread-one r = append-nil (replicate r.count r.value)

spread-push : (rows : List ValueCount) (r : ValueCount) → spread (rows ++ r ∷ []) ≡ spread rows ++ replicate r.count r.value
spread-push rows r =
    flat_map-append (λ (q : ValueCount). replicate q.count q.value) rows (r ∷ []) ∙ ap (λ xs. spread rows ++ xs) (spread-one r)

-- the last row counts one more
pub spread_more : (rows : List ValueCount) (value count : ℕ)
    → spread (rows ++ count_row value (count + 1) ∷ []) ≡ spread (rows ++ count_row value count ∷ []) ++ value ∷ []
spread_more rows value count =
    spread-push rows (count_row value (count + 1))
    ∙ (ap (λ xs. spread rows ++ xs) (replicate-push count value)
    ∙ (sym (append_assoc (spread rows) (replicate count value) (value ∷ [])) ∙ ap (λ xs. xs ++ value ∷ []) (sym (spread-push rows (count_row value count)))))

-- a row more
pub spread_next : (rows : List ValueCount) (value : ℕ) → spread (rows ++ count_row value 1 ∷ []) ≡ spread rows ++ value ∷ []
spread_next rows value = spread-push rows (count_row value 1)

-- ---- ascending

ascending-push : (rows : List ValueCount) (r : ValueCount) → AreAscending rows → AllByRecursion (λ (q : ValueCount). q.value < r.value) rows
    → AreAscending (rows ++ r ∷ [])
ascending-push [] r up below = (tt, tt)
ascending-push (q ∷ rows) r up below =
    (AllByRecursion-push (λ (s : ValueCount). q.value < s.value) rows r up.0 below.0, ascending-push rows r up.1 below.1)

below_more : (rows : List ValueCount) (value next : ℕ) → value ≤ next → AllByRecursion (λ (q : ValueCount). q.value < value) rows
    → AllByRecursion (λ (q : ValueCount). q.value < next) rows
below_more [] value next le below = tt
below_more (q ∷ rows) value next le below = (omega (arith, le, below.0), below_more rows value next le below.1)

-- ---- the rows of the first values

-- rows and the one that is being counted, of so many first values
pub record AreRows (values : List ℕ) (place : ℕ) (rows : List ValueCount) (last : ValueCount) : Type 0 where
  pub spreads : spread (rows ++ last ∷ []) ≡ take place values
  pub ascending : AreAscending rows
  pub below : AllByRecursion (λ (q : ValueCount). q.value < last.value) rows
  pub some : AllByRecursion (λ (q : ValueCount). 1 ≤ q.count) rows
  pub counted : 1 ≤ last.count
  pub few : last.count ≤ place
  pub reached : 1 ≤ place
  pub within : place ≤ length values
  pub is_last : last.value ≡ get_or values (place - 1) 0

pub first_row : (values : List ℕ) (value : ℕ) → 0 < length values → value ≡ get_or values 0 0 → AreRows values 1 [] (count_row value 1)
first_row [] value lt is = absurd (omega (arith, lt))
first_row (x ∷ xs) value lt is = record {
  spreads = ap (λ y. y ∷ []) is;
  ascending = tt;
  below = tt;
  some = tt;
  counted = omega arith;
  few = omega arith;
  reached = omega arith;
  within = omega arith;
  is_last = is;
}

strictly : (x y : ℕ) → x ≤ y → x ≢ y → x < y
strictly x y le differ = elim (cases_lt x y) [ inl lt ↦ lt | inr ge ↦ absurd (differ (omega (arith, le, ge))) ]

module _ (values : List ℕ) (place : ℕ) (rows : List ValueCount) (last : ValueCount) (value : ℕ) (lt : place < length values) (at : value ≡ get_or values place 0)
    (are : AreRows values place rows last) where
  next_values : take (place + 1) values ≡ take place values ++ value ∷ []
  next_values = take_more values place 0 lt ∙ ap (λ y. take place values ++ y ∷ []) (sym at)

  at_next : value ≡ get_or values ((place + 1) - 1) 0
  at_next = let same : (place + 1) - 1 ≡ place = omega arith in at ∙ ap (λ i. get_or values i 0) (sym same)

  pub same_row : value ≡ last.value → AreRows values (place + 1) rows (count_row last.value (last.count + 1))
  same_row same = record {
    spreads = spread_more rows last.value last.count ∙ (ap (λ xs. xs ++ last.value ∷ []) are.spreads
        ∙ (ap (λ y. take place values ++ y ∷ []) (sym same) ∙ sym next_values));
    ascending = are.ascending;
    below = are.below;
    some = are.some;
    counted = omega (arith, are.counted);
    few = omega (arith, are.few);
    reached = omega arith;
    within = omega (arith, lt);
    is_last = sym same ∙ at_next;
  }

  rises : IsSorted nat_cmp values → last.value ≤ value
  rises sorted =
      let before : (place - 1) + 1 ≡ place = omega (arith, are.reached) in
      let up : get_or values (place - 1) 0 ≤ get_or values ((place - 1) + 1) 0 =
      ge_from_not_lt (get_or values ((place - 1) + 1) 0) (get_or values (place - 1) 0)
      (sorted (place - 1) 0 (omega arith) (omega (arith, before, lt))) in
      let here : get_or values ((place - 1) + 1) 0 ≡ value = ap (λ i. get_or values i 0) before ∙ sym at in
      omega (arith, up, here, are.is_last)

  pub next_row : IsSorted nat_cmp values → value ≢ last.value → AreRows values (place + 1) (rows ++ last ∷ []) (count_row value 1)
  next_row sorted differ =
      let up : last.value ≤ value = rises sorted in
      let less : last.value < value = strictly last.value value up (λ e. differ (sym e)) in
      record {
        spreads = spread_next (rows ++ last ∷ []) value ∙ (ap (λ xs. xs ++ value ∷ []) are.spreads ∙ sym next_values);
        ascending = ascending-push rows last are.ascending are.below;
        below = AllByRecursion-push (λ (q : ValueCount). q.value < value) rows last (below_more rows last.value value up are.below) less;
        some = AllByRecursion-push (λ (q : ValueCount). 1 ≤ q.count) rows last are.some are.counted;
        counted = omega arith;
        few = omega arith;
        reached = omega arith;
        within = omega (arith, lt);
        is_last = at_next;
      }

  pub counted_on : IsSorted nat_cmp values → (after : List ValueCount) (next : ValueCount) → CountsOn rows last value after next
      → AreRows values (place + 1) after next
  counted_on sorted after next step =
      elim step [
        | inl k ↦
            subst (λ r. AreRows values (place + 1) after r) (sym k.2)
            (subst (λ rs. AreRows values (place + 1) rs (count_row last.value (last.count + 1))) (sym k.1) (same_row k.0))
        | inr k ↦
            subst (λ r. AreRows values (place + 1) after r) (sym k.2)
            (subst (λ rs. AreRows values (place + 1) rs (count_row value 1)) (sym k.1) (next_row sorted k.0))
      ]

pub whole_table : (values : List ℕ) (place : ℕ) (rows : List ValueCount) (last : ValueCount) → length values ≤ place → AreRows values place rows last
    → IsTableOf values (rows ++ last ∷ [])
whole_table values place rows last past are =
    let all : spread (rows ++ last ∷ []) ≡ values = are.spreads ∙ take_all place values past in
    record {
      counted = subst (IsPermutation values) (sym all) (IsPermutation-refl values);
      ascending = ascending-push rows last are.ascending are.below;
      some = AllByRecursion-push (λ (q : ValueCount). 1 ≤ q.count) rows last are.some are.counted;
    }

pub no_rows : (values : List ℕ) → values ≡ [] → IsTableOf values []
no_rows values none = record { counted = subst (λ vs. IsPermutation vs []) (sym none) (IsPermutation-refl []); ascending = tt; some = tt }

-- a table of what was sorted
pub table_sorted : (values sorted : List ℕ) (rows : List ValueCount) → IsPermutation values sorted → IsTableOf sorted rows → IsTableOf values rows
table_sorted values sorted rows same table = record {
  counted = IsPermutation-trans values sorted (spread rows) same table.counted;
  ascending = table.ascending;
  some = table.some;
}
