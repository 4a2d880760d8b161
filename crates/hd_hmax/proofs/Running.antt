-- The queue: a row of rules in the order of their costs, and a heap.
use Rattle.std.proofs.Common.{◌≡◌, ℕ, ◌+◌, ◌<◌, ◌≤◌, false, List, [], ◌∷◌, ◌++◌, length, get_or, Contains, ◌⊎◌, inl, inr, refl, sym, ap, ◌∙◌, arith, length-append}
use Rattle.std.specs.Ordering.{is_lt, nat_cmp, ordering_then}
use Rattle.std.specs.declared.cmp.Ordering.{Ordering}
use Rattle.std.specs.declared.cmp.Ordering.TheVariants.{Less, Equal, Greater}
use Rattle.std.specs.List.Sorted.{IsPermutation}
use Rattle.std.specs.BinaryHeap.{IsUpperBound, lt_by_cmp}
use Rattle.std.proofs.lemmas.Bool.{true≢false, cases_lt}
use Rattle.std.proofs.lemmas.List.{get_or_at, get_or_append_left}
use Rattle.std.proofs.lemmas.List.Sorted.{Contains-permutation, IsPermutation-sym}
use Rattle.std.proofs.lemmas.Map.Keys.{ge_from_not_lt}
use Rattle.hd_base.proofs.Members.{Contains-first, Contains-later, Contains-cons_cases, Contains-nil}
use Rattle.hd_hmax.specs.Queue.{Ready, by_cost, none, IsSortedRow, WaitsIn, IsPushed, IsPopped}

first_decides : (a b : Ordering) → is_lt (ordering_then a b) ≡ false → is_lt a ≡ false
first_decides Less b e = absurd (true≢false e)
first_decides Equal b e = refl
first_decides Greater b e = refl

no_dearer : (x y : Ready) → lt_by_cmp by_cost x y ≡ false → x.0.0 ≤ y.0.0
no_dearer x y e = ge_from_not_lt y.0.0 x.0.0 (first_decides (nat_cmp y.0.0 x.0.0) (nat_cmp y.0.1 x.0.1) e)

pub no_dearer_all : (x : Ready) (heap : List Ready) → IsUpperBound by_cost x heap → (y : Ready) → Contains heap y → x.0.0 ≤ y.0.0
no_dearer_all x [] each y m = absurd (Contains-nil y m)
no_dearer_all x (z ∷ heap) each y m =
    elim (Contains-cons_cases z heap y m) [
      | inl same ↦ let e : z.0.0 ≡ y.0.0 = ap (λ (r : Ready). r.0.0) same in let k = no_dearer x z each.0 in omega (arith, e, k)
      | inr later ↦ no_dearer_all x heap each.1 y later
    ]

-- ---- a rule more in the row

module _ (run : List Ready) (last : ℕ) (x : Ready) (in_order : IsSortedRow run last) (up : last ≤ x.0.0) where
  at_end : get_or (run ++ x ∷ []) (length run) none ≡ x
  at_end = get_or_at run x [] none (length run) refl

  before_end : (i : ℕ) → i < length run → get_or (run ++ x ∷ []) i none ≡ get_or run i none
  before_end i h = get_or_append_left run (x ∷ []) none i h

  longer : length (run ++ x ∷ []) ≡ length run + 1
  longer = omega (arith, length-append run (x ∷ []))

  cost_before : (i : ℕ) → i < length run → (get_or (run ++ x ∷ []) i none).0.0 ≡ (get_or run i none).0.0
  cost_before i h = ap (λ (r : Ready). r.0.0) (before_end i h)

  cost_end : (i : ℕ) → i ≡ length run → (get_or (run ++ x ∷ []) i none).0.0 ≡ x.0.0
  cost_end i e = ap (λ i. (get_or (run ++ x ∷ []) i none).0.0) e ∙ ap (λ (r : Ready). r.0.0) at_end

  low_now : (i : ℕ) → i < length (run ++ x ∷ []) → (get_or (run ++ x ∷ []) i none).0.0 ≤ x.0.0
  low_now i h =
      elim (cases_lt i (length run)) [
        | inl old ↦ let e = cost_before i old in let k = in_order.low i old in omega (arith, e, k, up)
        | inr new ↦ let e = cost_end i (let l = longer in omega (arith, h, l, new)) in omega (arith, e)
      ]

  pub run_pushed : IsSortedRow (run ++ x ∷ []) x.0.0
  run_pushed = record {
    rises = λ i j le h.
        elim (cases_lt j (length run)) [
          | inl old ↦
              let a = cost_before i (omega (arith, le, old)) in
              let b = cost_before j old in
              let k = in_order.rises i j le old in
              omega (arith, a, b, k)
          | inr new ↦
              let e = cost_end j (let l = longer in omega (arith, h, l, new)) in
              let k = low_now i (omega (arith, le, h)) in
              omega (arith, e, k)
        ];
    low = low_now;
  }

  pub pushed_to_run : (taken : ℕ) (heap : List Ready) → taken ≤ length run → IsPushed (WaitsIn run taken heap) x (WaitsIn (run ++ x ∷ []) taken heap)
  pushed_to_run taken heap within = record {
    has = inl (record { place = length run; from = within; within = let l = longer in omega (arith, l); is = at_end });
    kept = λ y w.
        elim w [
          | inl there ↦
              let h = there.within in
              inl (record { place = there.place; from = there.from; within = let l = longer in omega (arith, l, h); is = before_end there.place h ∙ there.is })
          | inr late ↦ inr late
        ];
    from = λ y w.
        elim w [
          | inl there ↦
              let h = there.within in
              elim (cases_lt there.place (length run)) [
                | inl old ↦ inl (inl (record { place = there.place; from = there.from; within = old; is = sym (before_end there.place old) ∙ there.is }))
                | inr new ↦
                    let e : there.place ≡ length run = let l = longer in omega (arith, h, l, new) in
                    inr (sym (sym (ap (λ i. get_or (run ++ x ∷ []) i none) e ∙ at_end) ∙ there.is))
              ]
          | inr late ↦ inl (inr late)
        ];
  }

-- ---- a rule more in the heap

pub pushed_late : (run : List Ready) (taken : ℕ) (heap now : List Ready) (x : Ready) → IsPermutation (x ∷ heap) now → IsPushed (WaitsIn run taken heap) x (WaitsIn run taken now)
pushed_late run taken heap now x moved = record {
  has = inr (Contains-permutation (x ∷ heap) now x moved (Contains-first x heap));
  kept = λ y w.
      elim w [
        | inl there ↦ inl there
        | inr late ↦ inr (Contains-permutation (x ∷ heap) now y moved (Contains-later x heap y late))
      ];
  from = λ y w.
      elim w [
        | inl there ↦ inl (inl there)
        | inr late ↦
            elim (Contains-cons_cases x heap y (Contains-permutation now (x ∷ heap) y (IsPermutation-sym (x ∷ heap) now moved) late)) [
              | inl same ↦ inr (sym same)
              | inr old ↦ inl (inr old)
            ]
      ];
}

-- ---- a rule less

pub popped_from_run : (run : List Ready) (last taken : ℕ) (heap : List Ready) → IsSortedRow run last → taken < length run → ((y : Ready) → Contains heap y → (get_or run taken none).0.0 ≤ y.0.0)
    → IsPopped (WaitsIn run taken heap) (get_or run taken none) (WaitsIn run (taken + 1) heap)
popped_from_run run last taken heap in_order there cheap = record {
  was = inl (record { place = taken; from = omega arith; within = there; is = refl });
  kept = λ y w.
      elim w [
        | inl k ↦
            let from = k.from in
            elim (cases_lt taken k.place) [
              | inl later ↦ inl (inl (record { place = k.place; from = omega (arith, later); within = k.within; is = k.is }))
              | inr here ↦ let e : k.place ≡ taken = omega (arith, from, here) in inr (sym k.is ∙ ap (λ i. get_or run i none) e)
            ]
        | inr late ↦ inl (inr late)
      ];
  from = λ y w.
      elim w [
        | inl k ↦ let from = k.from in inl (record { place = k.place; from = omega (arith, from); within = k.within; is = k.is })
        | inr late ↦ inr late
      ];
  least = λ y w.
      elim w [
        | inl k ↦
            let from = k.from in
            let e : (get_or run k.place none).0.0 ≡ y.0.0 = ap (λ (r : Ready). r.0.0) k.is in
            let up = in_order.rises taken k.place (omega (arith, from)) k.within in
            omega (arith, e, up)
        | inr late ↦ cheap y late
      ];
}

back : (heap now : List Ready) (x : Ready) → IsPermutation heap (x ∷ now) → (y : Ready) → Contains (x ∷ now) y → Contains heap y
back heap now x moved y m = Contains-permutation (x ∷ now) heap y (IsPermutation-sym heap (x ∷ now) moved) m

pub popped_late : (run : List Ready) (last taken : ℕ) (heap now : List Ready) (x : Ready) → IsSortedRow run last → IsPermutation heap (x ∷ now) → ((y : Ready) → Contains now y → x.0.0 ≤ y.0.0)
    → (length run ≤ taken) ⊎ ((h : Ready) × Contains heap h × (h.0.0 ≤ (get_or run taken none).0.0)) → IsPopped (WaitsIn run taken heap) x (WaitsIn run taken now)
popped_late run last taken heap now x in_order moved least late = record {
  was = inr (back heap now x moved x (Contains-first x now));
  kept = λ y w.
      elim w [
        | inl there ↦ inl (inl there)
        | inr m ↦ elim (Contains-cons_cases x now y (Contains-permutation heap (x ∷ now) y moved m)) [ inl same ↦ inr (sym same) | inr other ↦ inl (inr other) ]
      ];
  from = λ y w. elim w [ inl there ↦ inl there | inr m ↦ inr (back heap now x moved y (Contains-later x now y m)) ];
  least = λ y w.
      elim w [
        | inl k ↦
            let from = k.from in
            let within = k.within in
            elim late [
              | inl over ↦ absurd (omega (arith, over, from, within))
              | inr h ↦
                  let e : (get_or run k.place none).0.0 ≡ y.0.0 = ap (λ (r : Ready). r.0.0) k.is in
                  let up = in_order.rises taken k.place from within in
                  let first : x.0.0 ≤ h.0.0.0 =
                  elim (Contains-cons_cases x now h.0 (Contains-permutation heap (x ∷ now) h.0 moved h.1)) [
                    | inl same ↦ let e : x.0.0 ≡ h.0.0.0 = ap (λ (r : Ready). r.0.0) same in omega (arith, e)
                    | inr other ↦ least h.0 other
                  ]
                  in
                  let below = h.2 in
                  omega (arith, e, up, first, below)
            ]
        | inr m ↦ least y m
      ];
}
