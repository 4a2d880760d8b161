-- What a longer list of expansions generates, what stays true of it, and which lists are legal.
use Rattle.std.proofs.Common.{◌≡◌, ◌≢◌, ℕ, zero, suc, ◌+◌, ◌<◌, ◌≤◌, Option, Some, List, [], ◌∷◌, ◌++◌, map, take, length, get_or, Contains, inl, inr, refl, sym, ap, ◌∙◌, subst, subst₂, arith, take-take, get_or-take, append-nil, append_assoc, length-append}
use Rattle.std.specs.Prelude.{flat_map}
use Rattle.std.specs.List.{range_with_len, AllPairs}
use Rattle.std.proofs.lemmas.Bool.{cases_lt}
use Rattle.std.proofs.lemmas.List.{take-append-le, get_or_append_left, get_or_at, take_all, length-take, take_at, same_from_push}
use Rattle.std.proofs.lemmas.List.Concat.{flat_map-append}
use Rattle.std.proofs.lemmas.List.Elements.{Contains-append_left, Contains-append_cases}
use Rattle.std.proofs.lemmas.List.Kept.{AllPairs-filter}
use Rattle.std.proofs.Math.Seq.{take-suc}
use Rattle.hd_base.proofs.Members.{Contains-first, Contains-later, Contains-cons_cases, Contains-nil, IsFrom-from_map}
use Rattle.hd_base.proofs.Distinct.{AreApart, AreApart-append, AreApart-map, AreApart-range_with_len}
use Rattle.hd_base.proofs.Lists.{push_not_nil}
use Rattle.hd_task.specs.declared.task.Task.{Task}
use Rattle.hd_task.specs.Plans.{exec}
use Rattle.hd_task.specs.Expansions.{is_applicable, applicable_at, followed_by, children, generated, IsNext, IsLegal, bound_of, departing_at, departure_at, departures_from, departures_of}
use Rattle.hd_task.specs.Covers.{Estimate, IsBounded, Dead, Reaches, IsJustified}
use Rattle.hd_task.proofs.Bounds.{AtMost, cost_from_at_most, bound_at_most, bound_reached}

-- ---- what is generated

pub generated-push : (t : Task) (expanded : List (List ℕ)) (p : List ℕ) → generated t (expanded ++ p ∷ []) ≡ generated t expanded ++ children t p
generated-push t expanded p =
    ap (λ (xs : List (List ℕ)). [] ∷ xs)
    (flat_map-append (children t) expanded (p ∷ []) ∙ ap (λ xs. flat_map (children t) expanded ++ xs) (append-nil (children t p)))

parent_among : (t : Task) (expanded : List (List ℕ)) (p : List ℕ) (n : ℕ) → Contains (flat_map (children t) expanded) (followed_by p n) → Contains expanded p
parent_among t [] p n c = absurd (Contains-nil (followed_by p n) c)
parent_among t (q ∷ expanded) p n c =
    elim (Contains-append_cases (children t q) (flat_map (children t) expanded) (followed_by p n) c) [
      | inl c ↦
          let k = IsFrom-from_map (followed_by q) (applicable_at t (exec t q)) (followed_by p n) c in
          subst (Contains (q ∷ expanded)) (same_from_push q p k.source n k.is).0 (Contains-first q expanded)
      | inr c ↦ Contains-later q expanded p (parent_among t expanded p n c)
    ]

-- a generated plan is the empty one, or its parent is expanded
pub generated_parent : (t : Task) (expanded : List (List ℕ)) (p : List ℕ) (n : ℕ) → Contains (generated t expanded) (followed_by p n) → Contains expanded p
generated_parent t expanded p n c =
    elim (Contains-cons_cases [] (flat_map (children t) expanded) (followed_by p n) c) [
      | inl e ↦ absurd (push_not_nil p n (sym e))
      | inr c ↦ parent_among t expanded p n c
    ]

-- ---- legal lists

-- a beginning of a legal list is legal
pub legal_take : (t : Task) (expanded : List (List ℕ)) (m : ℕ) → IsLegal t expanded → IsLegal t (take m expanded)
legal_take t expanded m legal i d h =
    let lt : i < m = omega (arith, length-take m expanded) in
    let short : i < length expanded = omega (arith, length-take m expanded) in
    let front : take i (take m expanded) ≡ take i expanded = take-take i m expanded (omega arith) in
    subst₂ (IsNext t) (sym front) (sym (get_or-take m expanded i d lt)) (legal i d short)

-- a legal list with one plan more that may be expanded next is legal
pub legal_push : (t : Task) (expanded : List (List ℕ)) (p : List ℕ) → IsLegal t expanded → IsNext t expanded p → IsLegal t (expanded ++ p ∷ [])
legal_push t expanded p legal next n d h =
    elim (cases_lt n (length expanded)) [
      | inl lt ↦
          let front : take n (expanded ++ p ∷ []) ≡ take n expanded = take-append-le n expanded (p ∷ []) (omega arith) in
          let at : get_or (expanded ++ p ∷ []) n d ≡ get_or expanded n d = get_or_append_left expanded (p ∷ []) d n lt in
          subst₂ (IsNext t) (sym front) (sym at) (legal n d lt)
      | inr le ↦
          let same : n ≡ length expanded = omega (arith, length-append expanded (p ∷ [])) in
          let front : take n (expanded ++ p ∷ []) ≡ expanded = ap (λ n. take n (expanded ++ p ∷ [])) same ∙ take_at expanded (p ∷ []) (length expanded) refl in
          let at : get_or (expanded ++ p ∷ []) n d ≡ p = get_or_at expanded p [] d n (sym same) in
          subst₂ (IsNext t) (sym front) (sym at) next
    ]

-- ---- no plan is generated twice

-- an expansion generates no plan twice
children_apart : (t : Task) (p : List ℕ) → AreApart (children t p)
unfolding applicable_at
children_apart t p =
    let numbers = range_with_len 0 (length t.actions) in
    AreApart-map (followed_by p) (λ a b same. (same_from_push p p a b same).1) (applicable_at t (exec t p))
    (AllPairs-filter (λ (a b : ℕ). a ≢ b) (is_applicable t (exec t p)) numbers (AreApart-range_with_len 0 (length t.actions)))

-- nor does it generate one that was generated before it
apart_push : (t : Task) (expanded : List (List ℕ)) (p : List ℕ) → IsNext t expanded p → AreApart (generated t expanded) → AreApart (generated t (expanded ++ p ∷ []))
apart_push t expanded p next apart =
    subst (λ (plans : List (List ℕ)). AreApart plans) (sym (generated-push t expanded p))
    (AreApart-append (generated t expanded) (children t p) apart (children_apart t p) none_again) where
      none_again : (q : List ℕ) → Contains (generated t expanded) q → Contains (children t p) q → ⊥
      none_again q before child =
          let by = IsFrom-from_map (followed_by p) (applicable_at t (exec t p)) q child in
          next.is_new (generated_parent t expanded p by.source (subst (Contains (generated t expanded)) (sym by.is) before))

-- so the first entries of a legal list generate no plan twice
apart_upto : (t : Task) (expanded : List (List ℕ)) → IsLegal t expanded → (n : ℕ) → n ≤ length expanded → AreApart (generated t (take n expanded))
apart_upto t expanded legal zero few = λ i j d lt within. absurd (omega (arith, lt, within))
apart_upto t expanded legal (suc n) few =
    let lt : n < length expanded = omega (arith, few) in
    subst (λ plans. AreApart (generated t plans)) (sym (take-suc expanded n [] lt))
    (apart_push t (take n expanded) (get_or expanded n []) (legal n [] lt) (apart_upto t expanded legal n (omega (arith, few))))

-- what a legal list generates holds no plan twice
pub generated_once : (t : Task) (expanded : List (List ℕ)) → IsLegal t expanded → AllPairs (λ (p q : List ℕ). p ≢ q) (generated t expanded)
generated_once t expanded legal =
    subst (λ plans. AreApart (generated t plans)) (take_all (length expanded) expanded (omega arith))
    (apart_upto t expanded legal (length expanded) (omega arith))

-- ---- what stays when a list grows

-- the bound never rises
pub bound_grows : (t : Task) (expanded more : List (List ℕ)) (b : ℕ) → bound_of t expanded ≡ Some b → (lower : ℕ) × (bound_of t (expanded ++ more) ≡ Some lower) × (lower ≤ b)
bound_grows t expanded more b is =
    let best = bound_reached t expanded b is in
    cost_from_at_most (bound_of t (expanded ++ more)) b
    (subst (AtMost (bound_of t (expanded ++ more))) best.2 (bound_at_most t (expanded ++ more) best.0 (Contains-append_left expanded more best.0 best.1)))

bounded_grows : (t : Task) (expanded more : List (List ℕ)) (c : ℕ) (v : Option ℕ) → IsBounded (bound_of t expanded) c v → IsBounded (bound_of t (expanded ++ more)) c v
bounded_grows t expanded more c v (Dead dead) = Dead dead
bounded_grows t expanded more c v (Reaches b estimate is estimated reached) =
    let lower = bound_grows t expanded more b is in
    Reaches lower.0 estimate lower.1 estimated (omega (arith, lower.2, reached))

-- what is justified stays justified
pub justified_grows : (t : Task) (h : Estimate) (expanded more : List (List ℕ)) (p : List ℕ) → IsJustified t h expanded p → IsJustified t h (expanded ++ more) p
justified_grows t h expanded more p just = record {
  end = just.end;
  executes = just.executes;
  why = elim just.why [
    | inl d ↦ inl (record { plan = d.plan; end = d.end; among = Contains-append_left expanded more d.plan d.among; executes = d.executes; same_state = d.same_state; no_dearer = d.no_dearer })
    | inr b ↦ inr (bounded_grows t expanded more just.end.cost (h just.end.state) b)
  ];
}

-- recorded departures stay, in their order, before those of the further entries
pub departures_grow : (t : Task) (n : ℕ) (expanded more : List (List ℕ)) → departures_from t n (expanded ++ more) ≡ departures_from t n expanded ++ departures_from t (n + length expanded) more
departures_grow t n [] more = ap (λ m. departures_from t m more) (omega arith)
departures_grow t n (p ∷ expanded) more =
    let first = map (departure_at n) (departing_at t (exec t p)) in
    ap (λ ds. first ++ ds) (departures_grow t (n + 1) expanded more)
    ∙ (sym (append_assoc first (departures_from t (n + 1) expanded) (departures_from t (n + 1 + length expanded) more))
    ∙ ap (λ m. (first ++ departures_from t (n + 1) expanded) ++ departures_from t m more) (omega arith))

pub departures_stay : (t : Task) (expanded more : List (List ℕ)) → departures_of t (expanded ++ more) ≡ departures_of t expanded ++ departures_from t (length expanded) more
departures_stay t expanded more =
    departures_grow t 0 expanded more ∙ ap (λ m. departures_of t expanded ++ departures_from t m more) (omega arith)
