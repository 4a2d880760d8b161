-- How often a number stands in a list, and how many places of a list are open.
use Rattle.std.proofs.Common.{◌≡◌, ℕ, ◌+◌, ◌-◌, ◌<◌, ◌≤◌, ◌==◌, nat_lt, Bool, true, false, cond, List, [], ◌∷◌, ◌++◌, filter, length, set, get_or, replicate, Contains, inl, inr, refl, sym, ap, ◌∙◌, subst, arith, length-set}
use Rattle.std.specs.List.{sum_by}
use Rattle.std.proofs.lemmas.Bool.{both_ways, cases_lt, cases_eq, cases_Bool, eq-eqb, ne_eqb, lt-ltb, le-ltb, cond-true, cond-false}
use Rattle.std.proofs.lemmas.List.Sums.{length-filter, sum_by-set}
use Rattle.std.proofs.lemmas.List.{get_or_past, get_or-replicate}
use Rattle.hd_base.proofs.Lists.{get_or-set}
use Rattle.hd_base.proofs.Members.{Contains-first, Contains-later, Contains-cons_cases, Contains-nil}
use Rattle.hd_hmax.specs.Rules.{times}
use Rattle.hd_hmax.specs.Working.{is_open, open_in, unfinished, StayClosed}

-- one where a test holds
abbrev pub unit_if : Bool → ℕ
unit_if true = 1
unit_if false = 0

length_if : (b : Bool) (x : ℕ) (xs : List ℕ) → length (cond b (x ∷ xs) xs) ≡ length xs + unit_if b
length_if true x xs = omega arith
length_if false x xs = omega arith

-- ---- how often

pub times-cons : (x y : ℕ) (ys : List ℕ) → times x (y ∷ ys) ≡ times x ys + unit_if (y == x)
unfolding times
times-cons x y ys = length_if (y == x) y (filter (λ z. z == x) ys)

pub times-nil : (x : ℕ) → times x [] ≡ 0
unfolding times
times-nil x = refl

pub one_if_same : (x y : ℕ) → y ≡ x → unit_if (y == x) ≡ 1
one_if_same x y e = ap unit_if (eq-eqb y x e)

pub none_if_apart : (x y : ℕ) → (y ≡ x → ⊥) → unit_if (y == x) ≡ 0
none_if_apart x y e = ap unit_if (ne_eqb y x e)

pub times_first : (x : ℕ) (ys : List ℕ) → times x (x ∷ ys) ≡ times x ys + 1
times_first x ys = times-cons x x ys ∙ ap (λ k. times x ys + k) (one_if_same x x refl)

pub times_other : (x y : ℕ) (ys : List ℕ) → (x ≡ y → ⊥) → times x (y ∷ ys) ≡ times x ys
times_other x y ys apart =
    let a = times-cons x y ys in
    let b = none_if_apart x y (λ e. apart (sym e)) in
    omega (arith, a, b)

pub times_positive : (x : ℕ) (ys : List ℕ) → Contains ys x → 0 < times x ys
times_positive x [] m = absurd (Contains-nil x m)
times_positive x (y ∷ ys) m =
    let a = times-cons x y ys in
    elim (Contains-cons_cases y ys x m) [
      | inl same ↦ let b = one_if_same x y same in omega (arith, a, b)
      | inr later ↦ let k = times_positive x ys later in omega (arith, a, k)
    ]

pub times_member : (x : ℕ) (ys : List ℕ) → 0 < times x ys → Contains ys x
times_member x [] h = let e = times-nil x in absurd (omega (arith, e, h))
times_member x (y ∷ ys) h =
    elim (cases_eq y x) [
      | inl same ↦ subst (Contains (y ∷ ys)) same (Contains-first y ys)
      | inr apart ↦
          let e = times_other x y ys (λ e. apart (sym e)) in
          Contains-later y ys x (times_member x ys (omega (arith, e, h)))
    ]

pub times-append : (x : ℕ) (xs ys : List ℕ) → times x (xs ++ ys) ≡ times x xs + times x ys
times-append x [] ys = let e = times-nil x in omega (arith, e)
times-append x (y ∷ xs) ys =
    let a = times-cons x y (xs ++ ys) in
    let b = times-cons x y xs in
    let k = times-append x xs ys in
    omega (arith, a, b, k)

-- ---- how many are open

pub open_in-cons : (pending : List Bool) (p : ℕ) (ps : List ℕ) → open_in pending (p ∷ ps) ≡ open_in pending ps + unit_if (is_open pending p)
unfolding open_in
open_in-cons pending p ps = length_if (is_open pending p) p (filter (is_open pending) ps)

pub open_in-nil : (pending : List Bool) → open_in pending [] ≡ 0
unfolding open_in
open_in-nil pending = refl

pub none_open : (pending : List Bool) (ps : List ℕ) → open_in pending ps ≡ 0 → (p : ℕ) → Contains ps p → is_open pending p ≡ false
none_open pending [] e p m = absurd (Contains-nil p m)
none_open pending (q ∷ ps) e p m =
    let a = open_in-cons pending q ps in
    elim (Contains-cons_cases q ps p m) [
      | inl same ↦
          elim (cases_Bool (is_open pending q)) [
            | inl still ↦ let b : unit_if (is_open pending q) ≡ 1 = ap unit_if still in absurd (omega (arith, a, b, e))
            | inr shut ↦ ap (is_open pending) (sym same) ∙ shut
          ]
      | inr later ↦ none_open pending ps (omega (arith, a, e)) p later
    ]

pub all_closed : (pending : List Bool) (ps : List ℕ) → ((p : ℕ) → Contains ps p → is_open pending p ≡ false) → open_in pending ps ≡ 0
all_closed pending [] each = open_in-nil pending
all_closed pending (q ∷ ps) each =
    let a = open_in-cons pending q ps in
    let b : unit_if (is_open pending q) ≡ 0 = ap unit_if (each q (Contains-first q ps)) in
    let k = all_closed pending ps (λ p m. each p (Contains-later q ps p m)) in
    omega (arith, a, b, k)

pub all_open : (count : ℕ) (ps : List ℕ) → ((p : ℕ) → Contains ps p → p < count) → open_in (replicate count true) ps ≡ length ps
all_open count [] each = open_in-nil (replicate count true)
all_open count (q ∷ ps) each =
    let a = open_in-cons (replicate count true) q ps in
    let still : is_open (replicate count true) q ≡ true = get_or-replicate count q true false (each q (Contains-first q ps)) in
    let b : unit_if (is_open (replicate count true) q) ≡ 1 = ap unit_if still in
    let k = all_open count ps (λ p m. each p (Contains-later q ps p m)) in
    omega (arith, a, b, k)

-- ---- one place is closed

pub closed_there : (pending : List Bool) (p : ℕ) → p < length pending → is_open (set pending p false) p ≡ false
closed_there pending p h = get_or-set pending p false p false h ∙ cond-true (p == p) false (is_open pending p) (eq-eqb p p refl)

pub closed_elsewhere : (pending : List Bool) (p q : ℕ) → p < length pending → (q ≡ p → ⊥) → is_open (set pending p false) q ≡ is_open pending q
closed_elsewhere pending p q h apart =
    elim (cases_lt q (length pending)) [
      | inl own ↦ get_or-set pending p false q false own ∙ cond-false (p == q) false (is_open pending q) (ne_eqb p q (λ e. apart (sym e)))
      | inr past ↦ get_or_past (set pending p false) q false (omega (arith, past, length-set pending p false)) ∙ sym (get_or_past pending q false past)
    ]

pub stays_closed : (pending : List Bool) (p : ℕ) → p < length pending → (q : ℕ) → is_open pending q ≡ false → is_open (set pending p false) q ≡ false
stays_closed pending p h q e =
    elim (cases_eq q p) [
      | inl same ↦ ap (is_open (set pending p false)) same ∙ closed_there pending p h
      | inr apart ↦ closed_elsewhere pending p q h apart ∙ e
    ]

pub open_in-closing : (pending : List Bool) (p : ℕ) → p < length pending → is_open pending p ≡ true → (ps : List ℕ) → open_in (set pending p false) ps + times p ps ≡ open_in pending ps
open_in-closing pending p h was [] =
    let a = open_in-nil pending in
    let b = open_in-nil (set pending p false) in
    let c = times-nil p in
    omega (arith, a, b, c)
open_in-closing pending p h was (q ∷ ps) =
    let k = open_in-closing pending p h was ps in
    let a = open_in-cons (set pending p false) q ps in
    let b = open_in-cons pending q ps in
    let c = times-cons p q ps in
    elim (cases_eq q p) [
      | inl same ↦
          let x : unit_if (is_open (set pending p false) q) ≡ 0 = ap unit_if (ap (is_open (set pending p false)) same ∙ closed_there pending p h) in
          let y : unit_if (is_open pending q) ≡ 1 = ap unit_if (ap (is_open pending) same ∙ was) in
          let z = one_if_same p q same in
          omega (arith, k, a, b, c, x, y, z)
      | inr apart ↦
          let x : unit_if (is_open (set pending p false) q) ≡ unit_if (is_open pending q) = ap unit_if (closed_elsewhere pending p q h apart) in
          let z = none_if_apart p q apart in
          omega (arith, k, a, b, c, x, z)
    ]

-- ---- rules that still need open places

-- one rule needs one place less
pub unfinished_less : (left : List ℕ) (i k : ℕ) → i < length left → 0 < get_or left i 0 → unfinished (set left i k) + 1 ≡ unfinished left + cond (nat_lt 0 k) 1 0
unfolding unfinished
unfinished_less left i k h positive =
    let f : ℕ → ℕ = λ x. cond (nat_lt 0 x) 1 0 in
    let before = length-filter (nat_lt 0) left in
    let after = length-filter (nat_lt 0) (set left i k) in
    let sums : sum_by f (set left i k) + f (get_or left i 0) ≡ sum_by f left + f k = sum_by-set f left i k 0 h in
    let one : f (get_or left i 0) ≡ 1 = cond-true (nat_lt 0 (get_or left i 0)) 1 0 (lt-ltb 0 (get_or left i 0) positive) in
    omega (arith, before, after, sums, one)

filter_most : (p : ℕ → Bool) (xs : List ℕ) → length (filter p xs) ≤ length xs
filter_most p [] = omega arith
filter_most p (x ∷ xs) =
    let k = filter_most p xs in
    elim (cases_Bool (p x)) [
      | inl passes ↦ let e = ap (λ b. length (cond b (x ∷ filter p xs) (filter p xs))) passes in omega (arith, e, k)
      | inr fails ↦ let e = ap (λ b. length (cond b (x ∷ filter p xs) (filter p xs))) fails in omega (arith, e, k)
    ]

pub unfinished_most : (left : List ℕ) → unfinished left ≤ length left
unfolding unfinished
unfinished_most left = filter_most (nat_lt 0) left

-- where a rule needs one place more, it stays unfinished
pub unfinished_same : (left : List ℕ) (i : ℕ) → i < length left → 1 < get_or left i 0 → unfinished (set left i (get_or left i 0 - 1)) ≡ unfinished left
unfinished_same left i h more =
    let e = unfinished_less left i (get_or left i 0 - 1) h (omega (arith, more)) in
    let f : ℕ → ℕ = λ x. cond (nat_lt 0 x) 1 0 in
    let one : f (get_or left i 0 - 1) ≡ 1 = cond-true (nat_lt 0 (get_or left i 0 - 1)) 1 0 (lt-ltb 0 (get_or left i 0 - 1) (omega (arith, more))) in
    omega (arith, e, one)

-- where it needs no more, one rule less is unfinished
pub unfinished_done : (left : List ℕ) (i : ℕ) → i < length left → get_or left i 0 ≡ 1 → unfinished (set left i (get_or left i 0 - 1)) + 1 ≡ unfinished left
unfinished_done left i h last =
    let e = unfinished_less left i (get_or left i 0 - 1) h (omega (arith, last)) in
    let f : ℕ → ℕ = λ x. cond (nat_lt 0 x) 1 0 in
    let none : f (get_or left i 0 - 1) ≡ 0 = cond-false (nat_lt 0 (get_or left i 0 - 1)) 1 0 (le-ltb 0 (get_or left i 0 - 1) (omega (arith, last))) in
    omega (arith, e, none)

-- a place that is open was open before
pub was_open : (before now : List Bool) → StayClosed before now → (p : ℕ) → is_open now p ≡ true → is_open before p ≡ true
was_open before now stay p e =
    elim (cases_Bool (is_open before p)) [
      | inl still ↦ still
      | inr shut ↦ absurd (both_ways (is_open now p) (stay p shut) e)
    ]
