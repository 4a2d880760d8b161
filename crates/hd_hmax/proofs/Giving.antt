-- Places are given to lanes, and values are noted of them.
use Rattle.std.proofs.Common.{◌≡◌, ◌≢◌, ℕ, ◌<◌, ◌+◌, ◌==◌, Bool, true, false, nat_lt, cond, ◌||◌, ◌&&◌, List, length, get_or, set, take, replicate, subst, Option, Some, None, inl, inr, refl, sym, ap, ◌∙◌, arith, get_or-set_same, get_or-set_other}
use Rattle.std.specs.Prelude.{bit_or}
use Rattle.std.proofs.Math.Bool.{or_assoc}
use Rattle.std.proofs.lemmas.Bool.{cases_lt, cases_eq, eq-eqb, ne_eqb, lt-ltb}
use Rattle.std.proofs.lemmas.Bool.Decides.{nat_tests}
use Rattle.std.proofs.lemmas.List.{get_or-replicate, get_or_past, length-replicate}
use Rattle.std.proofs.lemmas.List.Folds.{list_any_more}
use Rattle.hd_base.proofs.Truth.{or-false}
use Rattle.hd_task.specs.declared.state.State.{State}
use Rattle.hd_task.specs.declared.task.Task.{Task}
use Rattle.hd_hmax.specs.declared.estimate.EstimateValue.{EstimateValue}
use Rattle.hd_hmax.specs.Rounds.{hmax}
use Rattle.hd_hmax.specs.Value.{estimated}
use Rattle.hd_hmax.specs.Lanes.{bit, is_set, is_among, IsValueOf}
use Rattle.hd_hmax.proofs.Bits.{bit-or}

-- ---- places

-- one place
pub given : (table : List ℕ) (q lanes : ℕ) → q < length table → (p j : ℕ) → is_set (set table q (bit_or (get_or table q 0) lanes)) p j ≡ (is_set table p j || (q == p && bit lanes j))
given table q lanes h p j =
    let w = bit_or (get_or table q 0) lanes in
    elim (cases_eq q p) [
      | inl same ↦
          ap (λ k. is_set (set table q w) k j) (sym same)
          ∙ (ap (λ x. bit x j) (get_or-set_same table q w 0 h)
          ∙ (bit-or (get_or table q 0) lanes j
          ∙ (ap (λ k. is_set table k j || bit lanes j) same
          ∙ ap (λ b. is_set table p j || (b && bit lanes j)) (sym (eq-eqb q p same)))))
      | inr apart ↦
          ap (λ x. bit x j) (get_or-set_other table q p w 0 (λ e. apart (sym e)))
          ∙ (sym (or-false (is_set table p j))
          ∙ ap (λ b. is_set table p j || (b && bit lanes j)) (sym (ne_eqb q p apart)))
    ]

or_and : (a b c : Bool) → ((a && c) || (b && c)) ≡ ((a || b) && c)
or_and true true true = refl
or_and true true false = refl
or_and true false true = refl
or_and true false false = refl
or_and false b c = refl

-- one place more
pub given_next : (start table places : List ℕ) (i lanes : ℕ) → i < length places → get_or places i 0 < length table
    → ((p j : ℕ) → is_set table p j ≡ (is_set start p j || (is_among (take i places) p && bit lanes j)))
    → (p j : ℕ) → is_set (set table (get_or places i 0) (bit_or (get_or table (get_or places i 0) 0) lanes)) p j ≡ (is_set start p j || (is_among (take (i + 1) places) p && bit lanes j))
given_next start table places i lanes lt within f p j =
    let q = get_or places i 0 in
    given table q lanes within p j
    ∙ (ap (λ b. b || (q == p && bit lanes j)) (f p j)
    ∙ (or_assoc (is_set start p j) (is_among (take i places) p && bit lanes j) (q == p && bit lanes j)
    ∙ ap (λ b. is_set start p j || b)
    (or_and (is_among (take i places) p) (q == p) (bit lanes j)
    ∙ ap (λ b. b && bit lanes j) (sym (list_any_more (λ k. k == p) places i 0 lt)))))

-- ---- values

below_next : (j lane : ℕ) → j ≢ lane → nat_lt j (lane + 1) ≡ nat_lt j lane
below_next j lane ne = grind (arith, nat_tests)

and-false : (b : Bool) → (b && false) ≡ false
and-false true = refl
and-false false = refl

abbrev pub Noted : List (Option EstimateValue) → ℕ → EstimateValue → ℕ → List (Option EstimateValue) → Type 0
Noted start lanes e lane values = (j : ℕ) → j < 64 → get_or values j None ≡ cond (nat_lt j lane && bit lanes j) (Some e) (get_or start j None)

pub noted : (start values : List (Option EstimateValue)) (lanes lane : ℕ) (e : EstimateValue) → lane < length values → bit lanes lane ≡ true → Noted start lanes e lane values → Noted start lanes e (lane + 1) (set values lane (Some e))
noted start values lanes lane e lt b f j h =
    elim (cases_eq j lane) [
      | inl is ↦
          ap (λ k. get_or (set values lane (Some e)) k None) is
          ∙ (get_or-set_same values lane (Some e) None lt
          ∙ sym (ap (λ t. cond (t && bit lanes j) (Some e) (get_or start j None)) (lt-ltb j (lane + 1) (omega (arith, is))) ∙ ap (λ t. cond t (Some e) (get_or start j None)) (ap (bit lanes) is ∙ b)))
      | inr ne ↦
          get_or-set_other values lane j (Some e) None ne
          ∙ (f j h ∙ sym (ap (λ t. cond (t && bit lanes j) (Some e) (get_or start j None)) (below_next j lane ne)))
    ]

pub not_noted : (start values : List (Option EstimateValue)) (lanes lane : ℕ) (e : EstimateValue) → bit lanes lane ≡ false → Noted start lanes e lane values → Noted start lanes e (lane + 1) values
not_noted start values lanes lane e b f j h =
    f j h
    ∙ ap (λ t. cond t (Some e) (get_or start j None))
    (elim (cases_eq j lane) [
      | inl is ↦
          ap (λ t. nat_lt j lane && t) (ap (bit lanes) is ∙ b) ∙ (and-false (nat_lt j lane) ∙ sym (ap (λ t. nat_lt j (lane + 1) && t) (ap (bit lanes) is ∙ b) ∙ and-false (nat_lt j (lane + 1))))
      | inr ne ↦ ap (λ t. t && bit lanes j) (sym (below_next j lane ne))
    ])

-- nothing is told of any lane
abbrev untold : Option EstimateValue
untold = None

pub none_told : (t : Task) (s : State) (j : ℕ) → IsValueOf t s (get_or (replicate 64 untold) j untold)
none_told t s j =
    elim (cases_lt j 64) [
      | inl h ↦ subst (IsValueOf t s) (sym (get_or-replicate 64 j untold untold h)) tt
      | inr h ↦ subst (IsValueOf t s) (sym (get_or_past (replicate 64 untold) j untold (let e = length-replicate 64 untold in omega (arith, e, h)))) tt
    ]

-- the same is told of all lanes
pub told_all : (t : Task) (s : State) (e : EstimateValue) (j : ℕ) → j < 64 → estimated e ≡ hmax t s → IsValueOf t s (get_or (replicate 64 (Some e)) j untold)
told_all t s e j h is = subst (IsValueOf t s) (sym (get_or-replicate 64 j (Some e) untold h)) is
