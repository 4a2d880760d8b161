-- A place is closed, and the rules that need it are told, one after the other.
use Rattle.std.proofs.Common.{◌≡◌, ℕ, ◌+◌, ◌-◌, ◌<◌, ◌≤◌, ◌==◌, nat_le, Bool, true, false, List, [], ◌∷◌, drop, length, set, get_or, slice_get, Option, Some, Contains, inl, inr, refl, sym, ap, ◌∙◌, subst, arith, length-set}
use Rattle.std.specs.List.{list_all, fold}
use Rattle.std.proofs.Math.Seq.{drop-cons}
use Rattle.std.proofs.Math.Numerals.{add-one}
use Rattle.std.proofs.lemmas.Bool.{cases_lt, cases_eq, eq-eqb, ne_eqb, le-leb, leb-true, lt-leb, and_parts, and_from, cond-true, cond-false}
use Rattle.hd_base.proofs.Lists.{get_or-set}
use Rattle.hd_base.proofs.Members.{Contains-first, Contains-later}
use Rattle.hd_base.proofs.Tests.{list_all-from_each}
use Rattle.hd_task.specs.declared.state.State.{State}
use Rattle.hd_task.specs.declared.task.Task.{Task}
use Rattle.hd_hmax.specs.Costs.{greater, plus_price, up_to}
use Rattle.hd_hmax.specs.Queue.{Ready, ready}
use Rattle.hd_hmax.specs.Rules.{places, needs, row, times, IsTransposed}
use Rattle.hd_hmax.specs.Working.{final_value, price_by, rule_cost, is_open, open_in, IsLeftCounted, IsEntry, IsAtLevel, AreReady, IsTold}
use Rattle.hd_hmax.proofs.Infinite.{up_to-all, up_to-more, same_costs}
use Rattle.hd_hmax.proofs.Counts.{each_passes}
use Rattle.hd_hmax.proofs.Places.{needs-below}
use Rattle.hd_hmax.proofs.Counting.{times-nil, times_first, times_other, times_positive, times_member, none_open, closed_elsewhere, stays_closed, open_in-closing}

-- ---- the greatest of costs

pub each_up_to : {X : Type 0} (c : ℕ) (f : X → Option ℕ) (xs : List X) → up_to c (fold (λ m x. greater m (f x)) (Some 0) xs) ≡ true → list_all (λ x. up_to c (f x)) xs ≡ true
each_up_to c f xs e = (and_parts (nat_le 0 c) (list_all (λ x. up_to c (f x)) xs) (sym (up_to-all c f (Some 0) xs) ∙ e)).1

pub greatest_up_to : {X : Type 0} (c : ℕ) (f : X → Option ℕ) (xs : List X) → ((x : X) → Contains xs x → up_to c (f x) ≡ true) → up_to c (fold (λ m x. greater m (f x)) (Some 0) xs) ≡ true
greatest_up_to c f xs each =
    up_to-all c f (Some 0) xs
    ∙ and_from (nat_le 0 c) (list_all (λ x. up_to c (f x)) xs) (le-leb 0 c (omega arith)) (list_all-from_each (λ x. up_to c (f x)) xs each)

greatest_is : {X : Type 0} (f : X → Option ℕ) (xs : List X) (level : ℕ) (x : X) → ((y : X) → Contains xs y → up_to level (f y) ≡ true) → Contains xs x → f x ≡ Some level
    → fold (λ m y. greater m (f y)) (Some 0) xs ≡ Some level
greatest_is f xs level x each among is =
    same_costs (fold (λ m y. greater m (f y)) (Some 0) xs) (Some level)
    (λ c e. sym (ap (up_to c) is) ∙ each_passes (λ y. up_to c (f y)) xs x (each_up_to c f xs e) among)
    (λ c e. greatest_up_to c f xs (λ y m. up_to-more level c (f y) (leb-true level c e) (each y m)))

-- ---- one after the other

pub drop_next : (xs : List ℕ) (i : ℕ) → i < length xs → drop i xs ≡ get_or xs i 0 ∷ drop (i + 1) xs
drop_next xs i h = drop-cons xs i 0 h ∙ ap (λ k. get_or xs i 0 ∷ drop k xs) (sym (add-one i))

-- ---- a rule is reported

module _ (t : Task) (pending : List Bool) (left : List ℕ) (r : ℕ) (rest : List ℕ) (f : IsLeftCounted t pending left (r ∷ rest)) where
  pub told_known : r ≤ length t.actions
  told_known = f.known r (Contains-first r rest)

  pub told_within : r < length left
  told_within = let e = f.rules in let k = told_known in omega (arith, e, k)

  -- it still needs the place that it is told of
  pub needs_still : 0 < get_or left r 0
  needs_still = let e = f.counted r told_known in let k = times_first r rest in omega (arith, e, k)

  module _ (waits : Ready → Type 0) (cost : ℕ) (after : List ℕ) (now : Ready → Type 0) (told : IsTold left waits r cost after now) where
    here : get_or after r 0 ≡ get_or left r 0 - 1
    here =
        ap (λ xs. get_or xs r 0) told.less
        ∙ (get_or-set left r (get_or left r 0 - 1) r 0 told_within ∙ cond-true (r == r) (get_or left r 0 - 1) (get_or left r 0) (eq-eqb r r refl))

    elsewhere : (q : ℕ) → q ≤ length t.actions → (q ≡ r → ⊥) → get_or after q 0 ≡ get_or left q 0
    elsewhere q h apart =
        ap (λ xs. get_or xs q 0) told.less
        ∙ (get_or-set left r (get_or left r 0 - 1) q 0 (let e = f.rules in omega (arith, e, h)) ∙ cond-false (r == q) (get_or left r 0 - 1) (get_or left q 0) (ne_eqb r q (λ e. apart (sym e))))

    pub counted_next : IsLeftCounted t pending after rest
    counted_next = record {
      width = f.width;
      rules = ap length told.less ∙ (length-set left r (get_or left r 0 - 1) ∙ f.rules);
      counted = λ q h.
          elim (cases_eq q r) [
            | inl same ↦
                let e = f.counted r told_known in
                let k = times_first r rest in
                let l = here in
                subst (λ q. get_or after q 0 ≡ open_in pending (needs t q) + times q rest) (sym same) (omega (arith, e, k, l))
            | inr apart ↦
                let e = f.counted q h in
                let k = times_other q r rest apart in
                let l = elsewhere q h apart in
                omega (arith, e, k, l)
          ];
      known = λ q m. f.known q (Contains-later r rest q m);
    }

    closed_up_to : (s : State) (level : ℕ) → IsAtLevel t s pending waits level (r ∷ rest) → (p : ℕ) → Contains (needs t r) p → is_open pending p ≡ false → up_to level (final_value t s p) ≡ true
    closed_up_to s level g p m e =
        let v = g.closed p (needs-below t r p m) e in
        ap (up_to level) v.1 ∙ le-leb v.0 level v.2

    -- where that was the last, it costs its price more than the level
    last_cost : (s : State) (level : ℕ) → IsAtLevel t s pending waits level (r ∷ rest) → get_or left r 0 ≡ 1 → rule_cost t s r ≡ Some (price_by t (slice_get t.actions r) + level)
    unfolding rule_cost
    last_cost s level g one =
        let e = f.counted r told_known in
        let k = times_first r rest in
        let none : open_in pending (needs t r) ≡ 0 = omega (arith, e, k, one) in
        let at = g.asking r (Contains-first r rest) in
        ap (plus_price (price_by t (slice_get t.actions r)))
        (greatest_is (final_value t s) (needs t r) level at.0
        (λ p m. closed_up_to s level g p m (none_open pending (needs t r) none p m))
        at.1 at.2)

    last_entry : (s : State) (level : ℕ) → cost ≡ price_by t (slice_get t.actions r) + level → IsAtLevel t s pending waits level (r ∷ rest) → get_or left r 0 ≡ 1 → IsEntry t s level (ready cost r)
    last_entry s level is g one = record {
      known = told_known;
      cost = last_cost s level g one ∙ ap Some (sym is);
      above = omega (arith, is);
    }

    pub fair_next : (s : State) (level : ℕ) → cost ≡ price_by t (slice_get t.actions r) + level → IsAtLevel t s pending waits level (r ∷ rest) → IsAtLevel t s pending now level rest
    fair_next s level is g = record {
      closed = g.closed;
      queued = λ y m.
          elim (told.from y m) [
            | inl old ↦ g.queued y old
            | inr last ↦ subst (IsEntry t s level) (sym last.1) (last_entry s level is g last.0)
          ];
      asking = λ q m. g.asking q (Contains-later r rest q m);
    }

    pub ready_next : (brings : List (List ℕ)) (busy : ℕ) → AreReady t brings pending left waits busy → AreReady t brings pending after now busy
    ready_next brings busy g = record {
      ready = λ q h none.
          elim (cases_eq q r) [
            | inl same ↦
                let zero_here : get_or left r 0 - 1 ≡ 0 = sym here ∙ (ap (λ k. get_or after k 0) (sym same) ∙ none) in
                let one : get_or left r 0 ≡ 1 = let k = needs_still in omega (arith, k, zero_here) in
                inl (cost, subst (λ k. now (ready cost k)) (sym same) (told.last one))
            | inr apart ↦
                elim (g.ready q h (sym (elsewhere q h apart) ∙ none)) [
                  | inl waiting ↦ inl (waiting.0, told.kept (ready waiting.0 q) waiting.1)
                  | inr other ↦ inr other
                ]
          ];
    }

-- ---- a place is closed

module _ (t : Task) (askers : List (List ℕ)) (counts : List ℕ) (transposed : IsTransposed t askers counts) (pending : List Bool) (left : List ℕ) (p : ℕ) (f : IsLeftCounted t pending left []) (own : p < places (length t.atoms)) (was : is_open pending p ≡ true) where
  within : p < length pending
  within = let e = f.width in omega (arith, own, e)

  asker_known : (q : ℕ) → Contains (row askers p) q → q ≤ length t.actions
  asker_known q m =
      let some = times_positive q (row askers p) m in
      let e = transposed.each p q own in
      elim (cases_lt (length t.actions) q) [
        | inl beyond ↦
            let none : times q (row askers p) ≡ 0 = e ∙ cond-false (nat_le q (length t.actions)) (times p (needs t q)) 0 (lt-leb q (length t.actions) beyond) in
            absurd (omega (arith, some, none))
        | inr known ↦ known
      ]

  as_often : (q : ℕ) → q ≤ length t.actions → times q (row askers p) ≡ times p (needs t q)
  as_often q h = transposed.each p q own ∙ cond-true (nat_le q (length t.actions)) (times p (needs t q)) 0 (le-leb q (length t.actions) h)

  pub counted_begin : IsLeftCounted t (set pending p false) left (row askers p)
  counted_begin = record {
    width = length-set pending p false ∙ f.width;
    rules = f.rules;
    counted = λ q h.
        let e = f.counted q h in
        let k = open_in-closing pending p within was (needs t q) in
        let l = as_often q h in
        let z = times-nil q in
        omega (arith, e, k, l, z);
    known = asker_known;
  }

  pub fair_begin : (s : State) (waits : Ready → Type 0) (level : ℕ) → final_value t s p ≡ Some level → IsAtLevel t s pending waits level [] → IsAtLevel t s (set pending p false) waits level (row askers p)
  fair_begin s waits level is g = record {
    closed = λ q h e.
        elim (cases_eq q p) [
          | inl same ↦ (level, ap (final_value t s) same ∙ is, omega arith)
          | inr apart ↦ g.closed q h (sym (closed_elsewhere pending p q within apart) ∙ e)
        ];
    queued = g.queued;
    asking = λ q m.
        let some = times_positive q (row askers p) m in
        let l = as_often q (asker_known q m) in
        (p, times_member p (needs t q) (omega (arith, some, l)), is);
  }

  pub ready_begin : (brings : List (List ℕ)) (waits : Ready → Type 0) (busy : ℕ) → AreReady t brings pending left waits busy → AreReady t brings (set pending p false) left waits busy
  ready_begin brings waits busy g = record {
    ready = λ q h none.
        elim (g.ready q h none) [
          | inl waiting ↦ inl waiting
          | inr (inl same) ↦ inr (inl same)
          | inr (inr taken) ↦ inr (inr (record { action = taken.action; brought = λ k m. stays_closed pending p within k (taken.brought k m) }))
        ];
  }
