-- The cheapest rule that waits is taken: what it brings about costs as much as it does, and where
-- it is the goal, or nothing waits, the estimate is known.
use Rattle.std.proofs.Common.{◌≡◌, ℕ, zero, suc, ◌+◌, ◌*◌, ◌-◌, ◌<◌, ◌≤◌, ◌^◌, nat_le, Bool, true, false, cond, not, List, [], ◌∷◌, map, length, get_or, slice_get, Option, Some, None, Contains, inl, inr, refl, sym, ap, ◌∙◌, subst, arith}
use Rattle.std.specs.List.{list_all}
use Rattle.std.proofs.lemmas.Bool.{true≢false, cases_lt, cases_Bool, le-leb, leb-true, and_parts, and_from, both_ways}
use Rattle.std.proofs.lemmas.List.{get_or_past}
use Rattle.std.proofs.lemmas.Option.{none-some, same_Some, slice_get-get_or, slice_get_past, slice_get_within, get_or_from_slice_get}
use Rattle.hd_base.proofs.Members.{Contains-map, Contains-nil, IsFrom-from_map}
use Rattle.hd_base.proofs.Tests.{list_all-from_each}
use Rattle.hd_task.specs.declared.state.State.{State}
use Rattle.hd_task.specs.declared.condition.Literal.{Literal}
use Rattle.hd_task.specs.declared.action.Action.{Action}
use Rattle.hd_task.specs.declared.task.Task.{Task}
use Rattle.hd_task.specs.Conditions.{has_atom, literal_holds}
use Rattle.hd_task.specs.Plans.{IsStateOf}
use Rattle.hd_hmax.specs.Costs.{plus_price, up_to}
use Rattle.hd_hmax.specs.Prices.{price}
use Rattle.hd_hmax.specs.Queue.{Ready, ready, IsPopped, IsEmpty}
use Rattle.hd_hmax.specs.Rounds.{cost_in, dearest, brings_about, cost_by, first_cost, table_after, hmax}
use Rattle.hd_task.specs.Conditions.{literal}
use Rattle.hd_hmax.specs.Rules.{place, place_at, asked_by, asked_of, asked, needs, row}
use Rattle.hd_hmax.specs.Working.{final_value, price_by, rule_cost, is_open, open_in, IsLeftCounted, IsEntry, IsAtLevel, AreReady, HasStarted}
use Rattle.hd_hmax.proofs.Infinite.{value_up_to}
use Rattle.hd_hmax.proofs.Counts.{each_passes}
use Rattle.hd_hmax.proofs.Tables.{cost_in-own, foreign_after, affords, affords-foreign, affords-later, up_to-cost_by, up_to-dearest, own_if_new, brought_about_if_new}
use Rattle.hd_hmax.proofs.Falling.{closed}
use Rattle.hd_hmax.proofs.Places.{near_own, near_foreign, value_at-place, rule_cost-literals, rule_cost-action, rule_cost-goal}
use Rattle.hd_hmax.proofs.Sizes.{small_after, small_dearest}
use Rattle.hd_hmax.proofs.Counting.{times-nil, all_closed}

-- what an action brings about is among its places, if a rule needs it; and they are of what it
-- brings about
pub record BringRight (t : Task) (brings : List (List ℕ)) : Type 0 where
  pub all : (q : ℕ) (a : Action) (l : Literal) → slice_get t.actions q ≡ Some a → l.atom < length t.atoms → brings_about a l ≡ true
      → (r : ℕ) → r ≤ length t.actions → Contains (needs t r) (place (length t.atoms) l) → Contains (row brings q) (place (length t.atoms) l)
  pub only : (q : ℕ) (a : Action) (p : ℕ) → slice_get t.actions q ≡ Some a → Contains (row brings q) p → (l : Literal) × (p ≡ place (length t.atoms) l) × (l.atom < length t.atoms) × (brings_about a l ≡ true) × ((r : ℕ) × (r ≤ length t.actions) × Contains (needs t r) p)

-- so many more
abbrev climb : ℕ → ℕ → ℕ
climb zero k = k
climb (suc j) k = suc (climb j k)

climb_is : (j k : ℕ) → climb j k ≡ j + k
climb_is zero k = omega arith
climb_is (suc j) k = let e = climb_is j k in omega (arith, e)

-- what waits is there with what it costs
pub entries_from : (t : Task) (s : State) (pending : List Bool) (waits : Ready → Type 0) (level : ℕ) → IsAtLevel t s pending waits level [] → (x : Ready) → waits x → IsEntry t s 0 x
entries_from t s pending waits level g x w = let k = g.queued x w in record { known = k.known; cost = k.cost; above = omega arith }

pub free_literal : (b : Bool) (c : ℕ) → up_to c (cond b (Some 0) None) ≡ true → b ≡ true
free_literal true c e = refl
free_literal false c e = absurd (true≢false (sym e))

pub none_finite : (o : Option ℕ) → ((c : ℕ) → o ≡ Some c → ⊥) → o ≡ None
none_finite None h = refl
none_finite (Some c) h = absurd (h c refl)

pub slice_get_there : {X : Type 0} (xs : List X) (i : ℕ) → i < length xs → (x : X) × (slice_get xs i ≡ Some x)
slice_get_there [] i h = absurd (omega (arith, h))
slice_get_there (x ∷ xs) zero h = (x, refl)
slice_get_there (x ∷ xs) (suc i) h = slice_get_there xs i (omega (arith, h))

pub goal_afforded : (t : Task) (s : State) (v : ℕ) → hmax t s ≡ Some v → list_all (affords t s (2 * length t.atoms) v) t.goal.literals ≡ true
unfolding hmax
goal_afforded t s v e = sym (up_to-dearest v (table_after t s (2 * length t.atoms)) t.goal.literals) ∙ (ap (up_to v) e ∙ le-leb v v (omega arith))

-- ---- sizes

plus_finite : (p : ℕ) (o : Option ℕ) (c : ℕ) → plus_price p o ≡ Some c → (v : ℕ) × (o ≡ Some v) × (p + v ≡ c)
plus_finite p None c e = absurd (none-some c e)
plus_finite p (Some v) c e = (v, refl, same_Some (p + v) c e)

small_price : (t : Task) (q : ℕ) (o : Option Action) → slice_get t.actions q ≡ o → ((a : Action) → Contains t.actions a → price t a ≤ 2 ^ 95) → price_by t o ≤ 2 ^ 95
small_price t q None is cheap = omega arith
small_price t q (Some a) is cheap = cheap a (q, slice_get_within t.actions q a is, get_or_from_slice_get t.actions q a a is)

-- what a rule costs fits 128 bits
small_rule : (t : Task) (s : State) (q c : ℕ) → ((a : Action) → Contains t.actions a → price t a ≤ 2 ^ 95) → length t.atoms ≤ 2 ^ 20 → rule_cost t s q ≡ Some c → c ≤ 2 ^ 120
small_rule t s q c cheap few e =
    let o = slice_get t.actions q in
    let k = plus_finite (price_by t o) (dearest (table_after t s (2 * length t.atoms)) (asked_by t o)) c (sym (rule_cost-literals t s q) ∙ e) in
    let low = small_price t q o refl cheap in
    let most = small_dearest (2 * length t.atoms * 2 ^ 95) (table_after t s (2 * length t.atoms)) (asked_by t o) k.0 (small_after t s (2 ^ 95) cheap (2 * length t.atoms)) k.1 in
    let sum = k.2 in
    omega (arith, low, most, sum, few)

module _ (t : Task) (s : State) where
  affords_up : (j k c : ℕ) (l : Literal) → affords t s k c l ≡ true → affords t s (climb j k) c l ≡ true
  affords_up zero k c l e = e
  affords_up (suc j) k c l e = affords-later t s (climb j k) c l (affords_up j k c l e)

  affords_last : (k c : ℕ) (l : Literal) → k ≤ 2 * length t.atoms → affords t s k c l ≡ true → affords t s (2 * length t.atoms) c l ≡ true
  affords_last k c l h e =
      let sum = climb_is (2 * length t.atoms - k) k in
      let same : climb (2 * length t.atoms - k) k ≡ 2 * length t.atoms = omega (arith, h, sum) in
      subst (λ n. affords t s n c l ≡ true) same (affords_up (2 * length t.atoms - k) k c l e)

  -- ---- what rules cost

  -- a rule of an action costs at most c where its price and its literals do
  rule_up_to : (k c q : ℕ) (a : Action) → k ≤ 2 * length t.atoms → slice_get t.actions q ≡ Some a → price t a ≤ c → list_all (affords t s k (c - price t a)) a.condition.literals ≡ true → up_to c (rule_cost t s q) ≡ true
  rule_up_to k c q a h is cheap each =
      ap (up_to c) (rule_cost-action t s q a is)
      ∙ (up_to-cost_by t s (2 * length t.atoms) c a
      ∙ and_from (nat_le (price t a) c) (list_all (affords t s (2 * length t.atoms) (c - price t a)) a.condition.literals) (le-leb (price t a) c cheap)
      (list_all-from_each (affords t s (2 * length t.atoms) (c - price t a)) a.condition.literals
      (λ l m. affords_last k (c - price t a) l h (each_passes (affords t s k (c - price t a)) a.condition.literals l each m))))

  -- what an action brings about costs no more than its rule
  pub brought_up_to : (c q : ℕ) (a : Action) (l : Literal) → slice_get t.actions q ≡ Some a → rule_cost t s q ≡ Some c → l.atom < length t.atoms → brings_about a l ≡ true → affords t s (2 * length t.atoms) c l ≡ true
  brought_up_to c q a l is costs own brings =
      let within : up_to c (cost_by t (table_after t s (2 * length t.atoms)) a) ≡ true = ap (up_to c) (sym (rule_cost-action t s q a is) ∙ costs) ∙ le-leb c c (omega arith) in
      let parts = and_parts (nat_le (price t a) c) (list_all (affords t s (2 * length t.atoms) (c - price t a)) a.condition.literals) (sym (up_to-cost_by t s (2 * length t.atoms) c a) ∙ within) in
      closed t s c l own
      (record {
        action = a;
        among = (q, slice_get_within t.actions q a is, get_or_from_slice_get t.actions q a a is);
        brings = brings;
        cheap = leb-true (price t a) c parts.0;
        needs = parts.1;
      })

  -- a rule that asks for nothing asks for what costs nothing
  pub asked_afforded : (k c : ℕ) (ls : List Literal) → list_all (affords t s k c) ls ≡ true → list_all (affords t s k c) (asked_of (length t.atoms) ls) ≡ true
  asked_afforded k c [] e = and_from (affords t s k c (literal false (length t.atoms))) true (affords-foreign t s k c (length t.atoms) (omega arith)) refl
  asked_afforded k c (l ∷ ls) e = e

  -- ---- while places are closed

  module _ (of : IsStateOf t s) (brings : List (List ℕ)) (right : BringRight t brings) (pending : List Bool) (left : List ℕ) (waits : Ready → Type 0) (f : IsLeftCounted t pending left [])
      (all_ready : AreReady t brings pending left waits (length t.actions + 1)) (queued : (x : Ready) → waits x → IsEntry t s 0 x) (started : HasStarted t s pending) where
    abbrev IsClosed : Literal → Type 0
    IsClosed l = is_open pending (place (length t.atoms) l) ≡ false

    true_closed : (b : Bool) (i : ℕ) → i < length t.atoms → literal_holds s (literal b i) ≡ true → IsClosed (literal b i)
    true_closed b i own e = ap (λ j. is_open pending (place_at (length t.atoms) b j)) (near_own (length t.atoms) i own) ∙ started b i (omega (arith, own)) e

    lacking_false : has_atom s (length t.atoms) ≡ false
    lacking_false = get_or_past s.atoms (length t.atoms) false (let same = of.atoms in omega (arith, same))

    foreign_closed : (b : Bool) (i k c : ℕ) → length t.atoms ≤ i → affords t s k c (literal b i) ≡ true → IsClosed (literal b i)
    foreign_closed true i k c foreign e = absurd (true≢false (sym (sym (ap (up_to c) (foreign_after t s k (literal true i) foreign)) ∙ e)))
    foreign_closed false i k c foreign e =
        ap (λ j. is_open pending (place_at (length t.atoms) false j)) (near_foreign (length t.atoms) i foreign)
        ∙ started false (length t.atoms) (omega arith) (ap not lacking_false)

    -- a rule whose literals are closed waits or was taken
    rule_ready : (q : ℕ) → q ≤ length t.actions → ((l : Literal) → Contains (asked t q) l → IsClosed l) → get_or left q 0 ≡ 0
    unfolding needs
    rule_ready q h each =
        let e = f.counted q h in
        let z = times-nil q in
        let none : open_in pending (map (place (length t.atoms)) (asked t q)) ≡ 0 =
        all_closed pending (map (place (length t.atoms)) (asked t q))
        (λ p m. let from = IsFrom-from_map (place (length t.atoms)) (asked t q) p m in ap (is_open pending) (sym from.is) ∙ each from.source from.among)
        in
        omega (arith, e, z, none)

    needed : (q : ℕ) (l : Literal) → Contains (asked t q) l → Contains (needs t q) (place (length t.atoms) l)
    unfolding needs
    needed q l m = Contains-map (place (length t.atoms)) (asked t q) l m

    -- each literal that a rule needs and that costs less than all that waits is closed
    cheap_closed : (k c : ℕ) (l : Literal) (r : ℕ) → k ≤ 2 * length t.atoms → r ≤ length t.actions → Contains (needs t r) (place (length t.atoms) l) → ((x : Ready) → waits x → c < x.0.0)
        → affords t s k c l ≡ true → IsClosed l
    cheap_closed zero c l r h known need less e =
        elim (cases_lt l.atom (length t.atoms)) [
          | inl own ↦
              true_closed l.positive l.atom own
              (free_literal (literal_holds s l) c (sym (ap (up_to c) (cost_in-own (length t.atoms) (first_cost s) l own)) ∙ e))
          | inr foreign ↦ foreign_closed l.positive l.atom 0 c foreign e
        ]
    cheap_closed (suc k) c l r h known need less e =
        elim (cases_Bool (affords t s k c l)) [
          | inl before ↦ cheap_closed k c l r (omega (arith, h)) known need less before
          | inr new ↦
              let by = brought_about_if_new t s k c l e new in
              let own = own_if_new t s k c l e new in
              let q = by.among.0 in
              let inside : q < length t.actions = by.among.1 in
              let is : slice_get t.actions q ≡ Some by.action = slice_get-get_or t.actions q by.action by.among.1 ∙ ap Some by.among.2 in
              let rest = c - price t by.action in
              let asks : asked t q ≡ asked_of (length t.atoms) by.action.condition.literals = ap (λ o. asked_of (length t.atoms) (asked_by t o)) is in
              let each : (p : Literal) → Contains (asked t q) p → IsClosed p =
              λ p m.
              cheap_closed k rest p q (omega (arith, h)) (omega (arith, inside)) (needed q p m)
              (λ x w. let above = less x w in omega (arith, above))
              (each_passes (affords t s k rest) (asked_of (length t.atoms) by.action.condition.literals) p (asked_afforded k rest by.action.condition.literals by.needs) (subst (λ ls. Contains ls p) asks m))
              in
              elim (all_ready.ready q (omega (arith, inside)) (rule_ready q (omega (arith, inside)) each)) [
                | inl waiting ↦
                    let entry = queued (ready waiting.0 q) waiting.1 in
                    let up = sym (ap (up_to c) entry.cost) ∙ rule_up_to k c q by.action (omega (arith, h)) is by.cheap by.needs in
                    let above = less (ready waiting.0 q) waiting.1 in
                    let low = leb-true waiting.0 c up in
                    absurd (omega (arith, above, low))
                | inr (inl same) ↦ absurd (omega (arith, same, inside))
                | inr (inr taken) ↦ taken.brought (place (length t.atoms) l) (right.all q by.action l is own by.brings r known need)
              ]
        ]

    -- ---- the cheapest

    module _ (x : Ready) (now : Ready → Type 0) (popped : IsPopped waits x now) where
      entry : IsEntry t s 0 x
      entry = queued x popped.was

      least : (y : Ready) → waits y → x.0.0 ≤ y.0.0
      least y w =
          elim (popped.kept y w) [
            | inl later ↦ popped.least y later
            | inr same ↦ let e : y.0.0 ≡ x.0.0 = ap (λ (z : Ready). z.0.0) same in omega (arith, e)
          ]

      -- what it brings about and is open costs as much as it
      pub brings_at_level : (p : ℕ) → x.0.1 < length t.actions → Contains (row brings x.0.1) p → is_open pending p ≡ true → final_value t s p ≡ Some x.0.0
      brings_at_level p inside m still =
          let a = slice_get_there t.actions x.0.1 inside in
          let of = right.only x.0.1 a.0 p a.1 m in
          let up = brought_up_to x.0.0 x.0.1 a.0 of.0 a.1 entry.cost of.2 of.3 in
          let v = value_up_to x.0.0 (cost_in (table_after t s (2 * length t.atoms)) of.0) up in
          let low = v.2 in
          let same : v.0 ≡ x.0.0 =
          elim (cases_lt v.0 x.0.0) [
            | inl below ↦
                let shut = cheap_closed (2 * length t.atoms) v.0 of.0 of.4.0 (omega arith) of.4.1 (subst (Contains (needs t of.4.0)) of.1 of.4.2) (λ y w. let k = least y w in omega (arith, k, below))
                (ap (up_to v.0) v.1 ∙ le-leb v.0 v.0 (omega arith))
                in
                absurd (both_ways (is_open pending p) (ap (is_open pending) of.1 ∙ shut) still)
            | inr above ↦ omega (arith, above, low)
          ]
          in
          ap (final_value t s) of.1 ∙ (value_at-place t s of.0 ∙ (v.1 ∙ ap Some same))

      pub fair_popped : (level : ℕ) → IsAtLevel t s pending waits level [] → IsAtLevel t s pending now x.0.0 []
      fair_popped level g =
          let up = (g.queued x popped.was).above in
          record {
            closed = λ p h e. let v = g.closed p h e in let low = v.2 in (v.0, v.1, omega (arith, up, low));
            queued = λ y w. let k = g.queued y (popped.from y w) in record { known = k.known; cost = k.cost; above = popped.least y w };
            asking = λ q m. absurd (Contains-nil q m);
          }

      pub ready_popped : AreReady t brings pending left now x.0.1
      ready_popped = record {
        ready = λ q h none.
            elim (all_ready.ready q h none) [
              | inl waiting ↦
                  elim (popped.kept (ready waiting.0 q) waiting.1) [
                    | inl later ↦ inl (waiting.0, later)
                    | inr same ↦ inr (inl (ap (λ (z : Ready). z.0.1) same))
                  ]
              | inr (inl same) ↦ absurd (omega (arith, same, h))
              | inr (inr taken) ↦ inr (inr taken)
            ];
      }

      pub goal_reached : x.0.1 ≡ length t.actions → Some x.0.0 ≡ hmax t s
      goal_reached e = sym entry.cost ∙ (ap (rule_cost t s) e ∙ rule_cost-goal t s)

      pub known_popped : x.0.1 ≤ length t.actions
      known_popped = entry.known

      pub small_popped : ((a : Action) → Contains t.actions a → price t a ≤ 2 ^ 95) → length t.atoms ≤ 2 ^ 20 → x.0.0 ≤ 2 ^ 120
      small_popped cheap few = small_rule t s x.0.1 x.0.0 cheap few entry.cost

    -- ---- nothing waits

    pub nothing_waits : IsEmpty waits → None ≡ hmax t s
    nothing_waits empty =
        sym
        (none_finite (hmax t s)
        (λ v e.
        let each = goal_afforded t s v e in
        let asks : asked t (length t.actions) ≡ asked_of (length t.atoms) t.goal.literals = ap (λ o. asked_of (length t.atoms) (asked_by t o)) (slice_get_past t.actions (length t.actions) (omega arith)) in
        elim (all_ready.ready (length t.actions) (omega arith)
        (rule_ready (length t.actions) (omega arith)
        (λ l m.
        cheap_closed (2 * length t.atoms) v l (length t.actions) (omega arith) (omega arith) (needed (length t.actions) l m) (λ x w. absurd (empty x w))
        (each_passes (affords t s (2 * length t.atoms) v) (asked_of (length t.atoms) t.goal.literals) l (asked_afforded (2 * length t.atoms) v t.goal.literals each) (subst (λ ls. Contains ls l) asks m))))) [
          | inl waiting ↦ empty (ready waiting.0 (length t.actions)) waiting.1
          | inr (inl same) ↦ omega (arith, same)
          | inr (inr taken) ↦ let h = taken.action in omega (arith, h)
        ]))
