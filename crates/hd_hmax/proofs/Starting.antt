-- Where the computation begins: all places are open; then what is true in a state is closed at no
-- cost.
use Rattle.std.proofs.Common.{◌≡◌, ℕ, ◌+◌, ◌*◌, ◌<◌, ◌≤◌, ◌^◌, Bool, true, false, cond, not, List, [], ◌∷◌, ◌++◌, map, length, take, replicate, get_or, slice_get, Some, None, Contains, inl, inr, sym, ap, ◌∙◌, subst, arith, length-append}
use Rattle.std.specs.List.{All}
use Rattle.std.proofs.lemmas.Bool.{true≢false, cases_lt, le-leb, not-true}
use Rattle.std.proofs.lemmas.List.{get_or_past, get_or-replicate, length-map, length-replicate, take_more}
use Rattle.std.proofs.lemmas.List.Elements.{All-contains, Contains-append_left, Contains-append_cases}
use Rattle.hd_base.proofs.Members.{Contains-map, Contains-nil, Contains-cons_cases}
use Rattle.hd_task.specs.declared.state.State.{State}
use Rattle.hd_task.specs.declared.condition.Literal.{Literal}
use Rattle.hd_task.specs.declared.action.Action.{Action}
use Rattle.hd_task.specs.declared.task.Task.{Task}
use Rattle.hd_task.specs.Conditions.{has_atom, literal_holds}
use Rattle.hd_task.specs.Plans.{IsStateOf}
use Rattle.hd_hmax.specs.Costs.{up_to}
use Rattle.hd_hmax.specs.Prices.{price}
use Rattle.hd_hmax.specs.Queue.{Ready, IsEmpty}
use Rattle.hd_hmax.specs.Rounds.{cost_in, first_cost, table_after}
use Rattle.hd_task.specs.Conditions.{literal}
use Rattle.hd_hmax.specs.Rules.{places, place_at, place, asked_by, asked_of, asked, needs, row, IsTransposed}
use Rattle.hd_hmax.specs.Working.{final_value, is_open, IsLeftCounted, IsAtLevel, IsTaken, AreReady, StayClosed}
use Rattle.hd_hmax.proofs.Infinite.{value_up_to}
use Rattle.hd_hmax.proofs.Tables.{cost_in-own, foreign_after, affords, affords-from_start}
use Rattle.hd_hmax.proofs.Places.{literal_at-place_at, needs-below}
use Rattle.hd_hmax.proofs.Counting.{times-nil, all_open}

-- ---- all places are open

some_asked : (n : ℕ) (ls : List Literal) → 0 < length (asked_of n ls)
some_asked n [] = omega arith
some_asked n (l ∷ ls) = omega arith

some_needs : (t : Task) (q : ℕ) → 0 < length (needs t q)
unfolding needs
some_needs t q = let k = some_asked (length t.atoms) (asked_by t (slice_get t.actions q)) in let e = length-map (asked t q) (place (length t.atoms)) in omega (arith, k, e)

module _ (t : Task) (askers : List (List ℕ)) (counts : List ℕ) (f : IsTransposed t askers counts) where
  pub first_counted : IsLeftCounted t (replicate (places (length t.atoms)) true) counts []
  first_counted = record {
    width = length-replicate (places (length t.atoms)) true;
    rules = f.rules;
    counted = λ q h.
        let e = f.counted q h in
        let k = all_open (places (length t.atoms)) (needs t q) (needs-below t q) in
        let z = times-nil q in
        omega (arith, e, k, z);
    known = λ q m. absurd (Contains-nil q m);
  }

  pub first_ready : (brings : List (List ℕ)) (pending : List Bool) (waits : Ready → Type 0) (busy : ℕ) → AreReady t brings pending counts waits busy
  first_ready brings pending waits busy = record {
    ready = λ q h none. let e = f.counted q h in let k = some_needs t q in absurd (omega (arith, none, e, k));
  }

pub first_fair : (t : Task) (s : State) (waits : Ready → Type 0) → IsEmpty waits → IsAtLevel t s (replicate (places (length t.atoms)) true) waits 0 []
first_fair t s waits empty = record {
  closed = λ p h e. absurd (true≢false (sym (get_or-replicate (places (length t.atoms)) p true false h) ∙ e));
  queued = λ x w. absurd (empty x w);
  asking = λ q m. absurd (Contains-nil q m);
}

-- ---- what is true

pub none_lacking : (t : Task) (s : State) → IsStateOf t s → has_atom s (length t.atoms) ≡ false
none_lacking t s of = get_or_past s.atoms (length t.atoms) false (let same = of.atoms in omega (arith, same))

own_free : (t : Task) (s : State) (l : Literal) → l.atom < length t.atoms → literal_holds s l ≡ true → cost_in (table_after t s (2 * length t.atoms)) l ≡ Some 0
own_free t s l own e =
    let first : affords t s 0 0 l ≡ true = ap (up_to 0) (cost_in-own (length t.atoms) (first_cost s) l own ∙ ap (λ b. cond b (Some 0) None) e) ∙ le-leb 0 0 (omega arith) in
    let v = value_up_to 0 (cost_in (table_after t s (2 * length t.atoms)) l) (affords-from_start t s (2 * length t.atoms) 0 l first) in
    let low = v.2 in
    let none : v.0 ≡ 0 = omega (arith, low) in
    v.1 ∙ ap Some none

free_there : (t : Task) (s : State) (b : Bool) (i : ℕ) → IsStateOf t s → i ≤ length t.atoms → literal_holds s (literal b i) ≡ true → cost_in (table_after t s (2 * length t.atoms)) (literal b i) ≡ Some 0
free_there t s true i of h e =
    elim (cases_lt i (length t.atoms)) [
      | inl own ↦ own_free t s (literal true i) own e
      | inr past ↦
          let same : i ≡ length t.atoms = omega (arith, h, past) in
          absurd (true≢false (sym e ∙ (ap (has_atom s) same ∙ none_lacking t s of)))
    ]
free_there t s false i of h e =
    elim (cases_lt i (length t.atoms)) [
      | inl own ↦ own_free t s (literal false i) own e
      | inr past ↦ foreign_after t s (2 * length t.atoms) (literal false i) past
    ]

-- what is true costs nothing
pub true_is_free : (t : Task) (s : State) (b : Bool) (i : ℕ) → IsStateOf t s → i ≤ length t.atoms → literal_holds s (literal b i) ≡ true → final_value t s (place_at (length t.atoms) b i) ≡ Some 0
true_is_free t s b i of h e = ap (cost_in (table_after t s (2 * length t.atoms))) (literal_at-place_at (length t.atoms) b i h) ∙ free_there t s b i of h e

pub holds_here : (s : State) (b : Bool) (i : ℕ) → b ≡ has_atom s i → literal_holds s (literal b i) ≡ true
holds_here s true i e = sym e
holds_here s false i e = ap not (sym e)

only_here : (s : State) (b c : Bool) (i : ℕ) → c ≡ has_atom s i → literal_holds s (literal b i) ≡ true → b ≡ c
only_here s true c i e h = sym (e ∙ h)
only_here s false c i e h = sym (e ∙ not-true (has_atom s i) h)

-- one atom more was gone through
pub started_next : (s : State) (n : ℕ) (before now : List Bool) (i : ℕ) (c : Bool) → c ≡ has_atom s i → StayClosed before now → is_open now (place_at n c i) ≡ false
    → ((b : Bool) (k : ℕ) → k < i → literal_holds s (literal b k) ≡ true → is_open before (place_at n b k) ≡ false)
    → (b : Bool) (k : ℕ) → k < i + 1 → literal_holds s (literal b k) ≡ true → is_open now (place_at n b k) ≡ false
started_next s n before now i c is stay here so_far b k h e =
    elim (cases_lt k i) [
      | inl old ↦ stay (place_at n b k) (so_far b k old e)
      | inr new ↦
          let same : k ≡ i = omega (arith, h, new) in
          let sign = only_here s b c i is (ap (λ j. literal_holds s (literal b j)) (sym same) ∙ e) in
          ap (λ j. is_open now (place_at n b j)) same ∙ (ap (λ d. is_open now (place_at n d i)) sign ∙ here)
    ]

-- ---- an action is taken

pub closed_next : (row : List ℕ) (i : ℕ) (before now : List Bool) → i < length row → StayClosed before now → is_open now (get_or row i 0) ≡ false
    → ((p : ℕ) → Contains (take i row) p → is_open before p ≡ false) → (p : ℕ) → Contains (take (i + 1) row) p → is_open now p ≡ false
closed_next row i before now h stay here so_far p m =
    elim (Contains-append_cases (take i row) (get_or row i 0 ∷ []) p (subst (λ xs. Contains xs p) (take_more row i 0 h) m)) [
      | inl old ↦ stay p (so_far p old)
      | inr new ↦
          elim (Contains-cons_cases (get_or row i 0) [] p new) [
            | inl same ↦ ap (is_open now) (sym same) ∙ here
            | inr none ↦ absurd (Contains-nil p none)
          ]
    ]

pub taken_now : (t : Task) (brings : List (List ℕ)) (pending : List Bool) (left : List ℕ) (waits : Ready → Type 0) (action : ℕ) → action < length t.actions → ((p : ℕ) → Contains (row brings action) p → is_open pending p ≡ false)
    → AreReady t brings pending left waits action → AreReady t brings pending left waits (length t.actions + 1)
taken_now t brings pending left waits action h closed g = record {
  ready = λ q k none.
      elim (g.ready q k none) [
        | inl waiting ↦ inl waiting
        | inr (inl same) ↦ inr (inr (subst (IsTaken t brings pending) (sym same) (record { action = h; brought = closed })))
        | inr (inr taken) ↦ inr (inr taken)
      ];
}

-- ---- prices

pub cheap_rules : (t : Task) (prices : List ℕ) → prices ≡ map (price t) t.actions ++ 0 ∷ [] → All (λ p. p ≤ 2 ^ 95) prices → (a : Action) → Contains t.actions a → price t a ≤ 2 ^ 95
cheap_rules t prices are small a among =
    All-contains (λ p. p ≤ 2 ^ 95) prices (price t a) small
    (subst (λ ps. Contains ps (price t a)) (sym are) (Contains-append_left (map (price t) t.actions) (0 ∷ []) (price t a) (Contains-map (price t) t.actions a among)))

pub length-prices : (t : Task) (prices : List ℕ) → prices ≡ map (price t) t.actions ++ 0 ∷ [] → length prices ≡ length t.actions + 1
length-prices t prices are =
    let a = ap length are in
    let b = length-append (map (price t) t.actions) (0 ∷ []) in
    let d = length-map t.actions (price t) in
    omega (arith, a, b, d)
