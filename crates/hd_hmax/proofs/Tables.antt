-- What the tables say of literals, from round to round: what a literal or an action costs falls,
-- where it changes.
use Rattle.std.proofs.Common.{◌≡◌, ℕ, zero, suc, ◌-◌, ◌<◌, ◌≤◌, nat_le, Bool, true, false, cond, ◌&&◌, ◌||◌, List, map, length, get_or, Option, Some, None, Contains, inl, inr, sym, ap, ◌∙◌, arith}
use Rattle.std.specs.List.{list_all, list_any}
use Rattle.std.proofs.lemmas.Bool.{le-leb, leb-true, cases_lt, and_parts, and_from, or_left, or_right, or_cases, both_ways}
use Rattle.std.proofs.lemmas.List.{get_or_past}
use Rattle.std.proofs.lemmas.List.FromFn.{length-map-range_with_len, get_or-map-range_with_len}
use Rattle.hd_base.proofs.Tests.{list_any-from_contains}
use Rattle.hd_task.specs.declared.state.State.{State}
use Rattle.hd_task.specs.declared.condition.Literal.{Literal}
use Rattle.hd_task.specs.declared.action.Action.{Action}
use Rattle.hd_task.specs.declared.task.Task.{Task}
use Rattle.hd_task.specs.Effects.{numbers_below}
use Rattle.hd_hmax.specs.Costs.{up_to}
use Rattle.hd_hmax.specs.Prices.{price}
use Rattle.hd_hmax.specs.Rounds.{Table, cost_in, table_by, dearest, brings_about, cost_by, lowered, first_cost, table_after}
use Rattle.hd_task.specs.Conditions.{literal}
use Rattle.hd_hmax.proofs.Infinite.{up_to-plus, up_to-all, up_to-any}
use Rattle.hd_hmax.proofs.Counts.{passing_member}

-- ---- a table made by a function

pub cost_in-own : (n : ℕ) (f : Literal → Option ℕ) (l : Literal) → l.atom < n → cost_in (table_by n f) l ≡ f l
cost_in-own n f l h =
    elim l.positive as (λ b. cond b (get_or (map (λ i. f (literal true i)) (numbers_below n)) l.atom None) (get_or (map (λ i. f (literal false i)) (numbers_below n)) l.atom (Some 0)) ≡ f (literal b l.atom)) [
      | true ↦ get_or-map-range_with_len (λ i. f (literal true i)) 0 n l.atom l.atom None h (omega arith)
      | false ↦ get_or-map-range_with_len (λ i. f (literal false i)) 0 n l.atom l.atom (Some 0) h (omega arith)
    ]

-- what a literal costs of whose atom the task has none
abbrev pub foreign_cost : Bool → Option ℕ
foreign_cost true = None
foreign_cost false = Some 0

pub cost_in-foreign : (n : ℕ) (f : Literal → Option ℕ) (l : Literal) → n ≤ l.atom → cost_in (table_by n f) l ≡ foreign_cost l.positive
cost_in-foreign n f l h =
    elim l.positive as (λ b. cond b (get_or (map (λ i. f (literal true i)) (numbers_below n)) l.atom None) (get_or (map (λ i. f (literal false i)) (numbers_below n)) l.atom (Some 0)) ≡ foreign_cost b) [
      | true ↦ get_or_past (map (λ i. f (literal true i)) (numbers_below n)) l.atom None (omega (arith, h, length-map-range_with_len (λ i. f (literal true i)) 0 n))
      | false ↦ get_or_past (map (λ i. f (literal false i)) (numbers_below n)) l.atom (Some 0) (omega (arith, h, length-map-range_with_len (λ i. f (literal false i)) 0 n))
    ]

-- ---- what literals and actions cost at most

-- literals together cost at most c where each does
pub up_to-dearest : (c : ℕ) (table : Table) (ls : List Literal) → up_to c (dearest table ls) ≡ list_all (λ l. up_to c (cost_in table l)) ls
unfolding dearest
up_to-dearest c table ls =
    up_to-all c (cost_in table) (Some 0) ls
    ∙ ap (λ b. b && list_all (λ l. up_to c (cost_in table l)) ls) (le-leb 0 c (omega arith))

module _ (t : Task) (s : State) where
  -- a literal costs at most c after k rounds
  abbrev pub affords : ℕ → ℕ → Literal → Bool
  affords k c l = up_to c (cost_in (table_after t s k) l)

  -- an action costs at most c after k rounds
  pub up_to-cost_by : (k c : ℕ) (a : Action) → up_to c (cost_by t (table_after t s k) a) ≡ (nat_le (price t a) c && list_all (affords k (c - price t a)) a.condition.literals)
  unfolding cost_by
  up_to-cost_by k c a =
      up_to-plus c (price t a) (dearest (table_after t s k) a.condition.literals)
      ∙ ap (λ b. nat_le (price t a) c && b) (up_to-dearest (c - price t a) (table_after t s k) a.condition.literals)

  -- an action that brings a literal about at a cost of at most c
  pub record IsBroughtAbout (k c : ℕ) (l : Literal) : Type 0 where
    pub action : Action
    pub among : Contains t.actions action
    pub brings : brings_about action l ≡ true
    pub cheap : price t action ≤ c
    pub needs : list_all (affords k (c - price t action)) action.condition.literals ≡ true

  affords-next : (k c : ℕ) (l : Literal) → l.atom < length t.atoms
      → affords (suc k) c l ≡ (affords k c l || list_any (λ a. brings_about a l && up_to c (cost_by t (table_after t s k) a)) t.actions)
  unfolding lowered
  affords-next k c l own =
      ap (up_to c) (cost_in-own (length t.atoms) (lowered t (table_after t s k)) l own)
      ∙ up_to-any c (λ a. brings_about a l) (cost_by t (table_after t s k)) (cost_in (table_after t s k) l) t.actions

  pub affords-by : (k c : ℕ) (l : Literal) → l.atom < length t.atoms → IsBroughtAbout k c l → affords (suc k) c l ≡ true
  affords-by k c l own by =
      let cheap : up_to c (cost_by t (table_after t s k) by.action) ≡ true =
      up_to-cost_by k c by.action
      ∙ and_from (nat_le (price t by.action) c) (list_all (affords k (c - price t by.action)) by.action.condition.literals) (le-leb (price t by.action) c by.cheap) by.needs
      in
      affords-next k c l own
      ∙ or_right (affords k c l) (list_any (λ a. brings_about a l && up_to c (cost_by t (table_after t s k) a)) t.actions)
      (list_any-from_contains (λ a. brings_about a l && up_to c (cost_by t (table_after t s k) a)) t.actions by.action by.among
      (and_from (brings_about by.action l) (up_to c (cost_by t (table_after t s k) by.action)) by.brings cheap))

  pub foreign_after : (k : ℕ) (l : Literal) → length t.atoms ≤ l.atom → cost_in (table_after t s k) l ≡ foreign_cost l.positive
  foreign_after zero l h = cost_in-foreign (length t.atoms) (first_cost s) l h
  foreign_after (suc k) l h = cost_in-foreign (length t.atoms) (lowered t (table_after t s k)) l h

  -- the negation of an atom that the task lacks costs nothing
  pub affords-foreign : (k c : ℕ) (i : ℕ) → length t.atoms ≤ i → affords k c (literal false i) ≡ true
  affords-foreign k c i h = ap (up_to c) (foreign_after k (literal false i) h) ∙ le-leb 0 c (omega arith)

  -- costs only fall
  pub affords-later : (k c : ℕ) (l : Literal) → affords k c l ≡ true → affords (suc k) c l ≡ true
  affords-later k c l e =
      elim (cases_lt l.atom (length t.atoms)) [
        | inl own ↦ affords-next k c l own ∙ or_left (affords k c l) (list_any (λ a. brings_about a l && up_to c (cost_by t (table_after t s k) a)) t.actions) e
        | inr foreign ↦ ap (up_to c) (foreign_after (suc k) l foreign ∙ sym (foreign_after k l foreign)) ∙ e
      ]

  pub affords-from_start : (k c : ℕ) (l : Literal) → affords 0 c l ≡ true → affords k c l ≡ true
  affords-from_start zero c l e = e
  affords-from_start (suc k) c l e = affords-later k c l (affords-from_start k c l e)

  -- a cost that falls is of an atom of the task
  pub own_if_new : (k c : ℕ) (l : Literal) → affords (suc k) c l ≡ true → affords k c l ≡ false → l.atom < length t.atoms
  own_if_new k c l now before =
      elim (cases_lt l.atom (length t.atoms)) [
        | inl own ↦ own
        | inr foreign ↦
            let same : affords k c l ≡ true = ap (up_to c) (foreign_after k l foreign ∙ sym (foreign_after (suc k) l foreign)) ∙ now in
            absurd (both_ways (affords k c l) before same)
      ]

  -- and it falls by an action
  pub brought_about_if_new : (k c : ℕ) (l : Literal) → affords (suc k) c l ≡ true → affords k c l ≡ false → IsBroughtAbout k c l
  brought_about_if_new k c l now before =
      let own : l.atom < length t.atoms = own_if_new k c l now before in
      let either : (affords k c l || list_any (λ a. brings_about a l && up_to c (cost_by t (table_after t s k) a)) t.actions) ≡ true =
      sym (affords-next k c l own) ∙ now
      in
      elim (or_cases (affords k c l) (list_any (λ a. brings_about a l && up_to c (cost_by t (table_after t s k) a)) t.actions) either) [
        | inl known ↦ absurd (both_ways (affords k c l) before known)
        | inr some ↦
            let by = passing_member (λ a. brings_about a l && up_to c (cost_by t (table_after t s k) a)) t.actions some in
            let two = and_parts (brings_about by.member l) (up_to c (cost_by t (table_after t s k) by.member)) by.is in
            let parts = and_parts (nat_le (price t by.member) c) (list_all (affords k (c - price t by.member)) by.member.condition.literals) (sym (up_to-cost_by k c by.member) ∙ two.1) in
            record {
              action = by.member;
              among = by.among;
              brings = two.0;
              cheap = leb-true (price t by.member) c parts.0;
              needs = parts.1;
            }
      ]
