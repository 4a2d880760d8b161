-- The estimate is never above what a way to the goal costs.
--
-- Along the way each literal that is true costs, in the last table, at most what the way has cost
-- so far: at the start true literals cost nothing, and a step brings about only what its action
-- affords.
use Rattle.std.proofs.Common.{◌≡◌, ℕ, ◌+◌, ◌*◌, ◌-◌, ◌<◌, ◌≤◌, Bool, true, false, cond, not, ◌&&◌, List, [], ◌∷◌, length, slice_get, Option, Some, None, Contains, inl, inr, refl, sym, ap, ◌∙◌, subst, arith}
use Rattle.std.specs.List.{list_all}
use Rattle.std.proofs.lemmas.Bool.{cases_lt, le-leb, and_parts, and_from, and_cases, or_cases, or_parts, not-true, not-false, not_from_false, cond-true, both_ways}
use Rattle.std.proofs.lemmas.List.{get_or_past}
use Rattle.std.proofs.lemmas.List.FromFn.{length-map-range_with_len, get_or-map-range_with_len}
use Rattle.std.proofs.lemmas.Option.{none-some, same_Some, slice_get_within, get_or_from_slice_get}
use Rattle.hd_base.proofs.Tests.{list_all-from_each}
use Rattle.hd_task.specs.declared.state.State.{State}
use Rattle.hd_task.specs.declared.condition.Condition.{Condition}
use Rattle.hd_task.specs.declared.action.Action.{Action}
use Rattle.hd_task.specs.declared.task.Task.{Task}
use Rattle.hd_task.specs.Conditions.{has_atom, literal_holds, literals_hold, comparisons_hold, holds}
use Rattle.hd_task.specs.Effects.{names_atom, atom_after, atoms_after, state_after, step_cost}
use Rattle.hd_task.specs.Plans.{IsStateOf, Node, after_step, step, step_of, step_by, exec_from}
use Rattle.hd_task.specs.Covers.{IsAdmissible}
use Rattle.hd_task.proofs.Runs.{exec_from-none}
use Rattle.hd_hmax.specs.Costs.{up_to}
use Rattle.hd_hmax.specs.Prices.{price}
use Rattle.hd_hmax.specs.Rounds.{cost_in, brings_about, first_cost, table_after, hmax}
use Rattle.hd_task.specs.Conditions.{literal}
use Rattle.hd_hmax.proofs.Infinite.{up_to-more, value_up_to}
use Rattle.hd_hmax.proofs.Counts.{each_passes}
use Rattle.hd_hmax.proofs.Paying.{price-le}
use Rattle.hd_hmax.proofs.Tables.{cost_in-own, affords, up_to-dearest, affords-foreign, affords-from_start}
use Rattle.hd_hmax.proofs.Falling.{closed}

-- the literals of a condition that holds are true
literals_true : (s : State) (c : Condition) → holds s c ≡ true → list_all (literal_holds s) c.literals ≡ true
unfolding holds
literals_true s c e =
    let atoms = and_parts (literals_hold s c) (comparisons_hold s c) e in
    (and_parts (not c.never) (list_all (literal_holds s) c.literals) atoms.0).1

module _ (t : Task) (s : State) where
  abbrev last : ℕ
  last = 2 * length t.atoms

  -- each literal that is true costs at most d in the last table
  abbrev Covers : State → ℕ → Type 0
  Covers x d = (b : Bool) (i : ℕ) → literal_holds x (literal b i) ≡ true → affords t s last d (literal b i) ≡ true

  -- ---- at the start

  none_foreign : (i : ℕ) → IsStateOf t s → length t.atoms ≤ i → has_atom s i ≡ false
  none_foreign i of h = get_or_past s.atoms i false (let same = of.atoms in omega (arith, same, h))

  first : (b : Bool) (i : ℕ) → i < length t.atoms → literal_holds s (literal b i) ≡ true → affords t s last 0 (literal b i) ≡ true
  first b i own e =
      affords-from_start t s last 0 (literal b i)
      (ap (up_to 0) (cost_in-own (length t.atoms) (first_cost s) (literal b i) own ∙ cond-true (literal_holds s (literal b i)) (Some 0) None e) ∙ le-leb 0 0 (omega arith))

  at_start : IsStateOf t s → Covers s 0
  at_start of b i e =
      elim (cases_lt i (length t.atoms)) [
        | inl own ↦ first b i own e
        | inr foreign ↦
            elim b as (λ b. literal_holds s (literal b i) ≡ true → affords t s last 0 (literal b i) ≡ true) [
              | true ↦ λ e. absurd (both_ways (has_atom s i) (none_foreign i of foreign) e)
              | false ↦ λ e. affords-foreign t s last 0 i foreign
            ] e
      ]

  -- ---- a step

  module _ (x : State) (a : Action) (c d : ℕ) (among : Contains t.actions a) (met : holds x a.condition ≡ true) (cheap : price t a ≤ c) (covers : Covers x d) where
    -- what the action needs is true, and so is affordable
    needs : list_all (affords t s last (d + c - price t a)) a.condition.literals ≡ true
    needs =
        list_all-from_each (affords t s last (d + c - price t a)) a.condition.literals
        (λ l m.
        up_to-more d (d + c - price t a) (cost_in (table_after t s last) l) (omega arith)
        (covers l.positive l.atom (each_passes (literal_holds x) a.condition.literals l (literals_true x a.condition met) m)))

    brought : (b : Bool) (i : ℕ) → i < length t.atoms → brings_about a (literal b i) ≡ true → affords t s last (d + c) (literal b i) ≡ true
    brought b i own brings =
        closed t s (d + c) (literal b i) own (record { action = a; among = among; brings = brings; cheap = omega arith; needs = needs })

    kept : (b : Bool) (i : ℕ) → literal_holds x (literal b i) ≡ true → affords t s last (d + c) (literal b i) ≡ true
    kept b i e = up_to-more d (d + c) (cost_in (table_after t s last) (literal b i)) (omega arith) (covers b i e)

    atom_true : (i : ℕ) → i < length t.atoms → atom_after x a i ≡ true → affords t s last (d + c) (literal true i) ≡ true
    unfolding brings_about
    atom_true i own e =
        elim (or_cases (names_atom a.adds i) (has_atom x i && not (names_atom a.deletes i)) e) [
          | inl added ↦ brought true i own added
          | inr stayed ↦ kept true i (and_parts (has_atom x i) (not (names_atom a.deletes i)) stayed).0
        ]

    atom_false : (i : ℕ) → i < length t.atoms → atom_after x a i ≡ false → affords t s last (d + c) (literal false i) ≡ true
    unfolding brings_about
    atom_false i own e =
        let parts = or_parts (names_atom a.adds i) (has_atom x i && not (names_atom a.deletes i)) e in
        elim (and_cases (has_atom x i) (not (names_atom a.deletes i)) parts.1) [
          | inl was ↦ kept false i (not_from_false (has_atom x i) was)
          | inr deleted ↦
              brought false i own
              (and_from (names_atom a.deletes i) (not (names_atom a.adds i)) (not-false (names_atom a.deletes i) deleted) (not_from_false (names_atom a.adds i) parts.0))
        ]

    own_after : (i : ℕ) → i < length t.atoms → has_atom (state_after t x a) i ≡ atom_after x a i
    unfolding state_after
    own_after i own = get_or-map-range_with_len (atom_after x a) 0 (length t.atoms) i i false own (omega arith)

    foreign_after : (i : ℕ) → length t.atoms ≤ i → has_atom (state_after t x a) i ≡ false
    unfolding state_after
    foreign_after i h = get_or_past (atoms_after t x a) i false (omega (arith, h, length-map-range_with_len (atom_after x a) 0 (length t.atoms)))

    after_action : Covers (state_after t x a) (d + c)
    after_action true i e =
        elim (cases_lt i (length t.atoms)) [
          | inl own ↦ atom_true i own (sym (own_after i own) ∙ e)
          | inr foreign ↦ absurd (both_ways (has_atom (state_after t x a) i) (foreign_after i foreign) e)
        ]
    after_action false i e =
        elim (cases_lt i (length t.atoms)) [
          | inl own ↦ atom_false i own (sym (own_after i own) ∙ not-true (has_atom (state_after t x a) i) e)
          | inr foreign ↦ affords-foreign t s last (d + c) i foreign
        ]

  -- ---- steps, one after the other

  -- a node whose true literals cost at most what its way cost, from one at the cost `base`
  record IsCovered (base : ℕ) (r : Node) : Type 0 where
    spent : ℕ
    covers : Covers r.state spent
    fits : base + spent ≤ r.cost

  stepped : (base : ℕ) (r to : Node) (a : Action) (cost : Option ℕ) → Contains t.actions a → holds r.state a.condition ≡ true → step_cost t r.state a ≡ cost
      → IsCovered base r → after_step t r a cost ≡ Some to → IsCovered base to
  stepped base r to a None among met is k e = absurd (none-some to e)
  stepped base r to a (Some c) among met is k e =
      let same : record { state = state_after t r.state a; cost = r.cost + c } ≡ to = same_Some _ to e in
      subst (IsCovered base) same
      (record {
        spent = k.spent + c;
        covers = after_action r.state a c k.spent among met (price-le t r.state a c is) k.covers;
        fits = let h = k.fits in omega (arith, h);
      })

  tested : (base : ℕ) (r to : Node) (a : Action) (b : Bool) → Contains t.actions a → holds r.state a.condition ≡ b → IsCovered base r
      → cond b (after_step t r a (step_cost t r.state a)) None ≡ Some to → IsCovered base to
  tested base r to a true among met k e = stepped base r to a (step_cost t r.state a) among met refl k e
  tested base r to a false among met k e = absurd (none-some to e)

  found : (base : ℕ) (r to : Node) (n : ℕ) (o : Option Action) → slice_get t.actions n ≡ o → IsCovered base r → step_of t r o ≡ Some to → IsCovered base to
  unfolding step
  found base r to n None is k e = absurd (none-some to e)
  found base r to n (Some a) is k e =
      tested base r to a (holds r.state a.condition) (n, slice_get_within t.actions n a is, get_or_from_slice_get t.actions n a a is) refl k e

  one_step : (base : ℕ) (r to : Node) (n : ℕ) → IsCovered base r → step_by t r n ≡ Some to → IsCovered base to
  unfolding step_by
  one_step base r to n k e = found base r to n (slice_get t.actions n) refl k e

  all_steps : (base : ℕ) (p : List ℕ) (r to : Node) → IsCovered base r → exec_from t (Some r) p ≡ Some to → IsCovered base to
  all_steps base [] r to k e = subst (IsCovered base) (same_Some r to e) k
  all_steps base (n ∷ p) r to k e =
      elim (step_by t r n) as (λ o. step_by t r n ≡ o → exec_from t o p ≡ Some to → IsCovered base to) [
        | None ↦ λ _ e. absurd (none-some to (sym (exec_from-none t p) ∙ e))
        | Some mid ↦ λ is e. all_steps base p mid to (one_step base r mid n k is) e
      ] refl e

  -- what the goal's literals cost
  goal_up_to : (x : State) (d : ℕ) → Covers x d → holds x t.goal ≡ true → up_to d (hmax t s) ≡ true
  unfolding hmax
  goal_up_to x d covers met =
      up_to-dearest d (table_after t s last) t.goal.literals
      ∙ list_all-from_each (affords t s last d) t.goal.literals
      (λ l m. covers l.positive l.atom (each_passes (literal_holds x) t.goal.literals l (literals_true x t.goal met) m))

pub hmax_admissible : (t : Task) → IsAdmissible t (hmax t)
hmax_admissible t from p to of e met =
    let k =
    all_steps t from.state from.cost p from to
    (record { spent = 0; covers = at_start t from.state of; fits = omega arith }) e
    in
    let v = value_up_to k.spent (hmax t from.state) (goal_up_to t from.state to.state k.spent k.covers met) in
    let least = v.2 in
    let fits = k.fits in
    (v.0, v.1, omega (arith, least, fits))
