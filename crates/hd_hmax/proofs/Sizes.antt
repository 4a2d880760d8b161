-- How large the costs in the tables are: each round adds one price at most.
use Rattle.std.proofs.Common.{◌≡◌, ℕ, zero, suc, ◌+◌, ◌*◌, ◌-◌, ◌≤◌, Bool, true, false, cond, List, map, length, Some, None, Contains, inl, inr, sym, ap, ◌∙◌, subst, arith}
use Rattle.std.specs.List.{list_all, All}
use Rattle.std.proofs.Math.Nat.{suc-mul}
use Rattle.std.proofs.lemmas.Bool.{le-leb, leb-true, cases_lt, cases_Bool}
use Rattle.std.proofs.lemmas.List.Elements.{All-contains}
use Rattle.hd_base.proofs.Members.{Contains-map}
use Rattle.hd_base.proofs.Tests.{list_all-from_each}
use Rattle.hd_task.specs.declared.state.State.{State}
use Rattle.hd_task.specs.declared.condition.Literal.{Literal}
use Rattle.hd_task.specs.declared.action.Action.{Action}
use Rattle.hd_task.specs.declared.task.Task.{Task}
use Rattle.hd_task.specs.Conditions.{literal_holds}
use Rattle.hd_hmax.specs.Costs.{up_to}
use Rattle.hd_hmax.specs.Prices.{price}
use Rattle.hd_hmax.specs.Rounds.{Table, cost_in, dearest, first_cost, table_after}
use Rattle.hd_hmax.specs.Tables.{IsSmall}
use Rattle.hd_hmax.proofs.Infinite.{up_to-more, value_up_to}
use Rattle.hd_hmax.proofs.Counts.{each_passes}
use Rattle.hd_hmax.proofs.Tables.{foreign_cost, cost_in-own, foreign_after, affords, up_to-dearest, affords-by, affords-later, own_if_new, brought_about_if_new}

free_if_finite : (b : Bool) (c : ℕ) → up_to c (cond b (Some 0) None) ≡ true → up_to 0 (cond b (Some 0) None) ≡ true
free_if_finite true c e = le-leb 0 0 (omega arith)
free_if_finite false c e = e

foreign_free : (b : Bool) (c : ℕ) → up_to c (foreign_cost b) ≡ true → up_to 0 (foreign_cost b) ≡ true
foreign_free true c e = e
foreign_free false c e = le-leb 0 0 (omega arith)

module _ (t : Task) (s : State) (most : ℕ) (cheap : (a : Action) → Contains t.actions a → price t a ≤ most) where
  free_at_first : (c : ℕ) (l : Literal) → affords t s 0 c l ≡ true → affords t s 0 0 l ≡ true
  free_at_first c l e =
      elim (cases_lt l.atom (length t.atoms)) [
        | inl own ↦
            let is = cost_in-own (length t.atoms) (first_cost s) l own in
            ap (up_to 0) is ∙ free_if_finite (literal_holds s l) c (sym (ap (up_to c) is) ∙ e)
        | inr foreign ↦
            let is = foreign_after t s 0 l foreign in
            ap (up_to 0) is ∙ foreign_free l.positive c (sym (ap (up_to c) is) ∙ e)
      ]

  -- a finite cost after k rounds is at most k of the greatest price
  bounded : (k c : ℕ) (l : Literal) → affords t s k c l ≡ true → affords t s k (k * most) l ≡ true
  bounded zero c l e = up_to-more 0 (0 * most) (cost_in (table_after t s 0) l) (omega arith) (free_at_first c l e)
  bounded (suc k) c l e =
      let next : suc k * most ≡ k * most + most = suc-mul k most in
      elim (cases_Bool (affords t s k c l)) [
        | inl known ↦
            up_to-more (k * most) (suc k * most) (cost_in (table_after t s (suc k)) l) (omega (arith, next)) (affords-later t s k (k * most) l (bounded k c l known))
        | inr new ↦
            let by = brought_about_if_new t s k c l e new in
            let low : price t by.action ≤ most = cheap by.action by.among in
            let enough : k * most ≤ suc k * most - price t by.action = omega (arith, next, low) in
            affords-by t s k (suc k * most) l (own_if_new t s k c l e new)
            (record {
              action = by.action;
              among = by.among;
              brings = by.brings;
              cheap = omega (arith, next, low);
              needs = list_all-from_each (affords t s k (suc k * most - price t by.action)) by.action.condition.literals
                  (λ p m.
                  up_to-more (k * most) (suc k * most - price t by.action) (cost_in (table_after t s k) p) enough
                  (bounded k (c - price t by.action) p (each_passes (affords t s k (c - price t by.action)) by.action.condition.literals p by.needs m)));
            })
      ]

  pub small_after : (k : ℕ) → IsSmall (k * most) (table_after t s k)
  small_after k l v e =
      let within : up_to v (cost_in (table_after t s k) l) ≡ true = ap (up_to v) e ∙ le-leb v v (omega arith) in
      leb-true v (k * most) (sym (ap (up_to (k * most)) e) ∙ bounded k v l within)

-- the prices that are kept are those of the actions
pub cheap_actions : (t : Task) (prices : List ℕ) (most : ℕ) → prices ≡ map (price t) t.actions → All (λ p. p ≤ most) prices → (a : Action) → Contains t.actions a → price t a ≤ most
cheap_actions t prices most are small a among =
    All-contains (λ p. p ≤ most) prices (price t a) small (subst (λ ps. Contains ps (price t a)) (sym are) (Contains-map (price t) t.actions a among))

-- what literals cost together is no more than each may
pub small_dearest : (most : ℕ) (table : Table) (ls : List Literal) (v : ℕ) → IsSmall most table → dearest table ls ≡ Some v → v ≤ most
small_dearest most table ls v small e =
    let each : list_all (λ l. up_to v (cost_in table l)) ls ≡ true = sym (up_to-dearest v table ls) ∙ (ap (up_to v) e ∙ le-leb v v (omega arith)) in
    leb-true v most
    (sym (ap (up_to most) e)
    ∙ (up_to-dearest most table ls
    ∙ list_all-from_each (λ l. up_to most (cost_in table l)) ls
    (λ l m.
    let k = value_up_to v (cost_in table l) (each_passes (λ l. up_to v (cost_in table l)) ls l each m) in
    ap (up_to most) k.1 ∙ le-leb k.0 most (small l k.0 k.1))))
