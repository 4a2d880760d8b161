-- A step of an action and one of its instance: both are defined or neither is, and they lead to
-- states that agree, at one cost.
use Rattle.std.proofs.Common.{◌≡◌, ℕ, Bool, true, false, not, ◌&&◌, ◌||◌, ◌==◌, Contains, filter, Option, Some, None, slice_get, refl, sym, ap, ◌∙◌, subst, arith, true≢false}
use Rattle.std.specs.Prelude.{length, ℤ, pos, negsuc, ◌+ℤ◌, if◌then◌else◌}
use Rattle.std.proofs.lemmas.Bool.{eqb-true, eq-eqb, false_from_ne_true}
use Rattle.std.proofs.lemmas.List.{length-map}
use Rattle.std.proofs.lemmas.List.FromFn.{get_or-map-range_with_len}
use Rattle.std.proofs.lemmas.Option.{same_Some, slice_get_within}
use Rattle.hd_base.specs.Values.{of_both}
use Rattle.hd_base.proofs.Tests.{find-Some, find-None}
use Rattle.hd_lifted.specs.declared.schema.AppliedSymbol.{AppliedSymbol}
use Rattle.hd_lifted.specs.declared.schema.Ground.{Ground}
use Rattle.hd_lifted.specs.declared.schema.Schema.{Schema}
use Rattle.hd_lifted.specs.declared.task.LiftedTask.{LiftedTask}
use Rattle.hd_lifted.specs.declared.instance.Instance.{Instance}
use Rattle.hd_lifted.specs.States as domain
use Rattle.hd_lifted.specs.Conditions as meaning
use Rattle.hd_lifted.specs.Effects as lifted
use Rattle.hd_lifted.specs.Steps as lifted_step
use Rattle.hd_lifted.specs.Steps.{Reached}
use Rattle.hd_task.specs.declared.state.State.{State}
use Rattle.hd_task.specs.declared.effect.Effect.{Effect}
use Rattle.hd_task.specs.declared.effect.ValueChange.{ValueChange}
use Rattle.hd_task.specs.declared.action.Action.{Action}
use Rattle.hd_task.specs.declared.task.Task.{Task}
use Rattle.hd_task.specs.Conditions.{has_atom, holds}
use Rattle.hd_task.specs.Expressions.{fluent_of}
use Rattle.hd_task.specs.Effects.{atom_after, value_by_change, value_after, effect_on, state_after, sum_of_costs, exact_cost, natural, step_cost}
use Rattle.hd_task.specs.Plans.{Node, after_step, step}
use Rattle.hd_lifted.specs.Kept.{IsKept, added}
use Rattle.hd_lifted.proofs.Passing.{passing-from_any}
use Rattle.hd_lifted.proofs.Sound.{same-true}
use Rattle.hd_lifted.proofs.Unchanged.{unchanged_after}
use Rattle.hd_grounding.specs.Images.{is_on, change_of, changed_value}
use Rattle.hd_grounding.specs.Agreement.{Agree, IsNumbered, KeepsFirstValues, HasNumberedEffects}
use Rattle.hd_grounding.specs.Grounding.{form_of, IsActionOf, IsGrounding}
use Rattle.hd_grounding.proofs.Changing.{atom_agrees}
use Rattle.hd_grounding.proofs.Grounded.{instance_kept, reachable_numbered, met_numbered, condition_numbered}
use Rattle.hd_grounding.proofs.Holding.{condition_agrees}
use Rattle.hd_grounding.proofs.Paying.{costs_agree}
use Rattle.hd_grounding.proofs.Writing.{value_after_agrees}

-- ---- what goes along

-- the states agree, what no schema changes is as it was at first, and the cost is the same
pub record IsAlong (t : LiftedTask) (u : Task) (made : IsGrounding t u) (r : Reached) (m : Node) : Type 0 where
  pub agree : Agree made.atoms made.fluents r.state m.state
  pub first : KeepsFirstValues t r.state
  pub cost : r.cost ≡ Some (pos m.cost)

-- both lead nowhere, or both go along
abbrev pub AreAlike : (t : LiftedTask) (u : Task) (made : IsGrounding t u) → Option Reached → Option Node → Type 0
AreAlike t u made None None = Unit {0}
AreAlike t u made None (Some m) = ⊥
AreAlike t u made (Some r) None = ⊥
AreAlike t u made (Some r) (Some m) = IsAlong t u made r m

-- ---- one action and its instance

module _ (t : LiftedTask) (u : Task) (made : IsGrounding t u) (i : Instance) (b : Action) (kept : IsKept t i) (of : IsActionOf t made.atoms made.fluents i b) where
  same : (instance_kept t i kept).schema ≡ of.schema
  same = same_Some (instance_kept t i kept).schema of.schema (sym (instance_kept t i kept).is_schema ∙ of.is_schema)

  pub numbered : IsNumbered made.atoms made.fluents i.objects of.schema.condition
  numbered = subst (λ (a : Schema). IsNumbered made.atoms made.fluents i.objects a.condition) same (condition_numbered t u made i (instance_kept t i kept) kept)

  pub met : HasNumberedEffects made.fluents i.objects of.schema
  met = subst (HasNumberedEffects made.fluents i.objects) same (met_numbered t u made i (instance_kept t i kept) kept)

  pub compatible : lifted.effects_clash i.objects of.schema.effects ≡ false
  compatible = subst (λ (a : Schema). lifted.effects_clash i.objects a.effects ≡ false) same (instance_kept t i kept).compatible

  -- ---- the state after

  module _ (s : domain.State) (n : State) (agree : Agree made.atoms made.fluents s n) where
    has_atom-after : (k : ℕ) (g : Ground) → slice_get made.atoms k ≡ Some g → has_atom (state_after u n b) k ≡ atom_after n b k
    unfolding state_after
    has_atom-after k g at =
        get_or-map-range_with_len (atom_after n b) 0 (length u.atoms) k k false
        (omega (arith, slice_get_within made.atoms k g at, ap length made.atoms_are ∙ length-map made.atoms form_of)) (omega arith)

    fluent_of-after : (k : ℕ) (g : Ground) → slice_get made.fluents k ≡ Some g → fluent_of (state_after u n b).fluents k ≡ value_after n.fluents k (effect_on b k)
    unfolding state_after
    fluent_of-after k g at =
        get_or-map-range_with_len (λ j. value_after n.fluents j (effect_on b j)) 0 (length u.fluents) k k (pos 0)
        (omega (arith, slice_get_within made.fluents k g at, ap length made.fluents_are ∙ length-map made.fluents form_of)) (omega arith)

    abbrev change_on : Ground → Option ValueChange
    change_on g = change_of made.fluents i.objects (filter (is_on i.objects g) of.schema.effects)

    -- an effect of the action is the change of its fluent
    pub effect_is : (k : ℕ) (g : Ground) (e : Effect) → slice_get made.fluents k ≡ Some g → Contains b.effects e → e.fluent ≡ k → change_on g ≡ Some e.change
    effect_is k g e at c place =
        let is = (of.effects.exactly e).1 c in
        let here : is.fluent ≡ g = same_Some is.fluent g (sym is.is_numbered ∙ (ap (slice_get made.fluents) place ∙ at)) in
        sym (ap change_on here) ∙ is.is_change

    -- each change of a fluent is an effect of the action
    pub change_there : (k : ℕ) (g : Ground) (c : ValueChange) → slice_get made.fluents k ≡ Some g → change_on g ≡ Some c → Contains b.effects (record { fluent = k; change = c })
    change_there k g c at is = (of.effects.exactly (record { fluent = k; change = c })).0 (record { fluent = g; is_numbered = at; is_change = is })

    unchanged : (k : ℕ) (g : Ground) (o : Option ValueChange) → slice_get made.fluents k ≡ Some g → change_on g ≡ o → effect_on b k ≡ None → o ≡ None
    unchanged k g None at is none = refl
    unchanged k g (Some c) at is none =
        absurd (true≢false (sym (eq-eqb k k refl) ∙ find-None (λ (e : Effect). e.fluent == k) b.effects (record { fluent = k; change = c }) none (change_there k g c at is)))

    value_found : (k : ℕ) (g : Ground) (o : Option Effect) → slice_get made.fluents k ≡ Some g → effect_on b k ≡ o
        → changed_value n.fluents (change_on g) (fluent_of n.fluents k) ≡ value_after n.fluents k o
    value_found k g None at none = ap (λ c. changed_value n.fluents c (fluent_of n.fluents k)) (unchanged k g (change_on g) at refl none)
    value_found k g (Some e) at some =
        let found = find-Some (λ (e : Effect). e.fluent == k) b.effects e some in
        let place : e.fluent ≡ k = eqb-true e.fluent k found.1 in
        ap (λ c. changed_value n.fluents c (fluent_of n.fluents k)) (effect_is k g e at found.0 place)
        ∙ ap (λ j. value_by_change n.fluents e.change (fluent_of n.fluents j)) (sym place)

    added_numbered : (g : Ground) → (Contains made.atoms g → ⊥) → lifted.names_atom i.objects of.schema.adds g ≡ false
    added_numbered g none =
        false_from_ne_true (lifted.names_atom i.objects of.schema.adds g)
        (λ e.
        let k = passing-from_any (λ (a : AppliedSymbol). domain.same (domain.ground_form_of i.objects a) g) of.schema.adds e in
        none (reachable_numbered t u made g
        (added i of.schema k.value g kept of.is_schema k.among (same-true (domain.ground_form_of i.objects k.value) g k.passes))))

    pub after_agrees : Agree made.atoms made.fluents (lifted.state_after s of.schema i.objects) (state_after u n b)
    unfolding lifted.state_after
    after_agrees = record {
      same_atoms = λ k g at.
          atom_agrees made.atoms made.numbers_atoms.rising made.fluents i.objects of.schema b s n k g agree of.changes_atoms at
          ∙ sym (has_atom-after k g at);
      others = λ g none.
          ap (λ x. x || (s.atoms g && not (lifted.names_atom i.objects of.schema.deletes g))) (added_numbered g none)
          ∙ ap (λ x. x && not (lifted.names_atom i.objects of.schema.deletes g)) (agree.others g none);
      same_values = λ k g at.
          value_after_agrees made.atoms made.fluents s n agree i.objects g of.schema (fluent_of n.fluents k) met compatible (agree.same_values k g at)
          ∙ ap Some (value_found k g (effect_on b k) at refl ∙ sym (fluent_of-after k g at));
    }

    pub first_after : KeepsFirstValues t s → KeepsFirstValues t (lifted.state_after s of.schema i.objects)
    unfolding lifted.state_after
    first_after first g none = unchanged_after t i.schema of.schema s.values i.objects g of.is_schema none ∙ first g none

    -- ---- the condition and the cost

    pub hold_alike : meaning.holds s i.objects of.schema.condition ≡ holds n b.condition
    hold_alike = condition_agrees made.atoms made.fluents s n agree i.objects of.schema.condition numbered ∙ ap (holds n) (sym of.condition)

    paid : (metric : Bool) (sum : Option ℤ) (z : ℤ) → sum ≡ Some z → (if metric then sum else Some (pos 1)) ≡ Some (if metric then z else pos 1)
    paid true sum z e = e
    paid false sum z e = refl

    pub costs_alike : KeepsFirstValues t s → lifted.step_cost t s.values of.schema i.objects ≡ Some (exact_cost u n b)
    unfolding lifted.step_cost
    costs_alike first =
        let sum : lifted.sum_of_costs s.values of.schema i.objects ≡ Some (sum_of_costs n.fluents b.costs) =
        costs_agree t made.atoms made.fluents s n agree first i.objects of.schema met ∙ ap (λ es. Some (sum_of_costs n.fluents es)) (sym of.costs) in
        ap (λ m. if m then lifted.sum_of_costs s.values of.schema i.objects else Some (pos 1)) (sym made.metric_is)
        ∙ paid u.metric (lifted.sum_of_costs s.values of.schema i.objects) (sum_of_costs n.fluents b.costs) sum

-- ---- steps

module _ (t : LiftedTask) (u : Task) (made : IsGrounding t u) where
  by_cost : (r : Reached) (m : Node) (b : Action) (s : domain.State) (h : Bool) (z : ℤ) → r.cost ≡ Some (pos m.cost)
      → Agree made.atoms made.fluents s (state_after u m.state b) → KeepsFirstValues t s
      → AreAlike t u made
      (if h && not (lifted.is_negative (Some z)) then Some (record { state = s; cost = of_both (λ x y. x +ℤ y) r.cost (Some z) }) else None)
      (if h then after_step u m b (natural z) else None)
  by_cost r m b s false z cost agree first = tt
  by_cost r m b s true (negsuc c) cost agree first = tt
  by_cost r m b s true (pos c) cost agree first = record {
    agree = agree;
    first = first;
    cost = ap (λ x. of_both (λ x y. x +ℤ y) x (Some (pos c))) cost;
  }

  -- by an action, and by its instance
  pub step_alike : (r : Reached) (m : Node) (i : Instance) (b : Action) → IsAlong t u made r m → IsKept t i → (of : IsActionOf t made.atoms made.fluents i b)
      → AreAlike t u made (lifted_step.step t r of.schema i.objects) (step u m b)
  unfolding lifted_step.step step step_cost
  step_alike r m i b along kept of =
      let h = hold_alike t u made i b kept of r.state m.state along.agree in
      let c = costs_alike t u made i b kept of r.state m.state along.agree along.first in
      let s = lifted.state_after r.state of.schema i.objects in
      let z = exact_cost u m.state b in
      let goes : AreAlike t u made
      (if holds m.state b.condition && not (lifted.is_negative (Some z)) then Some (record { state = s; cost = of_both (λ x y. x +ℤ y) r.cost (Some z) }) else None)
      (if holds m.state b.condition then after_step u m b (natural z) else None) =
      by_cost r m b s (holds m.state b.condition) z along.cost
      (after_agrees t u made i b kept of r.state m.state along.agree) (first_after t u made i b kept of r.state m.state along.agree along.first) in
      subst (λ (h : Bool). AreAlike t u made
      (if h && not (lifted.is_negative (lifted.step_cost t r.state.values of.schema i.objects)) then Some (record { state = s; cost = lifted_step.cost_after t r of.schema i.objects }) else None)
      (step u m b)) (sym h)
      (subst (λ (o : Option ℤ). AreAlike t u made
      (if holds m.state b.condition && not (lifted.is_negative o) then Some (record { state = s; cost = of_both (λ x y. x +ℤ y) r.cost o }) else None)
      (step u m b)) (sym c) goes)
