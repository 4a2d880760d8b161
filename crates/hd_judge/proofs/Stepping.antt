-- Where a step leads, by what its effects give.
use Rattle.std.proofs.Common.{◌≡◌, ℕ, Bool, true, false, not, ◌&&◌, List, Option, Some, None, refl, sym, ap, ap₂, ◌∙◌}
use Rattle.std.specs.Prelude.{if◌then◌else◌, ℤ, flat_map}
use Rattle.std.proofs.Math.Path.{fun_ext}
use Rattle.std.proofs.lemmas.List.Elements.{Contains-append_right}
use Rattle.hd_base.specs.Numbers.{fits}
use Rattle.hd_lifted.specs.declared.schema.Ground.{Ground}
use Rattle.hd_lifted.specs.declared.schema.Schema.{Schema}
use Rattle.hd_lifted.specs.declared.task.LiftedTask.{LiftedTask}
use Rattle.hd_lifted.specs.States.{Values}
use Rattle.hd_lifted.specs.Conditions.{holds}
use Rattle.hd_lifted.specs.Effects.{atoms_after, value_after, state_after, step_cost, is_negative}
use Rattle.hd_lifted.specs.Steps.{Reached, step, cost_after}
use Rattle.hd_lifted.specs.Departures.{cost_stays}
use Rattle.hd_lifted.specs.Met.{met_by, met_by_comparison, met_by_effect}
use Rattle.hd_lifted.specs.Questions.{first_undefined}
use Rattle.hd_judge.specs.Effects.{HaveValues}
use Rattle.hd_judge.specs.Way.{IsOnWay}
use Rattle.hd_judge.proofs.Asked.{all_defined}

-- what the effects of a step meet is there
pub effects_there : (t : LiftedTask) (r : Reached) (objects : List ℕ) (a : Schema) → first_undefined t (met_by objects a) ≡ None → IsOnWay t r
    → HaveValues r.state.values (flat_map (met_by_effect objects) a.effects)
effects_there t r objects a defined way = record {
  each = λ g c.
      way.values g
      (all_defined t (met_by objects a) defined g
      (Contains-append_right (flat_map (met_by_comparison objects) a.condition.comparisons) (flat_map (met_by_effect objects) a.effects) g c));
}

-- the plan's cost with a step whose condition holds, by whether the step's own is negative
pub step_stays : (t : LiftedTask) (r : Reached) (a : Schema) (objects : List ℕ) (negative : Bool) → holds r.state objects a.condition ≡ true
    → is_negative (step_cost t r.state.values a objects) ≡ negative
    → cost_stays (step t r a objects) ≡ (not negative && fits (cost_after t r a objects))
unfolding step
step_stays t r a objects negative hold is =
    let next : Reached = record { state = state_after r.state a objects; cost = cost_after t r a objects } in
    ap₂ (λ h b. cost_stays (if h && not b then Some next else None)) hold is
    ∙ elim negative as (λ b. cost_stays (if true && not b then Some next else None) ≡ (not b && fits next.cost)) [
      | true ↦ refl
      | false ↦ refl
    ]

-- it leads to what has its atoms, its values and its cost
pub leads_to : (t : LiftedTask) (r to : Reached) (objects : List ℕ) (a : Schema) → holds r.state objects a.condition ≡ true
    → is_negative (step_cost t r.state.values a objects) ≡ false
    → ((g : Ground) → to.state.atoms g ≡ atoms_after r.state.atoms a objects g) → ((g : Ground) → to.state.values g ≡ value_after r.state.values a objects g)
    → cost_after t r a objects ≡ to.cost → step t r a objects ≡ Some to
unfolding step state_after
leads_to t r to objects a met free atoms values cost =
    let made : (Ground → Bool) → Values → Option ℤ → Reached = λ p v x. record { state = record { atoms = p; values = v }; cost = x } in
    let p = atoms_after r.state.atoms a objects in
    let v = value_after r.state.values a objects in
    ap₂ (λ (h b : Bool). if h && not b then Some (made p v (cost_after t r a objects)) else None) met free
    ∙ (ap (λ (x : Option ℤ). Some (made p v x)) cost
    ∙ sym (ap₂ (λ (p : Ground → Bool) (v : Values). Some (made p v to.cost)) (fun_ext atoms) (fun_ext values)))
