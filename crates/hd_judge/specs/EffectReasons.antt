-- Why a step departs from the range, if its condition holds and stays in it. (Our own: PDDL 2.1
-- has no range.)
use Rattle.std.specs.Prelude.{◌≡◌, ℕ, Bool, true, false, not, ◌||◌, List, Option, Some, Result, Ok, Err, MatchOption, find, ℤ, pos, ◌+ℤ◌}
use Rattle.std.specs.List.{list_all}
use Rattle.hd_base.specs.Numbers.{in_range, fits}
use Rattle.hd_lifted.specs.declared.schema.Ground.{Ground}
use Rattle.hd_lifted.specs.declared.schema.NumericEffect.{NumericEffect}
use Rattle.hd_lifted.specs.declared.schema.Schema.{Schema}
use Rattle.hd_lifted.specs.declared.task.LiftedTask.{LiftedTask}
use Rattle.hd_lifted.specs.States.{Values, ground_form_of}
use Rattle.hd_lifted.specs.Expressions.{value_of}
use Rattle.hd_lifted.specs.Effects.{is_cost, value_after, effects_stay, step_cost, is_negative}
use Rattle.hd_lifted.specs.Steps.{Reached, cost_after}
use Rattle.hd_judge.specs.declared.reason.Reason.{Reason}
use Rattle.hd_judge.specs.declared.reason.Reason.TheVariants as reasons
use Rattle.hd_judge.specs.declared.reason.StepCost.{StepCost}
use Rattle.hd_judge.specs.declared.reason.NewValue.{NewValue}
use Rattle.hd_judge.specs.declared.reason.DepartingPart.{DepartingPart}
use Rattle.hd_judge.specs.declared.changes.Changes.{Changes}
use Rattle.hd_judge.specs.Effects.{AreChangesOf, amount_stays, change_fits, new_value_in}
use Rattle.hd_judge.specs.Departures.{IsDeparture}

-- the first effect whose amount has a subexpression out of the range
abbrev pub departing_effect : Values → List ℕ → List NumericEffect → Option NumericEffect
departing_effect v objects es = find (λ e. not (amount_stays v objects e)) es

-- the new value of an effect's fluent is in the range; a cost changes none
abbrev pub new_value_stays : Values → Schema → List ℕ → NumericEffect → Bool
new_value_stays v a objects e = is_cost e.change || fits (value_after v a objects (ground_form_of objects e.fluent))

-- the first effect whose fluent's new value is out of the range
abbrev pub leaving_effect : Values → Schema → List ℕ → Option NumericEffect
leaving_effect v a objects = find (λ e. not (new_value_stays v a objects e)) a.effects

-- what a step costs where it is taken, by its effects
pub record IsStepCost (t : LiftedTask) (r : Reached) (a : Schema) (objects : List ℕ) (cost : StepCost) : Type 0 where
  pub effects : cost.effects.now ≡ a.effects
  pub value : step_cost t r.state.values a objects ≡ Some cost.value
  pub before : r.cost ≡ Some (pos cost.before)

-- a step's effects, its cost and the plan's with it stay in the range, and the step's cost is not
-- negative
pub record StaysWithin (t : LiftedTask) (r : Reached) (a : Schema) (objects : List ℕ) : Type 0 where
  pub effects : effects_stay r.state.values a objects ≡ true
  pub cost : is_negative (step_cost t r.state.values a objects) ≡ false
  pub total : fits (cost_after t r a objects) ≡ true

-- this is why they don't: the first departure of the first amount that departs; or, where none
-- does, the first new value that is out of the range; or, if there is none, the step's cost,
-- which is negative; or else the plan's cost
abbrev pub IsReasonOfEffects : LiftedTask → Reached → Schema → List ℕ → Reason → Type 0
IsReasonOfEffects t r a objects (reasons.Subexpression d) =
    (of : NumericEffect) × (departing_effect r.state.values objects a.effects ≡ Some of) × IsDeparture r.state.values objects of.amount d.part.now d.value
IsReasonOfEffects t r a objects (reasons.NewValue n) =
    (list_all (amount_stays r.state.values objects) a.effects ≡ true) × (n.effects.now ≡ a.effects)
    × (leaving_effect r.state.values a objects ≡ Some n.effect.now)
    × (value_after r.state.values a objects (ground_form_of objects n.effect.now.fluent) ≡ Some n.value)
IsReasonOfEffects t r a objects (reasons.NegativeCost c) =
    (effects_stay r.state.values a objects ≡ true) × IsStepCost t r a objects c × (is_negative (Some c.value) ≡ true)
IsReasonOfEffects t r a objects (reasons.PlanCost c) =
    (effects_stay r.state.values a objects ≡ true) × IsStepCost t r a objects c × (is_negative (Some c.value) ≡ false)
    × (in_range (pos c.before +ℤ c.value) ≡ false)
IsReasonOfEffects t r a objects _ = ⊥

-- ---- what the code answers

-- an amount that is there, or its departure
abbrev pub JudgesAmount : Values → List ℕ → NumericEffect → Result ℤ DepartingPart → Type 0
JudgesAmount v objects e (Ok x) = (amount_stays v objects e ≡ true) × (value_of v objects e.amount ≡ Some x)
JudgesAmount v objects e (Err d) = (amount_stays v objects e ≡ false) × IsDeparture v objects e.amount d.part.now d.value

-- the new values and the sum of the costs, or the first departure of amounts
abbrev pub JudgesChanges : Values → List ℕ → List NumericEffect → Result Changes DepartingPart → Type 0
JudgesChanges v objects es (Ok c) = (list_all (amount_stays v objects) es ≡ true) × AreChangesOf v objects es c
JudgesChanges v objects es (Err d) =
    (of : NumericEffect) × (departing_effect v objects es ≡ Some of) × IsDeparture v objects of.amount d.part.now d.value

-- the new value of an effect's fluent, where that is out of the range
abbrev pub JudgesLeaving : Changes → List ℕ → NumericEffect → Option ℤ → Type 0
JudgesLeaving changes objects e answer =
    MatchOption answer (change_fits changes objects e ≡ true)
    (λ z. (change_fits changes objects e ≡ false) × (new_value_in changes (ground_form_of objects e.fluent) ≡ Some z))

-- the first effect with such a value, or nothing, where all are in the range
abbrev pub JudgesValues : Changes → List ℕ → List NumericEffect → Option NewValue → Type 0
JudgesValues changes objects es answer =
    MatchOption answer (list_all (change_fits changes objects) es ≡ true)
    (λ n. (n.effects.now ≡ es) × (find (λ e. not (change_fits changes objects e)) es ≡ Some n.effect.now)
    × (new_value_in changes (ground_form_of objects n.effect.now.fluent) ≡ Some n.value))

-- why a step of this cost can't be taken after a plan of that cost
abbrev pub IsReasonOfCost : ℕ → ℤ → List NumericEffect → Reason → Type 0
IsReasonOfCost before step es (reasons.NegativeCost c) =
    (c.effects.now ≡ es) × (c.value ≡ step) × (c.before ≡ before) × (is_negative (Some step) ≡ true)
IsReasonOfCost before step es (reasons.PlanCost c) =
    (c.effects.now ≡ es) × (c.value ≡ step) × (c.before ≡ before) × (is_negative (Some step) ≡ false) × (in_range (pos before +ℤ step) ≡ false)
IsReasonOfCost before step es _ = ⊥

-- the plan's cost with the step's, or why the step can't be taken
abbrev pub JudgesCost : ℕ → ℤ → List NumericEffect → Result ℕ Reason → Type 0
JudgesCost before step es (Ok cost) = (is_negative (Some step) ≡ false) × (in_range (pos cost) ≡ true) × (pos cost ≡ pos before +ℤ step)
JudgesCost before step es (Err reason) = IsReasonOfCost before step es reason

-- a step stays within the range, and these are its changes, each in the range, and what the plan
-- then costs
pub record AreEffectsOf (t : LiftedTask) (r : Reached) (a : Schema) (objects : List ℕ) (changes : Changes) (cost : ℕ) : Type 0 where
  pub stay : StaysWithin t r a objects
  pub are : AreChangesOf r.state.values objects a.effects changes
  pub fit : (g : Ground) → fits (new_value_in changes g) ≡ true
  pub total : cost_after t r a objects ≡ Some (pos cost)
