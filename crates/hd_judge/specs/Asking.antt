-- What is asked of a plan's steps and of its end, in this order: the first question that fails
-- reports a fault. (The order is our own.)
use Rattle.std.specs.Prelude.{ℕ, not, ◌&&◌, List, [], Option, Some, None, slice_get, option_map}
use Rattle.hd_base.specs.Options.{◌or◌}
use Rattle.hd_lifted.specs.declared.schema.Ground.{Ground}
use Rattle.hd_lifted.specs.declared.schema.Condition.{Condition}
use Rattle.hd_lifted.specs.declared.schema.Schema.{Schema}
use Rattle.hd_lifted.specs.declared.task.LiftedTask.{LiftedTask}
use Rattle.hd_lifted.specs.declared.instance.Instance.{Instance}
use Rattle.hd_lifted.specs.States.{State}
use Rattle.hd_lifted.specs.Conditions.{literals_hold, comparisons_stay, comparisons_hold}
use Rattle.hd_lifted.specs.Effects.{effects_stay}
use Rattle.hd_lifted.specs.Steps.{Reached, step}
use Rattle.hd_lifted.specs.Departures.{cost_stays}
use Rattle.hd_lifted.specs.Met.{met_by, met_by_goal}
use Rattle.hd_judge.specs.declared.fault.PlanFault.{PlanFault}
use Rattle.hd_judge.specs.declared.fault.PlanFault.TheVariants.{NotApplicable, Undefined, NegativeCost, Departs, GoalUnmet}
use Rattle.hd_judge.specs.Fault.{unless}
use Rattle.hd_lifted.specs.Questions.{first_undefined, costs_negative}

-- do all fluents that are met have a first value?
abbrev pub asked_of_fluents : LiftedTask → List Ground → Option PlanFault
asked_of_fluents t fluents = option_map (λ g. Undefined g) (first_undefined t fluents)

-- do the comparisons stay in the range, and then, do they hold? The faults of each are given
abbrev pub asked_of_comparisons : State → List ℕ → Condition → PlanFault → PlanFault → Option PlanFault
asked_of_comparisons s objects c departs fails =
    unless (comparisons_stay s objects c) departs
    or unless (comparisons_hold s objects c) fails

-- ---- a step

-- may the step be taken? Its conditions on atoms and objects, its fluents, its cost where that is
-- the same in each state, and its comparisons
unfoldable pub asked_before : LiftedTask → Reached → ℕ → Instance → Schema → Option PlanFault
asked_before t r n i a =
    unless (literals_hold r.state i.objects a.condition) (NotApplicable n)
    or asked_of_fluents t (met_by i.objects a)
    or unless (not (costs_negative t a i.objects)) (NegativeCost i)
    or asked_of_comparisons r.state i.objects a.condition (Departs n) (NotApplicable n)

-- does the step stay in the range: its effects, its new values and the plan's cost? A step of a
-- negative cost doesn't
unfoldable pub asked_after : LiftedTask → Reached → ℕ → Instance → Schema → Option PlanFault
asked_after t r n i a = unless (effects_stay r.state.values a i.objects && cost_stays (step t r a i.objects)) (Departs n)

-- a step by a schema that may not be there
abbrev pub asked_of_schema : LiftedTask → Reached → ℕ → Instance → Option Schema → Option PlanFault
asked_of_schema t r n i None = None
asked_of_schema t r n i (Some a) = asked_before t r n i a or asked_after t r n i a

-- the n-th step, from a reached state
unfoldable pub asked_of_step : LiftedTask → Reached → ℕ → Instance → Option PlanFault
asked_of_step t r n i = asked_of_schema t r n i (slice_get t.schemas i.schema)

-- ---- the end

-- the goal, where a plan leads, n one more than the number of its steps
unfoldable pub asked_of_goal : LiftedTask → Reached → ℕ → Option PlanFault
asked_of_goal t r n =
    unless (literals_hold r.state [] t.goal) GoalUnmet
    or asked_of_fluents t (met_by_goal t)
    or asked_of_comparisons r.state [] t.goal (Departs n) GoalUnmet
