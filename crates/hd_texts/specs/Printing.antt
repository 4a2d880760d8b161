-- What is printed of a task's plan: its steps by their names. (Our own.)
use Rattle.std.specs.Prelude.{◌≡◌, ℕ, false, List, [], ◌∷◌, ◌++◌, map, Option, Some, None, slice_get}
use Rattle.hd_plan.specs.declared.step.Step.{Step}
use Rattle.hd_plan.specs.Text.{IsLowerName}
use Rattle.hd_lifted.specs.declared.schema.Schema.{Schema}
use Rattle.hd_lifted.specs.declared.task.Object.{Object}
use Rattle.hd_lifted.specs.declared.task.LiftedTask.{LiftedTask}
use Rattle.hd_task.specs.declared.form.GroundForm.{GroundForm}
use Rattle.hd_task.specs.declared.form.Names.{Names}
use Rattle.hd_task.specs.declared.action.Action.{Action}
use Rattle.hd_task.specs.declared.task.Task.{Task}
use Rattle.hd_task.specs.Departures.{action_departs, goal_departs}
use Rattle.hd_task.specs.FormText.{name_at}
use Rattle.hd_task.specs.Plans.{Node, exec}

-- the step that a ground form of an action is: its names
abbrev pub step_of_form : Names → GroundForm → Step
step_of_form names g = record { name = name_at names.schemas g.symbol; args = map (name_at names.objects) g.objects }

-- the step of an action that may not be there: without one it has no name
abbrev pub step_by_action : Task → Option Action → Step
step_by_action u None = record { name = []; args = [] }
step_by_action u (Some a) = step_of_form u.names a.form

-- the step of the action with this number
abbrev pub numbered_step : Task → ℕ → Step
numbered_step u n = step_by_action u (slice_get u.actions n)

-- the steps of a plan
abbrev pub steps_of : Task → List ℕ → List Step
steps_of u p = map (numbered_step u) p

-- no step of a plan departs where it is taken
abbrev pub GoesThrough : Task → List ℕ → Type 0
GoesThrough u p = (before after : List ℕ) (n : ℕ) (m : Node) → p ≡ before ++ n ∷ after → exec u before ≡ Some m → action_departs u m n ≡ false

-- the goal does not depart where a plan leads
abbrev pub GroundGoalStays : Task → List ℕ → Type 0
GroundGoalStays u p = (m : Node) → exec u p ≡ Some m → goal_departs u m ≡ false

-- the names of schemas and objects are names of texts in lower case
pub record HasTextNames (t : LiftedTask) : Type 0 where
  pub schemas : (n : ℕ) (a : Schema) → slice_get t.schemas n ≡ Some a → IsLowerName a.name
  pub objects : (n : ℕ) (o : Object) → slice_get t.objects n ≡ Some o → IsLowerName o.name
