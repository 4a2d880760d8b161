-- The parts that a task is made of. (Our own.)
use Rattle.std.specs.Prelude.{◌≡◌, Bool, List}
use Rattle.hd_task.specs.declared.state.State.{State}
use Rattle.hd_task.specs.declared.form.GroundForm.{GroundForm}
use Rattle.hd_task.specs.declared.form.Names.{Names}
use Rattle.hd_task.specs.declared.condition.Condition.{Condition}
use Rattle.hd_task.specs.declared.action.Action.{Action}
use Rattle.hd_task.specs.declared.task.Task.{Task}

-- a task has exactly these parts
pub record HasParts (names : Names) (atoms fluents : List GroundForm) (initial : State) (actions : List Action) (goal : Condition) (metric : Bool) (t : Task) : Type 0 where
  pub names_are : t.names ≡ names
  pub atoms_are : t.atoms ≡ atoms
  pub fluents_are : t.fluents ≡ fluents
  pub initial_is : t.initial ≡ initial
  pub actions_are : t.actions ≡ actions
  pub goal_is : t.goal ≡ goal
  pub metric_is : t.metric ≡ metric
