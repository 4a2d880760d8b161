-- Where plans lead in a task and in its domain. (Our own.)
use Rattle.std.specs.Prelude.{◌≡◌, ℕ, List, All, Some, pos}
use Rattle.hd_lifted.specs.declared.instance.Instance.{Instance}
use Rattle.hd_lifted.specs.declared.task.LiftedTask.{LiftedTask}
use Rattle.hd_lifted.specs.Plans as domain
use Rattle.hd_lifted.specs.Plans.{IsInstance}
use Rattle.hd_lifted.specs.Steps.{Reached}
use Rattle.hd_task.specs.declared.task.Task.{Task}
use Rattle.hd_task.specs.Plans.{Node, exec}
use Rattle.hd_grounding.specs.Agreement.{Agree}
use Rattle.hd_grounding.specs.Grounding.{IsGrounding}
use Rattle.hd_grounding.specs.Instances.{instances_of}

-- what is reached in the domain corresponds to a node of the task: the states agree on each atom
-- and on each fluent with a number, and the cost is the same
pub record Correspond {t : LiftedTask} {u : Task} (made : IsGrounding t u) (r : Reached) (m : Node) : Type 0 where
  pub states : Agree made.atoms made.fluents r.state m.state
  pub costs : r.cost ≡ Some (pos m.cost)

-- the instances of a plan are executed in the domain, and lead to what corresponds to this node
pub record LeadsThere {t : LiftedTask} {u : Task} (made : IsGrounding t u) (p : List ℕ) (m : Node) : Type 0 where
  pub instances : All (IsInstance t) (instances_of u p)
  pub end : Reached
  pub executes : domain.exec t (instances_of u p) ≡ Some end
  pub correspond : Correspond made end m

-- a plan of the domain is `instances_of` a plan that is executed in the task, and leads to a node to
-- which this corresponds
pub record IsOfPlan {t : LiftedTask} {u : Task} (made : IsGrounding t u) (q : List Instance) (r : Reached) : Type 0 where
  pub plan : List ℕ
  pub is : instances_of u plan ≡ q
  pub end : Node
  pub executes : exec u plan ≡ Some end
  pub correspond : Correspond made r end
