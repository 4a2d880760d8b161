-- When a search has looked at enough: each generated plan is expanded, or need not be. The estimate
-- is a parameter: it gives a lower bound on the cost from a state to the goal, or none where it
-- knows that there is no way. (HDA*; the conditions are those of A*, Hart, Nilsson and Raphael
-- 1968.)
use Rattle.std.specs.Prelude.{◌≡◌, ℕ, ◌+◌, ◌≤◌, IsTrue, List, Option, Some, None, Contains, ◌⊎◌}
use Rattle.hd_task.specs.declared.state.State.{State}
use Rattle.hd_task.specs.declared.task.Task.{Task}
use Rattle.hd_task.specs.Conditions.{holds}
use Rattle.hd_task.specs.Plans.{IsStateOf, Node, exec, exec_from}
use Rattle.hd_task.specs.Expansions.{generated, bound_of}

-- an estimate of the cost from a state to the goal, none for infinite
abbrev pub Estimate : Type 0
Estimate = State → Option ℕ

-- an estimate is admissible if from no state of the task steps to the goal cost less, and it is
-- infinite only if there are none
abbrev pub IsAdmissible : Task → Estimate → Type 0
IsAdmissible t h =
    (from : Node) (p : List ℕ) (to : Node)
    → IsStateOf t from.state → exec_from t (Some from) p ≡ Some to → IsTrue (holds to.state t.goal)
    → (v : ℕ) × (h from.state ≡ Some v) × (from.cost + v ≤ to.cost)

-- an expanded plan has the node's state at no greater cost
pub record IsDominated (t : Task) (expanded : List (List ℕ)) (r : Node) : Type 0 where
  pub plan : List ℕ
  pub end : Node
  pub among : Contains expanded plan
  pub executes : exec t plan ≡ Some end
  pub same_state : end.state ≡ r.state
  pub no_dearer : end.cost ≤ r.cost

-- the estimate is infinite, or the cost and the estimate reach the bound
pub data IsBounded (bound : Option ℕ) (cost : ℕ) (estimate : Option ℕ) : Type 0 where
  Dead : estimate ≡ None → IsBounded bound cost estimate
  Reaches : (b v : ℕ) → bound ≡ Some b → estimate ≡ Some v → b ≤ cost + v → IsBounded bound cost estimate

-- a plan is justified if it need not be expanded: it is dominated or bounded
pub record IsJustified (t : Task) (h : Estimate) (expanded : List (List ℕ)) (p : List ℕ) : Type 0 where
  pub end : Node
  pub executes : exec t p ≡ Some end
  pub why : IsDominated t expanded end ⊎ IsBounded (bound_of t expanded) end.cost (h end.state)

-- a list of expansions is covered if each generated plan is in it or is justified
abbrev pub IsCovered : Task → Estimate → List (List ℕ) → Type 0
IsCovered t h expanded = (p : List ℕ) → Contains (generated t expanded) p → Contains expanded p ⊎ IsJustified t h expanded p

-- the estimate that knows nothing
abbrev pub zero_estimate : Estimate
zero_estimate s = Some 0
