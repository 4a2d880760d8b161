-- Instances and plans: execution, cost, validity and optimality (PDDL 2.1). A plan is a list of
-- instances, one after the other; it has no times. (The profile is our own.)
use Rattle.std.specs.Prelude.{◌≡◌, ℕ, false, IsTrue, List, [], ◌∷◌, All, Option, Some, None, slice_get, option_and_then, ℤ, ◌≤ℤ◌}
use Rattle.hd_lifted.specs.declared.schema.Schema.{Schema}
use Rattle.hd_lifted.specs.declared.instance.Instance.{Instance}
use Rattle.hd_lifted.specs.declared.task.LiftedTask.{LiftedTask}
use Rattle.hd_lifted.specs.Objects.{AreOfTypes}
use Rattle.hd_lifted.specs.Conditions.{holds}
use Rattle.hd_lifted.specs.Effects.{effects_clash}
use Rattle.hd_lifted.specs.Steps.{Reached, step, start}

-- an instance of a task: there is the schema, the objects are of its parameters' types, and no two
-- of its effects clash
pub record IsInstance (t : LiftedTask) (i : Instance) : Type 0 where
  pub schema : Schema
  pub is_schema : slice_get t.schemas i.schema ≡ Some schema
  pub typed : AreOfTypes t i.objects schema.parameters
  pub compatible : effects_clash i.objects schema.effects ≡ false

-- ---- execution

-- a step by a schema that may not be there
abbrev pub step_of : LiftedTask → Reached → Option Schema → List ℕ → Option Reached
step_of t r None objects = None
step_of t r (Some a) objects = step t r a objects

-- a step by an instance
unfoldable pub step_by : LiftedTask → Reached → Instance → Option Reached
step_by t r i = step_of t r (slice_get t.schemas i.schema) i.objects

-- the steps of a list of instances, one after the other, from a reached state on
abbrev pub exec_from : LiftedTask → Option Reached → List Instance → Option Reached
exec_from t r [] = r
exec_from t r (i ∷ p) = exec_from t (option_and_then (λ r. step_by t r i) r) p

-- execution: where a plan leads, if each of its steps is defined
abbrev pub exec : LiftedTask → List Instance → Option Reached
exec t p = exec_from t (Some (start t)) p

-- ---- validity

-- a plan is valid if it is a list of instances, each of its steps is defined, and the goal holds at
-- the end
pub record IsValid (t : LiftedTask) (p : List Instance) : Type 0 where
  pub instances : All (IsInstance t) p
  pub end : Reached
  pub executes : exec t p ≡ Some end
  pub meets_goal : IsTrue (holds end.state [] t.goal)

-- a valid plan whose steps' costs add up to this
pub record IsValidAt (t : LiftedTask) (p : List Instance) (cost : ℤ) : Type 0 where
  pub valid : IsValid t p
  pub costs : valid.end.cost ≡ Some cost

-- a plan is valid at a cost that is at least this one
pub record CostsAtLeast (t : LiftedTask) (p : List Instance) (least : ℤ) : Type 0 where
  pub cost : ℤ
  pub valid : IsValidAt t p cost
  pub no_less : least ≤ℤ cost

-- a plan is optimal if it is valid at a cost and each valid plan costs at least as much: where the
-- cost of a valid plan is missing, no plan is optimal
pub record IsOptimal (t : LiftedTask) (p : List Instance) : Type 0 where
  pub cost : ℤ
  pub valid : IsValidAt t p cost
  pub least : (q : List Instance) → IsValid t q → CostsAtLeast t q cost

-- no plan is valid, at whatever cost
abbrev pub HasNoPlan : LiftedTask → Type 0
HasNoPlan t = (q : List Instance) → IsValid t q → ⊥

-- ---- costs

-- a plan is valid at no two costs
abbrev pub HasOneCost : LiftedTask → List Instance → Type 0
HasOneCost t p = (c d : ℤ) → IsValidAt t p c → IsValidAt t p d → c ≡ d

-- two plans cost the same if both are optimal
abbrev pub CostTheSame : LiftedTask → List Instance → List Instance → Type 0
CostTheSame t p q = (best : IsOptimal t p) (other : IsOptimal t q) → best.cost ≡ other.cost
