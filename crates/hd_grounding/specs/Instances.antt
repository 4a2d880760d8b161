-- The plans of a domain that the plans of its task stand for. (Our own.)
use Rattle.std.specs.Prelude.{◌≡◌, ℕ, List, Option, Some, option_map, slice_get}
use Rattle.std.specs.List.{filter_map}
use Rattle.hd_lifted.specs.declared.instance.Instance.{Instance}
use Rattle.hd_task.specs.declared.action.Action.{Action}
use Rattle.hd_task.specs.declared.task.Task.{Task}
use Rattle.hd_task.specs.Plans.{IsValidAt}

-- the instance of an action: the schema and the objects that it is named by
abbrev pub instance_of : Action → Instance
instance_of a = record { schema = a.form.symbol; objects = a.form.objects }

-- the instance of the action with a number, if there is such an action
abbrev pub instance_at : Task → ℕ → Option Instance
instance_at u n = option_map instance_of (slice_get u.actions n)

-- the instances of a plan's actions, in order; a number without an action has none, and no plan
-- that is executed has such a number
abbrev pub instances_of : Task → List ℕ → List Instance
instances_of u p = filter_map (instance_at u) p

-- a plan of the domain is that of a plan which is valid in the task, at some cost
pub record IsOfValidPlan (u : Task) (q : List Instance) : Type 0 where
  pub plan : List ℕ
  pub is : instances_of u plan ≡ q
  pub cost : ℕ
  pub valid : IsValidAt u plan cost

-- an instance is that of an action of the task
pub record HasAction (u : Task) (i : Instance) : Type 0 where
  pub number : ℕ
  pub is : instance_at u number ≡ Some i
