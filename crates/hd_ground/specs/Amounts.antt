-- Which instances add more amounts to the cost than an action may. (Our own.)
use Rattle.std.specs.Prelude.{◌≡◌, ◌<◌, ℕ, List, length, filter, Contains, Some, slice_get}
use Rattle.hd_lifted.specs.declared.instance.Instance.{Instance}
use Rattle.hd_lifted.specs.declared.schema.Schema.{Schema}
use Rattle.hd_lifted.specs.declared.task.LiftedTask.{LiftedTask}
use Rattle.hd_task.specs.declared.task.TheConstants.{MAX_AMOUNTS}
use Rattle.hd_lifted.specs.Questions.{is_paid}

-- how many amounts a schema adds to the cost
abbrev pub amounts_of : Schema → ℕ
amounts_of a = length (filter is_paid a.effects)

-- one of these instances adds more amounts to the cost than an action may
pub record HasMoreAmountsIn (t : LiftedTask) (instances : List Instance) : Type 0 where
  pub instance : Instance
  pub among : Contains instances instance
  pub schema : Schema
  pub is_schema : slice_get t.schemas instance.schema ≡ Some schema
  pub more : MAX_AMOUNTS < amounts_of schema
