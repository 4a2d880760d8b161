-- Groups as contracts see them. (Our own.)
use Rattle.std.specs.Prelude.{ℕ, List}
use Rattle.hd_task.specs.declared.plan.Kid.{Kid}

-- the number of the first entry, and the pairs
pub record GroupView : Type 0 where
  pub first : ℕ
  pub kids : List Kid
