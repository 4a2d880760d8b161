-- What a search looks up. (Our own.)
use Rattle.std.specs.Prelude.{◌≡◌}
use Rattle.hd_task.specs.declared.task.Task.{Task}
use Rattle.hd_worker.specs.declared.lookup.Lookup.{Lookup}

-- it is of a task
pub record IsLookupOf (t : Task) (x : Lookup) : Type 0 where
  pub index : x.successors.task ≡ t
  pub estimates : x.hmax.task ≡ t
