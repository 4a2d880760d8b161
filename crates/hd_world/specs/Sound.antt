-- When a running search is sound. (Our own.)
use Rattle.hd_task.specs.declared.task.Task.{Task}
use Rattle.hd_world.specs.Seats.{Run}
use Rattle.hd_world.specs.Stops.{File}
use Rattle.hd_world.specs.Truth.{IsTrueRun}
use Rattle.hd_world.specs.Once.{IsOnce}
use Rattle.hd_world.specs.Order.{AreTicketsOut, HaveRoom, InOrder}

-- all that a run holds is true of its book, each successor is in one place at most, each ticket is
-- out, the workers have room for what their tickets release, and the run is in order with its
-- journal
pub record IsSound (t : Task) (f : File) (r : Run) : Type 0 where
  pub truth : IsTrueRun t r
  pub once : IsOnce r
  pub tickets : AreTicketsOut r
  pub rooms : HaveRoom r
  pub order : InOrder f r
