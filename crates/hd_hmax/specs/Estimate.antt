-- Estimates, as contracts see them. (A*, Hart, Nilsson and Raphael 1968.)
use Rattle.std.specs.Prelude.{◌≡◌}
use Rattle.hd_task.specs.declared.state.State.{State}
use Rattle.hd_task.specs.declared.task.Task.{Task}
use Rattle.hd_hmax.specs.declared.estimate.EstimateValue.{EstimateValue}
use Rattle.hd_hmax.specs.Value.{estimated}
use Rattle.hd_hmax.specs.Rounds.{hmax}

-- an estimate: its task and state, and its value
pub record EstimateView : Type 0 where
  pub task : Task
  pub state : State
  pub value : EstimateValue
  -- the value is that of the state
  pub estimates : estimated value ≡ hmax task state
