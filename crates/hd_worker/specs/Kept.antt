-- What a worker keeps. (Our own.)
use Rattle.std.specs.Prelude.{◌≡◌, ℕ, ◌+◌, ◌<◌, ◌≤◌, Bool, if◌then◌else◌, List, length}
use Rattle.std.specs.List.{AllByRecursion}
use Rattle.hd_task.specs.declared.task.Task.{Task}
use Rattle.hd_zobrist.specs.declared.owners.TheConstants.{MAX_WORKERS}
use Rattle.hd_node.specs.declared.batch.Outcome.{Outcome}
use Rattle.hd_node.specs.declared.batch.TheConstants.{MAX_OUTCOMES}
use Rattle.hd_node.specs.Parcel.{ParcelView}
use Rattle.hd_entries.specs.Settling.{IsOutcomeOfTask}
use Rattle.hd_entries.specs.Holding.{IsParcelOf}
use Rattle.hd_worker.specs.Frontier.{FrontierView}

-- the place that a parcel which may come back takes
abbrev pub lent_room : Bool → ℕ
lent_room lent = if lent then 1 else 0

-- what the parts of a worker keep, where so many parcels are in the outbox and there is room for so
-- many
pub record IsWorker (t : Task) (id workers : ℕ) (f : FrontierView) (given : List ℕ) (outcomes : List Outcome) (outbox : List ParcelView) (len capacity : ℕ) (lent : Bool) : Type 0 where
  pub of_task : f.task ≡ t
  pub within : id < workers
  pub few : workers ≤ MAX_WORKERS
  pub ranks_few : AllByRecursion (λ rank. rank < MAX_OUTCOMES) given
  pub given_few : length given ≤ MAX_OUTCOMES
  pub outcomes_of : AllByRecursion (IsOutcomeOfTask t) outcomes
  pub parcels_of : AllByRecursion (IsParcelOf t) outbox
  pub room_for : len + (f.room + lent_room lent) ≤ capacity
