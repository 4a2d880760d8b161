-- What the parts of a run keep. (Our own.)
use Rattle.std.specs.Prelude.{◌≡◌, ℕ, ◌≤◌, List, length, Option, Some, None}
use Rattle.std.specs.List.{AllByRecursion}
use Rattle.hd_task.specs.declared.task.Task.{Task}
use Rattle.hd_zobrist.specs.declared.owners.TheConstants.{MAX_WORKERS}
use Rattle.hd_node.specs.Parcel.{ParcelView}
use Rattle.hd_entries.specs.Holding.{IsParcelOf}
use Rattle.hd_journal.specs.Group.{GroupView}
use Rattle.hd_world.specs.Seats.{Run}
use Rattle.hd_world.specs.Stops.{File}
use Rattle.hd_world.specs.Sound.{IsSound}
use Rattle.hd_replay.specs.declared.run.Out.{Out}
use Rattle.hd_replay.specs.declared.run.Out.TheVariants.{Nothing, Pulled, Flushed}

-- parcels are of a task
abbrev pub AreParcelsOf : Task → List ParcelView → Type 0
AreParcelsOf t parcels = AllByRecursion (IsParcelOf t) parcels

-- for so many workers, of which there are some and not too many, there are as many mailboxes, and
-- the parcels in them are of a task
pub record AreBoxesOf (t : Task) (workers : ℕ) (boxes : List (List ParcelView)) : Type 0 where
  pub parcels : AllByRecursion (AreParcelsOf t) boxes
  pub one_each : length boxes ≡ workers
  pub any : 1 ≤ workers
  pub few : workers ≤ MAX_WORKERS

-- the group that is out and not appended yet, and the one that is appended and not acknowledged
-- yet
abbrev pub pulled_in : Out → Option GroupView
pulled_in Nothing = None
pulled_in (Pulled g) = Some g
pulled_in (Flushed g) = None

-- the group that is appended and not acknowledged yet, if there is one
abbrev pub flushed_in : Out → Option GroupView
flushed_in Nothing = None
flushed_in (Pulled g) = None
flushed_in (Flushed g) = Some g

-- a run is sound over a journal
abbrev pub IsSoundRun : Run → Type 0
IsSoundRun r = (f : File) × IsSound r.book.state.task f r
