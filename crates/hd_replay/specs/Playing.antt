-- What a schedule comes to that is played. (Our own.)
use Rattle.std.specs.Prelude.{◌≡◌, ℕ, ◌≤◌, List, [], ◌∷◌, length, drop, Option, Some, None}
use Rattle.hd_task.specs.declared.task.Task.{Task}
use Rattle.hd_store.specs.declared.memory.MemoryDisk.{MemoryDisk}
use Rattle.hd_store.specs.Device.{content_of}
use Rattle.hd_store.specs.MemoryDisk.{device_of, IsStarted}
use Rattle.hd_world.specs.declared.moves.Move.{Move}
use Rattle.hd_world.specs.declared.moves.Move.TheVariants.{Resume}
use Rattle.hd_world.specs.declared.moves.StopAt.{StopAt}
use Rattle.hd_world.specs.Seats.{Run}
use Rattle.hd_world.specs.Stops.{File, journal_bytes}
use Rattle.hd_world.specs.World.{World, Stopped as Rests, Running, StopsIn, StepsTo, Plays}
use Rattle.hd_world.specs.Filling.{Filled}
use Rattle.hd_replay.specs.declared.playing.Played.{Played}
use Rattle.hd_replay.specs.declared.playing.Played.TheVariants.{Stopped, Ended, Failed}
use Rattle.hd_replay.specs.declared.report.Report.{Report}
use Rattle.hd_replay.specs.Reporting.{IsReportOf, IsTrueIfSaid}

-- ---- a schedule's end

-- A schedule that is played from a world comes to this run over this journal: at its last move,
-- or, if nothing runs after that, at a resumption with one worker.
pub data ComesTo (t : Task) (digest : List ℕ) (w : World) (moves : List Move) (f : File) (r : Run) : Type 0 where
  AtTheEnd : Plays Filled t digest w moves (Running f r) → ComesTo t digest w moves f r
  IsFollowed :
      (content : List ℕ) → Plays Filled t digest w moves (Rests content) → StepsTo Filled t digest (Rests content) (Resume 1 None) (Running f r)
      → ComesTo t digest w moves f r

-- The report is that of the run that a schedule comes to, which begins with a disk that holds
-- this; each stop leaves the bytes that are not sure as the schedule names them, and the greatest
-- length. What it says is true, and this is on the disk then.
pub record IsReported (t : Task) (digest content : List ℕ) (moves : List Move) (left : List ℕ) (report : Report) : Type 0 where
  pub file : File
  pub run : Run
  pub comes : ComesTo t digest (Rests content) moves file run
  pub is : IsReportOf digest file run report
  pub truth : IsTrueIfSaid t report.verdict
  pub disk : left ≡ journal_bytes digest file

-- ---- parts of it

-- a run is at the end of a schedule: its report, and its disk
pub record IsEndOf (t : Task) (digest : List ℕ) (f : File) (r : Run) (disk : MemoryDisk) (report : Report) : Type 0 where
  pub is : IsReportOf digest f r report
  pub truth : IsTrueIfSaid t report.verdict
  pub disk_is : content_of (device_of disk) ≡ journal_bytes digest f

-- moves were played up to a stop, which left this disk: what the moves after so many of them
-- come to from there, all come to
pub record IsStoppedAt (t : Task) (digest : List ℕ) (w : World) (all moves : List Move) (disk : MemoryDisk) (count : ℕ) : Type 0 where
  pub few : count ≤ length moves
  pub content : List ℕ
  pub started : IsStarted disk content
  pub goes : (u : World) → Plays Filled t digest (Rests content) (drop count moves) u → Plays Filled t digest w all u

-- all were played, and a run goes on: its report, and its disk
pub record IsEndedBy (t : Task) (digest : List ℕ) (w : World) (all : List Move) (disk : MemoryDisk) (report : Report) : Type 0 where
  pub file : File
  pub run : Run
  pub plays : Plays Filled t digest w all (Running file run)
  pub end : IsEndOf t digest file run disk report

-- what moves come to, of which the last are `moves`
abbrev pub PlaysTo : Task → List ℕ → World → List Move → List Move → Played → Type 0
PlaysTo t digest w all moves (Stopped disk count) = IsStoppedAt t digest w all moves disk count
PlaysTo t digest w all moves (Ended disk report) = IsEndedBy t digest w all disk report
PlaysTo t digest w all moves (Failed fault) = Unit {0}

-- what the end of a schedule comes to, where a run goes on
abbrev pub EndsTo : Task → List ℕ → File → Run → Played → Type 0
EndsTo t digest f r (Stopped disk count) = ⊥
EndsTo t digest f r (Ended disk report) = IsEndOf t digest f r disk report
EndsTo t digest f r (Failed fault) = Unit {0}

-- a stop left this disk
abbrev pub IsStop : List ℕ → File → Run → StopAt → MemoryDisk → Type 0
IsStop digest f r at disk = (content : List ℕ) × IsStarted disk content × StopsIn Filled digest f r at (Rests content)

-- a move does nothing while nothing runs
abbrev pub DoesNothing : Move → Type 0
DoesNothing m = (t : Task) (digest content : List ℕ) → StepsTo Filled t digest (Rests content) m (Rests content)
