-- A run that is played, over its journal on a disk in memory. (Our own.)
use Rattle.std.specs.Prelude.{◌≡◌, ℕ, ◌-◌, nat_le, if◌then◌else◌, List, [], Option, Some, None}
use Rattle.hd_task.specs.declared.task.Task.{Task}
use Rattle.hd_store.specs.declared.store.Store.{Ghosts}
use Rattle.hd_store.specs.declared.ahead.Ahead.TheVariants.{Stops, Well}
use Rattle.hd_store.specs.declared.memory.MemoryDisk.{MemoryDisk}
use Rattle.hd_store.specs.Device.{Device}
use Rattle.hd_store.specs.MemoryDisk.{IsStarted}
use Rattle.hd_journal.specs.declared.journal.Journal.{Journal}
use Rattle.hd_journal.specs.Group.{GroupView}
use Rattle.hd_journal.specs.Journal.{IsOf, device_of}
use Rattle.hd_journal.specs.Moments.{IsSettled}
use Rattle.hd_world.specs.declared.moves.Move.{Move}
use Rattle.hd_world.specs.declared.moves.Move.TheVariants as moves
use Rattle.hd_world.specs.declared.moves.StopAt.{StopAt}
use Rattle.hd_world.specs.Seats.{Run}
use Rattle.hd_world.specs.Stops.{File, at_rest, journal_bytes, stopped_in, appending}
use Rattle.hd_world.specs.World.{Running, flushed_to, StepsTo}
use Rattle.hd_world.specs.Sound.{IsSound}
use Rattle.hd_world.specs.Filling.{Filled}

-- a journal stands as this file, and all of it is made sure of
pub record StandsAs {S : Type 0} {G : Ghosts S} (digest : List ℕ) (f : File) (journal : Journal S G) : Type 0 where
  pub is_of : IsOf digest f.groups journal
  pub version : journal.version ≡ f.version
  pub settled : IsSettled (device_of journal)

-- a sound run goes on over a journal
pub record Runs {S : Type 0} {G : Ghosts S} (t : Task) (digest : List ℕ) (f : File) (journal : Journal S G) (r : Run) : Type 0 where
  pub sound : IsSound t f r
  pub stands : StandsAs digest f journal

-- what a flush makes of a run and of its journal
pub record Flushes {S : Type 0} {G : Ghosts S} (digest : List ℕ) (f : File) (r : Run) (journal' : Journal S G) (r' : Run) : Type 0 where
  pub file : File
  pub flushed : flushed_to f r r.group ≡ Running file r'
  pub stands : StandsAs digest file journal'

-- a move of a run that goes on after it
pub record Goes {S : Type 0} {G : Ghosts S} (t : Task) (digest : List ℕ) (f : File) (r : Run) (m : Move) (journal' : Journal S G) (r' : Run) : Type 0 where
  pub file : File
  pub steps : StepsTo Filled t digest (Running f r) m (Running file r')
  pub runs : Runs t digest file journal' r'

-- ---- stops

-- how many calls append the group that was pulled, if one was
abbrev pub calls_in : Option GroupView → ℕ
calls_in None = 0
calls_in (Some g) = 4

-- the stop that a move is, if it falls in one of these calls, or before them
abbrev pub stop_in : Option GroupView → Move → Option StopAt
stop_in group (moves.Resume workers stop) = None
stop_in group (moves.Pop k) = None
stop_in group (moves.Take k) = None
stop_in group (moves.Expand k place) = None
stop_in group (moves.Commit k) = None
stop_in group (moves.Redeem k) = None
stop_in group (moves.Push k) = None
stop_in group (moves.Offer k) = None
stop_in group (moves.Load k) = None
stop_in group moves.Pull = None
stop_in group moves.Flush = None
stop_in group moves.Ack = None
stop_in group (moves.Stop stop) = if nat_le stop.call (calls_in group) then Some stop else None

-- a journal stands as this file on a disk that was started again, and whose machine stops in the
-- call of a number, counted from 1
pub record Stopping {S : Type 0} {G : Ghosts S} (digest : List ℕ) (f : File) (call : ℕ) (journal : Journal S G) : Type 0 where
  pub is_of : IsOf digest f.groups journal
  pub version : journal.version ≡ f.version
  pub device : device_of journal ≡ record { start = journal_bytes digest f; steps = []; failures = 0; changes = Stops (call - 1); reads = Well }

-- a stop within the call of a number, of those that append a group, left this disk
abbrev pub StopsAs : List ℕ → File → GroupView → ℕ → ℕ → MemoryDisk → Type 0
StopsAs digest f g call byte disk =
    (content : List ℕ) × IsStarted disk content × Filled (stopped_in (at_rest (journal_bytes digest f)) (appending f digest (Some g)) call) byte content
