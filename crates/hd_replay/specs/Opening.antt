-- How a resumption that is played begins. (Our own.)
use Rattle.std.specs.Prelude.{◌≡◌, ℕ, ◌≤◌, true, List, length, Option, Some, None}
use Rattle.hd_task.specs.declared.task.Task.{Task}
use Rattle.hd_store.specs.declared.store.Store.{Ghosts}
use Rattle.hd_store.specs.declared.memory.MemoryDisk.{MemoryDisk}
use Rattle.hd_store.specs.MemoryDisk.{IsStarted}
use Rattle.hd_image.specs.Image.{most_of}
use Rattle.hd_journal.specs.declared.journal.Journal.{Journal}
use Rattle.hd_journal.specs.Calls.{Call}
use Rattle.hd_world.specs.declared.moves.StopAt.{StopAt}
use Rattle.hd_world.specs.Seats.{Run}
use Rattle.hd_world.specs.Starting.{run_after}
use Rattle.hd_world.specs.Stops.{File, Opens, at_rest, journal_entries, stopped_in}
use Rattle.hd_world.specs.World.{IsBeforeStop, is_recovered}
use Rattle.hd_world.specs.Filling.{Filled}
use Rattle.hd_replay.specs.declared.opening.OpenedJournal.{OpenedJournal}
use Rattle.hd_replay.specs.declared.opening.OpenedJournal.TheVariants.{Whole, Cut}
use Rattle.hd_replay.specs.Journals.{StandsAs}

-- a journal was opened on a disk that holds this, and no stop falls within the calls that opened
-- it
pub record OpensBefore {S : Type 0} {G : Ghosts S} (digest content : List ℕ) (stop : Option StopAt) (journal : Journal S G) : Type 0 where
  pub calls : List Call
  pub file : File
  pub opens : Opens digest content calls file
  pub behind : IsBeforeStop stop (length calls)
  pub stands : StandsAs digest file journal

-- a stop fell within the calls that open it, and left this disk
pub record IsCut (digest content : List ℕ) (stop : Option StopAt) (disk : MemoryDisk) : Type 0 where
  pub calls : List Call
  pub file : File
  pub at : StopAt
  pub left : List ℕ
  pub opens : Opens digest content calls file
  pub is : stop ≡ Some at
  pub within : at.call ≤ length calls
  pub leaves : Filled (stopped_in (at_rest content) calls at.call) at.byte left
  pub started : IsStarted disk left

-- what an opening comes to of a disk that holds this
abbrev pub IsOpenedBy : List ℕ → List ℕ → Option StopAt → OpenedJournal → Type 0
IsOpenedBy digest content stop (Whole journal) = OpensBefore digest content stop journal
IsOpenedBy digest content stop (Cut disk) = IsCut digest content stop disk

-- the run that begins with a journal's entries, which are not too many, and of which none is
-- faulty
pub record IsRunOf (t : Task) (f : File) (workers : ℕ) (r : Run) : Type 0 where
  pub recovered : is_recovered t f ≡ true
  pub is : r ≡ run_after t (most_of f.version) workers (journal_entries f)
