-- What holds of each world that a schedule comes to. (Our own.)
use Rattle.std.specs.Prelude.{◌≡◌, ℕ, ◌≤◌, true, List, Option, Some, None}
use Rattle.hd_task.specs.declared.task.Task.{Task}
use Rattle.hd_zobrist.specs.declared.owners.TheConstants.{MAX_WORKERS}
use Rattle.hd_image.specs.Image.{most_of}
use Rattle.hd_journal.specs.Group.{GroupView}
use Rattle.hd_world.specs.Seats.{Run}
use Rattle.hd_world.specs.Sound.{IsSound}
use Rattle.hd_world.specs.Starting.{run_after}
use Rattle.hd_world.specs.Stops.{File, journal_entries}
use Rattle.hd_world.specs.World.{World, Stopped, Running, is_recovered}
use Rattle.hd_world.specs.Left.{Doing, Standing, Appending, HasGroups, IsLeft, IsFoundAfter}

-- what is going on in a run, as far as its disk knows: a journal stands there, and the group that
-- was pulled may be being appended to it
abbrev pub doing_in : File → Option GroupView → Doing
doing_in f None = Standing f
doing_in f (Some g) = Appending f g.kids

-- a search goes on from each journal that may be found
abbrev pub GoesOnFrom : Task → Doing → Type 0
GoesOnFrom t doing = (f : File) → IsFoundAfter doing f → is_recovered t f ≡ true

-- a search goes on from a journal's entries, with so many workers
pub record IsRunAfter (t : Task) (f : File) (r : Run) : Type 0 where
  pub workers : ℕ
  pub some : 1 ≤ workers
  pub most : workers ≤ MAX_WORKERS
  pub is : r ≡ run_after t (most_of f.version) workers (journal_entries f)

-- what resumptions, of what stops left, come to: what these may have left; or a search that goes
-- on from a journal that may be found
abbrev pub IsGoneOn : Task → List ℕ → Doing → World → Type 0
IsGoneOn t digest doing (Stopped content) = IsLeft digest doing content
IsGoneOn t digest doing (Running f r) = IsFoundAfter doing f × IsRunAfter t f r

-- stops left this of a search, and whatever is found goes on
pub record IsResting (t : Task) (digest content : List ℕ) : Type 0 where
  pub doing : Doing
  pub groups : HasGroups doing
  pub left : IsLeft digest doing content
  pub on : GoesOnFrom t doing

-- a search runs and is sound; or nothing runs, and what is on the disk is what stops left of one
abbrev pub IsSoundWorld : Task → List ℕ → World → Type 0
IsSoundWorld t digest (Stopped content) = IsResting t digest content
IsSoundWorld t digest (Running f r) = IsSound t f r
