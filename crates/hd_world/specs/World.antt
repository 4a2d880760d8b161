-- Schedules, and the world in which they are played: a search that runs over its journal, or
-- nothing but a disk. (Our own.)
use Rattle.std.specs.Prelude.{◌≡◌, ◌⊎◌, ℕ, ◌<◌, ◌≤◌, Bool, true, not, ◌&&◌, nat_le, if◌then◌else◌, List, [], ◌∷◌, length, Option, Some, None, is_some}
use Rattle.hd_task.specs.declared.task.Task.{Task}
use Rattle.hd_zobrist.specs.declared.owners.TheConstants.{MAX_WORKERS}
use Rattle.hd_entries.specs.Resuming.{first_fault}
use Rattle.hd_image.specs.Image.{most_of}
use Rattle.hd_journal.specs.Calls.{Call}
use Rattle.hd_journal.specs.Group.{GroupView}
use Rattle.hd_world.specs.declared.moves.Move.{Move}
use Rattle.hd_world.specs.declared.moves.Move.TheVariants.{Resume, Pop, Take, Expand, Commit, Redeem, Push, Offer, Load, Pull, Flush, Ack, Stop}
use Rattle.hd_world.specs.declared.moves.StopAt.{StopAt}
use Rattle.hd_world.specs.Seats.{Run}
use Rattle.hd_world.specs.Moves.{TurnsTo, EndsRun}
use Rattle.hd_world.specs.Starting.{run_after}
use Rattle.hd_world.specs.Stops.{File, first_file, AreGroups, journal_entries, with_appended, journal_bytes, is_next, at_rest, stopped_in, Leaving, appending, Opens, IsUnopened}

-- nothing runs, and the disk holds these bytes; or a search runs, over this journal
pub data World : Type 0 where
  Stopped : List ℕ → World
  Running : File → Run → World

-- ---- `flush`

-- the group that was pulled is appended, if it may be
abbrev pub flushed_to : File → Run → Option GroupView → World
flushed_to f r None = Running f r
flushed_to f r (Some g) =
    if is_next f g then Running (with_appended g.kids f) (record r { group = None; flushed = Some g }) else Running f r

-- ---- `stop`

-- a stop falls now, or within a call that appends the group that was pulled; it does nothing
-- if there is no such call
pub data StopsIn (leaves : Leaving) (digest : List ℕ) (f : File) (r : Run) (stop : StopAt) (w' : World) : Type 0 where
  Falls :
      (content : List ℕ) → stop.call ≤ length (appending f digest r.group)
      → leaves (stopped_in (at_rest (journal_bytes digest f)) (appending f digest r.group) stop.call) stop.byte content → w' ≡ Stopped content
      → StopsIn leaves digest f r stop w'
  IsNone : length (appending f digest r.group) < stop.call → w' ≡ Running f r → StopsIn leaves digest f r stop w'

-- ---- `resume`

-- there may be so many workers, and a stop falls within a call
abbrev pub MayResume : ℕ → Option StopAt → Type 0
MayResume workers None = (1 ≤ workers) × (workers ≤ MAX_WORKERS)
MayResume workers (Some stop) = (1 ≤ workers) × (workers ≤ MAX_WORKERS) × (1 ≤ stop.call)

-- the search goes on from a journal's entries: they are not too many, and none is faulty
abbrev pub is_recovered : Task → File → Bool
is_recovered t f = nat_le (length (journal_entries f)) (most_of f.version) && not (is_some (first_fault t [] (journal_entries f)))

-- what is there where a journal is open: the search after its entries; or nothing runs, where
-- they are refused
abbrev pub recovered : Task → List ℕ → ℕ → File → World
recovered t digest workers f =
    if is_recovered t f then Running f (run_after t (most_of f.version) workers (journal_entries f)) else Stopped (journal_bytes digest f)

-- no stop falls within so many calls
abbrev pub IsBeforeStop : Option StopAt → ℕ → Type 0
IsBeforeStop None calls = Unit {0}
IsBeforeStop (Some stop) calls = calls < stop.call

-- a resumption: it is not possible; or the file is refused; or a stop falls within a call that
-- opens it; or it is opened, and the search goes on from its entries
pub data ResumesTo (leaves : Leaving) (t : Task) (digest content : List ℕ) (workers : ℕ) (stop : Option StopAt) (w' : World) : Type 0 where
  IsNot : (MayResume workers stop → ⊥) → w' ≡ Stopped content → ResumesTo leaves t digest content workers stop w'
  IsRefused : MayResume workers stop → IsUnopened digest content → w' ≡ Stopped content → ResumesTo leaves t digest content workers stop w'
  IsStopped :
      (calls : List Call) (f : File) (at : StopAt) (left : List ℕ) → MayResume workers stop → Opens digest content calls f → stop ≡ Some at
      → at.call ≤ length calls → leaves (stopped_in (at_rest content) calls at.call) at.byte left → w' ≡ Stopped left
      → ResumesTo leaves t digest content workers stop w'
  IsOpened :
      (calls : List Call) (f : File) → MayResume workers stop → Opens digest content calls f → IsBeforeStop stop (length calls)
      → w' ≡ recovered t digest workers f → ResumesTo leaves t digest content workers stop w'

-- ---- moves

-- a move of the running search itself
abbrev pub MovesRunning : Task → List ℕ → File → Run → Move → World → Type 0
MovesRunning t digest f r m w' =
    ((r' : Run) × TurnsTo t r m r' × (w' ≡ Running f r')) ⊎ (EndsRun r m × (w' ≡ Stopped (journal_bytes digest f)))

-- what a move makes of a world in which a search runs
abbrev pub StepsOn : Leaving → Task → List ℕ → File → Run → Move → World → Type 0
StepsOn leaves t digest f r (Resume workers stop) w' = w' ≡ Running f r
StepsOn leaves t digest f r (Pop k) w' = MovesRunning t digest f r (Pop k) w'
StepsOn leaves t digest f r (Take k) w' = MovesRunning t digest f r (Take k) w'
StepsOn leaves t digest f r (Expand k place) w' = MovesRunning t digest f r (Expand k place) w'
StepsOn leaves t digest f r (Commit k) w' = MovesRunning t digest f r (Commit k) w'
StepsOn leaves t digest f r (Redeem k) w' = MovesRunning t digest f r (Redeem k) w'
StepsOn leaves t digest f r (Push k) w' = MovesRunning t digest f r (Push k) w'
StepsOn leaves t digest f r (Offer k) w' = MovesRunning t digest f r (Offer k) w'
StepsOn leaves t digest f r (Load k) w' = MovesRunning t digest f r (Load k) w'
StepsOn leaves t digest f r Pull w' = MovesRunning t digest f r Pull w'
StepsOn leaves t digest f r Flush w' = w' ≡ flushed_to f r r.group
StepsOn leaves t digest f r Ack w' = MovesRunning t digest f r Ack w'
StepsOn leaves t digest f r (Stop stop) w' = StopsIn leaves digest f r stop w'

-- what a move makes of a world in which nothing runs
abbrev pub StepsFrom : Leaving → Task → List ℕ → List ℕ → Move → World → Type 0
StepsFrom leaves t digest content (Resume workers stop) w' = ResumesTo leaves t digest content workers stop w'
StepsFrom leaves t digest content (Pop k) w' = w' ≡ Stopped content
StepsFrom leaves t digest content (Take k) w' = w' ≡ Stopped content
StepsFrom leaves t digest content (Expand k place) w' = w' ≡ Stopped content
StepsFrom leaves t digest content (Commit k) w' = w' ≡ Stopped content
StepsFrom leaves t digest content (Redeem k) w' = w' ≡ Stopped content
StepsFrom leaves t digest content (Push k) w' = w' ≡ Stopped content
StepsFrom leaves t digest content (Offer k) w' = w' ≡ Stopped content
StepsFrom leaves t digest content (Load k) w' = w' ≡ Stopped content
StepsFrom leaves t digest content Pull w' = w' ≡ Stopped content
StepsFrom leaves t digest content Flush w' = w' ≡ Stopped content
StepsFrom leaves t digest content Ack w' = w' ≡ Stopped content
StepsFrom leaves t digest content (Stop stop) w' = w' ≡ Stopped content

-- what a move makes of a world
abbrev pub StepsTo : Leaving → Task → List ℕ → World → Move → World → Type 0
StepsTo leaves t digest (Stopped content) m w' = StepsFrom leaves t digest content m w'
StepsTo leaves t digest (Running f r) m w' = StepsOn leaves t digest f r m w'

-- what a schedule makes of a world
abbrev pub Plays : Leaving → Task → List ℕ → World → List Move → World → Type 0
Plays leaves t digest w [] w' = w' ≡ w
Plays leaves t digest w (m ∷ moves) w' = (v : World) × StepsTo leaves t digest w m v × Plays leaves t digest v moves w'

-- What a schedule begins with: an empty disk, on which the first resumption makes a journal; or
-- the journal of an earlier search of the task, of either version, from whose entries a search
-- goes on. Both hold a search: that after the entries of the journal.
pub data IsBeginning (t : Task) (digest content : List ℕ) (f : File) : Type 0 where
  IsEmpty : content ≡ [] → f ≡ first_file → IsBeginning t digest content f
  IsJournal : content ≡ journal_bytes digest f → AreGroups f → is_recovered t f ≡ true → IsBeginning t digest content f

-- a schedule over a disk that holds this comes to this world
abbrev pub LeadsTo : Leaving → Task → List ℕ → List ℕ → List Move → World → Type 0
LeadsTo leaves t digest start moves w = Plays leaves t digest (Stopped start) moves w
