-- What stops leave on a disk, however many there were, and what is found there. (Our own.)
use Rattle.std.specs.Prelude.{◌≡◌, ◌⊎◌, ℕ, List}
use Rattle.hd_task.specs.declared.plan.Kid.{Kid}
use Rattle.hd_store.specs.Device.{Device}
use Rattle.hd_store.specs.Stop.{MayLeave}
use Rattle.hd_image.specs.declared.version.Version.{Version}
use Rattle.hd_image.specs.declared.version.Version.TheVariants.{Two}
use Rattle.hd_image.specs.Image.{IsGroup}
use Rattle.hd_image.specs.Stops.{IsGateClosed, IsBeforeOrAfter, IsMaking, IsOpeningHeader}
use Rattle.hd_world.specs.Stops.{File, first_file, AreGroups, with_appended}

-- what was going on when the first of some stops fell: a journal was being made; or one stood
-- there; or a group was being appended to it
pub data Doing : Type 0 where
  Making : Doing
  Standing : File → Doing
  Appending : File → List Kid → Doing

-- its groups are groups
abbrev pub HasGroups : Doing → Type 0
HasGroups Making = Unit {0}
HasGroups (Standing f) = AreGroups f
HasGroups (Appending f next) = AreGroups f × IsGroup f.version next

-- what the stop leaves then, and each further one that falls while that is opened again
abbrev pub IsLeft : List ℕ → Doing → List ℕ → Type 0
IsLeft digest Making content = IsMaking Two digest content
IsLeft digest (Standing f) content = IsGateClosed f.version digest f.groups content
IsLeft digest (Appending f next) content = IsBeforeOrAfter f.version digest f.groups next content

-- the journals that may be found then
abbrev pub IsFoundAfter : Doing → File → Type 0
IsFoundAfter Making found = found ≡ first_file
IsFoundAfter (Standing f) found = found ≡ f
IsFoundAfter (Appending f next) found = (found ≡ f) ⊎ (found ≡ with_appended next f)

-- what stops leave while a header of this version is opened that has no groups after it: it stands
-- there, whatever its gate reads; or, if that read 0, the header of a new journal is being made
abbrev pub IsHeaderLeft : Version → List ℕ → List ℕ → Type 0
IsHeaderLeft v digest content = IsMaking Two digest content ⊎ IsOpeningHeader v digest content

-- a stop may leave this content of a disk
abbrev pub StopMayLeave : Device → List ℕ → Type 0
StopMayLeave disk content = MayLeave disk.start disk.steps content
