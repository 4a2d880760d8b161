-- What is on the disk while a search runs, what a stop leaves of it, and what opens it again.
-- (Our own.)
use Rattle.std.specs.Prelude.{◌≡◌, ◌≢◌, ℕ, zero, suc, ◌==◌, Bool, ◌&&◌, if◌then◌else◌, List, [], ◌∷◌, ◌++◌, length, Option, Some, None}
use Rattle.std.specs.List.{list_all, AllByRecursion}
use Rattle.hd_task.specs.declared.plan.Kid.{Kid}
use Rattle.hd_store.specs.declared.ahead.Ahead.TheVariants.{Unknown}
use Rattle.hd_store.specs.Device.{Device}
use Rattle.hd_store.specs.Stop.{MayLeave}
use Rattle.hd_image.specs.declared.version.Version.{Version}
use Rattle.hd_image.specs.declared.version.Version.TheVariants.{Two}
use Rattle.hd_image.specs.declared.header.TheConstants.{FIRST_GATE}
use Rattle.hd_image.specs.declared.contents.Found.{Found}
use Rattle.hd_image.specs.declared.error.ImageError.{ImageError}
use Rattle.hd_image.specs.declared.error.ImageError.TheVariants.{NoMemory}
use Rattle.hd_image.specs.Image.{IsGroup, fits_parent, front, image, entries_in}
use Rattle.hd_image.specs.Reading.{IsFound, IsRefused}
use Rattle.hd_journal.specs.Copy.{kids_in}
use Rattle.hd_journal.specs.Calls.{Call, after_call}
use Rattle.hd_journal.specs.Calls.Call.{Writing, Cutting, Syncing}
use Rattle.hd_journal.specs.Group.{GroupView}
use Rattle.hd_journal.specs.Journal.{append_calls, open_calls, version_in, found_in}

-- ---- the journal of a run

-- a journal: its version, and its groups
pub record File : Type 0 where
  pub version : Version
  pub groups : List (List Kid)

-- the journal that is made where none stands
abbrev pub first_file : File
first_file = record { version = Two; groups = [] }

-- the groups of a journal are groups of its version
abbrev pub AreGroups : File → Type 0
AreGroups f = AllByRecursion (IsGroup f.version) f.groups

-- the entries of a journal, in order
abbrev pub journal_entries : File → List Kid
journal_entries f = kids_in f.groups

-- a journal with one group more
abbrev pub with_appended : List Kid → File → File
with_appended kids f = record { version = f.version; groups = f.groups ++ kids ∷ [] }

-- the bytes of a journal
abbrev pub journal_bytes : List ℕ → File → List ℕ
journal_bytes digest f = image f.version digest f.groups

-- a group may be appended: it begins where the entries end, and each parent may be written
abbrev pub is_next : File → GroupView → Bool
is_next f g = (g.first == length (journal_entries f)) && list_all (λ (k : Kid). fits_parent f.version k.parent) g.kids

-- ---- a stop

-- a disk that is at rest and holds these bytes
abbrev pub at_rest : List ℕ → Device
at_rest content = record { start = content; steps = []; failures = 0; changes = Unknown; reads = Unknown }

-- the disk that a stop within a call finds: a write or a cut was begun, a sync has made nothing
-- sure
abbrev pub within_call : Device → Call → Device
within_call disk (Writing at bytes) = after_call disk (Writing at bytes)
within_call disk (Cutting len) = after_call disk (Cutting len)
within_call disk Syncing = disk

-- the disk that a stop finds within the call of a number, counted from 1; within the call 0 it
-- finds the disk before them all
abbrev pub stopped_in : Device → List Call → ℕ → Device
stopped_in disk calls zero = disk
stopped_in disk [] (suc number) = disk
stopped_in disk (call ∷ calls) (suc zero) = within_call disk call
stopped_in disk (call ∷ calls) (suc (suc number)) = stopped_in (after_call disk call) calls (suc number)

-- what a stop leaves of a disk, where a schedule names a byte
abbrev pub Leaving : Type 1
Leaving = Device → ℕ → List ℕ → Type 0

-- whatever a stop may leave
abbrev pub Anything : Leaving
Anything disk byte content = MayLeave disk.start disk.steps content

-- the calls that append a group to a journal; none where no group was pulled, or this one may not
-- be appended
abbrev pub appending : File → List ℕ → Option GroupView → List Call
appending f digest None = []
appending f digest (Some g) =
    if is_next f g then append_calls f.version (length (front f.version digest f.groups)) g.kids else []

-- ---- opening

-- a content is opened: these calls mend what is found in it, or make it, and this journal is
-- there then
pub record Opens (digest content : List ℕ) (calls : List Call) (f : File) : Type 0 where
  pub found : Found
  pub is : IsFound digest content found
  pub mend : calls ≡ open_calls digest found
  pub version : f.version ≡ version_in found
  pub sound : AreGroups f
  pub entries : found_in found ≡ entries_in f.version FIRST_GATE f.groups

-- a content is refused: something is said against it
pub record IsUnopened (digest content : List ℕ) : Type 0 where
  pub error : ImageError
  pub of_content : error ≢ NoMemory
  pub why : IsRefused digest content error
