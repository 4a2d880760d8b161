-- Where a search is kept, and what a file holds of it before and afterwards. (Our own.)
use Rattle.std.specs.Prelude.{◌≡◌, ◌≢◌, ◌⊎◌, ℕ, ◌+◌, ◌<◌, ◌≤◌, Bool, true, false, List, [], ◌++◌, length, map, slice_index, Option, IfSome, Result, Err, if◌then◌else◌}
use Rattle.std.specs.List.{AllByRecursion}
use Rattle.hd_task.specs.declared.task.Task.{Task}
use Rattle.hd_task.specs.declared.plan.Kid.{Kid}
use Rattle.hd_store.specs.declared.store.Store.{Ghosts}
use Rattle.hd_store.specs.declared.error.StoreError.{StoreError}
use Rattle.hd_store.specs.Device.{Device, content_of}
use Rattle.hd_image.specs.declared.version.Version.{Version}
use Rattle.hd_image.specs.declared.version.Version.TheVariants.{Two}
use Rattle.hd_image.specs.declared.contents.Contents.{Contents}
use Rattle.hd_image.specs.declared.contents.Found.{Found}
use Rattle.hd_image.specs.declared.contents.Found.TheVariants as contents
use Rattle.hd_image.specs.declared.header.TheConstants.{FIRST_GATE}
use Rattle.hd_image.specs.declared.error.ImageError.TheVariants as image
use Rattle.hd_image.specs.Image.{IsGroup, entries_in, image, most_of}
use Rattle.hd_image.specs.Reading.{IsFound, IsRefused}
use Rattle.hd_image.specs.Stops.{IsBeforeOrAfter, IsMaking}
use Rattle.hd_journal.specs.declared.error.JournalError.{JournalError}
use Rattle.hd_journal.specs.declared.error.JournalError.TheVariants as journal
use Rattle.hd_journal.specs.declared.journal.Journal as of
use Rattle.hd_journal.specs.Answers.{StandsIn}
use Rattle.hd_journal.specs.Journal.{IsOf, device_of, kid_of, found_in, version_in}
use Rattle.hd_journal.specs.Moments.{IsSettled}
use Rattle.hd_entries.specs.Resuming.{AreLegal}
use Rattle.hd_journal.specs.Copy.{kids_in}
use Rattle.hd_threads.specs.declared.fault.RunFault.{RunFault}
use Rattle.hd_threads.specs.declared.fault.RunFault.TheVariants as searching
use Rattle.hd_certify.specs.Error.{IsDamagedAt}
use Rattle.hd_node.specs.declared.batch.TheConstants.{MAX_OUTCOMES}
use Rattle.hd_threads.specs.Surviving.{StillStand}
use Rattle.hd_search.specs.declared.fault.ThreadsFault.{ThreadsFault}
use Rattle.hd_threads.specs.Growing.{JournalGrows}
use Rattle.hd_search.specs.Fault.{IsFullRightly, TellsOfThreads}
use Rattle.hplan.specs.declared.fault.Fault.{Fault}
use Rattle.hplan.specs.declared.fault.Fault.TheVariants.{Journal, Search, NoThread, NoMemory}
use Rattle.hplan.specs.declared.kept.Start.{Start}
use Rattle.hplan.specs.declared.kept.Start.TheVariants.{New, Kept}
use Rattle.hplan.specs.Fault.{search_in, store_in}
use Rattle.hplan.specs.Places.{KeepsFile}

-- ---- what a file holds

-- a content is the whole journal of these entries, for the task of this digest: their groups,
-- each after its open gate, and then a closed gate, which is the last byte
pub record IsJournalOf (digest : List ℕ) (kids : List Kid) (content : List ℕ) : Type 0 where
  pub version : Version
  pub groups : List (List Kid)
  pub sound : AllByRecursion (IsGroup version) groups
  pub bytes : content ≡ image version digest groups
  pub entries : kids ≡ kids_in groups

-- a journal of these groups, of this version, goes on from a content: it is the task's journal,
-- or one that is being made, of this version; and the first groups have just the entries that are
-- found in it, at the places that they had there
pub record ContinuesContent (digest content : List ℕ) (v : Version) (groups : List (List Kid)) : Type 0 where
  pub found : Found
  pub is_found : IsFound digest content found
  pub version : v ≡ version_in found
  pub stood : List (List Kid)
  pub more : List (List Kid)
  pub entries : found_in found ≡ entries_in v FIRST_GATE stood
  pub begins : groups ≡ stood ++ more

-- what a journal of these groups, of this version, began with: an empty file, where it is new,
-- and then its version is the second; else what it goes on from
abbrev pub BeganWith : Start → List ℕ → List ℕ → Version → List (List Kid) → Type 0
BeganWith New digest content v groups = (content ≡ []) × (v ≡ Two)
BeganWith Kept digest content v groups = ContinuesContent digest content v groups

-- a file holds these entries now, and what it held before is among them, where it was
pub record HoldsEntries (start : Start) (digest : List ℕ) (kids : List Kid) (before after : List ℕ) : Type 0 where
  pub holds : IsJournalOf digest kids after
  pub began : BeganWith start digest before holds.version holds.groups

-- ---- what a stop leaves

-- a device is as a stop left it while a group was appended to these: nothing is pending on it
pub record WasStopped (v : Version) (digest : List ℕ) (groups : List (List Kid)) (next : List Kid) (device : Device) : Type 0 where
  pub settled : IsSettled device
  pub sound : AllByRecursion (IsGroup v) groups
  pub group : IsGroup v next
  pub left : IsBeforeOrAfter v digest groups next (content_of device)

-- these groups stand in a content, and maybe more after them
abbrev pub HasGroups : Version → List ℕ → List (List Kid) → List ℕ → Type 0
HasGroups v digest groups content = (more : List (List Kid)) × StandsIn v digest (groups ++ more) content

-- nothing was done to a device but to look at it
pub record HasSamePast (old new : Device) : Type 0 where
  pub start : new.start ≡ old.start
  pub steps : new.steps ≡ old.steps

-- ---- why a search over a file has no answer

-- a file is as it was; or it was empty, and a header is being made in it, or is made: whoever
-- goes on with it has a journal without entries
abbrev pub IsAsItWasOrMaking : List ℕ → List ℕ → List ℕ → Type 0
IsAsItWasOrMaking digest before after = (after ≡ before) ⊎ ((before ≡ []) × IsMaking Two digest after)

-- a header is still to be made in a file, which has no entries
abbrev pub HasNoHeader : List ℕ → List ℕ → Type 0
HasNoHeader digest content = IsFound digest content contents.Unmade ⊎ IsFound digest content contents.HalfMade

-- what stood from one place on, before another, stands there still, and a file is no longer
pub record StandsBetween (from upto : ℕ) (before after : List ℕ) : Type 0 where
  pub there : upto ≤ length after
  pub no_longer : length after ≤ length before
  pub same : (place : ℕ) → from ≤ place → place < upto → slice_index after place ≡ slice_index before place

-- the first place that mending leaves alone: that of the header's gate, where it is open
abbrev pub first_kept : Bool → ℕ
first_kept true = 0
first_kept false = 1

-- the first place that mending may change: that of the last gate, where it is not closed
abbrev pub first_changed : Contents → ℕ
first_changed found = if found.gate_closed then found.last_gate + 1 else found.last_gate

-- a header was still to be made in a file, and is being made there still, or is made
abbrev pub IsStillMaking : List ℕ → List ℕ → List ℕ → Type 0
IsStillMaking digest before after = HasNoHeader digest before × IsMaking Two digest after

-- a journal was found in a file, and all its entries stand there still, up to its last gate, with
-- that where it was closed. The header's gate may read anything where it was not open
pub record StandsStill (digest before after : List ℕ) : Type 0 where
  pub found : Contents
  pub is_found : IsFound digest before (contents.Journal found)
  pub stands : StandsBetween (first_kept found.header_open) (first_changed found) before after

-- what is reported of a file that is to be begun, or gone on with: it is not empty; or it is no
-- journal, one of another task or damaged. It is as it was then. Where a journal is to be begun,
-- and the device failed or memory ran out, nothing is lost. Where one is to be gone on with,
-- memory runs out over a file that is left as it was, or while its header is made. The device fails
-- over one of these too, or over one that has all its entries still
abbrev pub TellsOfFile : Start → List ℕ → List ℕ → List ℕ → JournalError → Type 0
TellsOfFile New digest before after journal.NotAJournal = ⊥
TellsOfFile New digest before after journal.OtherTask = ⊥
TellsOfFile New digest before after (journal.Damaged at) = ⊥
TellsOfFile New digest before after journal.Device = IsAsItWasOrMaking digest before after
TellsOfFile New digest before after journal.Failed = ⊥
TellsOfFile New digest before after journal.JournalExists = (before ≢ []) × (after ≡ before)
TellsOfFile New digest before after journal.NotOut = ⊥
TellsOfFile New digest before after journal.NoMemory = (before ≡ []) × IsMaking Two digest after
TellsOfFile Kept digest before after journal.NotAJournal = IsRefused digest before image.NotAJournal × (after ≡ before)
TellsOfFile Kept digest before after journal.OtherTask = IsRefused digest before image.OtherTask × (after ≡ before)
TellsOfFile Kept digest before after (journal.Damaged at) = IsRefused digest before (image.Damaged at) × (after ≡ before)
TellsOfFile Kept digest before after journal.Device =
    (after ≡ before) ⊎ (IsStillMaking digest before after ⊎ StandsStill digest before after)
TellsOfFile Kept digest before after journal.Failed = ⊥
TellsOfFile Kept digest before after journal.JournalExists = ⊥
TellsOfFile Kept digest before after journal.NotOut = ⊥
TellsOfFile Kept digest before after journal.NoMemory = (after ≡ before) ⊎ IsStillMaking digest before after

-- the entry that is found at this place of a file is the first that is faulty, and the file has
-- just the entries that were found; a new file has none
abbrev pub HasFaultyEntry : Start → Task → List ℕ → List ℕ → List ℕ → ℕ → Type 0
HasFaultyEntry New t digest before after at = ⊥
HasFaultyEntry Kept t digest before after at =
    (found : Found) × IsFound digest before found × IsDamagedAt t (found_in found) at × HoldsEntries Kept digest (map kid_of (found_in found)) before after

-- these are the entries that a file held before; a new one held none
abbrev pub WereThere : Start → List ℕ → List ℕ → List Kid → Type 0
WereThere New digest before kids = kids ≡ []
WereThere Kept digest before kids = (found : Found) × IsFound digest before found × (kids ≡ map kid_of (found_in found))

-- some entries are kept in a file: just those that it held before, or they name a legal list
abbrev pub AreEntriesHeld : Start → Task → List ℕ → List ℕ → List ℕ → Type 0
AreEntriesHeld start t digest before after =
    (kids : List Kid) × HoldsEntries start digest kids before after × (WereThere start digest before kids ⊎ AreLegal t kids)

-- the groups that were found in a file stand there still, and maybe more after them, which with
-- them name a legal list
pub record StillHolds (t : Task) (digest before after : List ℕ) : Type 0 where
  pub found : Found
  pub is_found : IsFound digest before found
  pub groups : List (List Kid)
  pub entries : found_in found ≡ entries_in (version_in found) FIRST_GATE groups
  pub kids : List Kid
  pub stand : StillStand t (version_in found) digest groups kids after

-- the device failed while it was searched: a new file was empty, and groups stand in it, or none,
-- whose entries name a legal list; one that was gone on with has all that it had
abbrev pub IsLeftByDevice : Start → Task → List ℕ → List ℕ → List ℕ → Type 0
IsLeftByDevice New t digest before after = (before ≡ []) × ((kids : List Kid) × StillStand t Two digest [] kids after)
IsLeftByDevice Kept t digest before after = StillHolds t digest before after

-- a content is the whole journal of some entries, and with all the outcomes that a batch may have
-- there would be more than its version may have
abbrev pub IsShortIn : List ℕ → List ℕ → Type 0
IsShortIn digest content = (kids : List Kid) × (journal : IsJournalOf digest kids content) × (most_of journal.version < length kids + MAX_OUTCOMES)

-- what a fault of the search itself may be: there is no room for the outcomes of a batch more, or
-- what the threads share did not fit together, and the entries that there are are kept; or the
-- device failed. No other is reported
abbrev pub TellsOfSearch : Start → Task → List ℕ → List ℕ → List ℕ → RunFault → Type 0
TellsOfSearch start t digest before after searching.Full = AreEntriesHeld start t digest before after × IsShortIn digest after
TellsOfSearch start t digest before after (searching.Damaged at) = ⊥
TellsOfSearch start t digest before after searching.Device = IsLeftByDevice start t digest before after
TellsOfSearch start t digest before after searching.Failed = ⊥
TellsOfSearch start t digest before after searching.NotOut = AreEntriesHeld start t digest before after
TellsOfSearch start t digest before after searching.NoMemory = ⊥

-- why the search of a task over a file has no answer: memory ran out before it began, or later,
-- and the entries that there are are kept; a thread did not start, and they are kept too; or what
-- is reported of the file, of an entry in it, or of the search
pub data HasNoSolution (start : Start) (t : Task) (digest before after : List ℕ) : Fault → Type 0 where
  OfMemory : TellsOfFile start digest before after journal.NoMemory → HasNoSolution start t digest before after NoMemory
  OfMemoryLater : AreEntriesHeld start t digest before after → HasNoSolution start t digest before after NoMemory
  OfThreads : AreEntriesHeld start t digest before after → HasNoSolution start t digest before after NoThread
  OfFile : (error : JournalError) → TellsOfFile start digest before after error → HasNoSolution start t digest before after (Journal error)
  OfEntry : (at : ℕ) → HasFaultyEntry start t digest before after at → HasNoSolution start t digest before after (Search (searching.Damaged at))
  OfSearch : (fault : RunFault) → TellsOfSearch start t digest before after fault → HasNoSolution start t digest before after (Search fault)

-- ---- where a search is kept

-- in memory; or in a file, as a new journal or in the one that is there, and these are its bytes
-- before and afterwards, where they are known
pub data Keeping : Type 0 where
  InMemory : Keeping
  InFile : Start → Option (List ℕ) → Option (List ℕ) → Keeping

-- this is so of the bytes of a file before and afterwards, which are these where they are known
pub record OnFile (old new : Option (List ℕ)) (P : List ℕ → List ℕ → Type 0) : Type 0 where
  pub before : List ℕ
  pub after : List ℕ
  pub known_before : IfSome old (λ bytes. before ≡ bytes)
  pub known_after : IfSome new (λ bytes. after ≡ bytes)
  pub holds : P before after

-- a search is kept there with these entries
abbrev pub IsKeptIn : Keeping → List ℕ → List Kid → Type 0
IsKeptIn InMemory digest kids = (after : List ℕ) × HoldsEntries New digest kids [] after
IsKeptIn (InFile start old new) digest kids = OnFile old new (HoldsEntries start digest kids)

-- nothing was begun where a search is to be kept: a file is as it was
abbrev pub IsLeftAlone : Keeping → Type 0
IsLeftAlone InMemory = Unit {0}
IsLeftAlone (InFile start old new) = new ≡ old

-- a file was not lent, and is as it was, and this is reported of it
abbrev pub IsNotLent : Option (List ℕ) → Option (List ℕ) → Fault → Type 0
IsNotLent old new fault = (error : StoreError) × (fault ≡ store_in error) × KeepsFile old error × (new ≡ old)

-- why the search of a task that is kept there has no answer
abbrev pub FailsIn : Keeping → Task → List ℕ → Fault → Type 0
FailsIn InMemory t digest fault = (after : List ℕ) × HasNoSolution New t digest [] after fault
FailsIn (InFile start old new) t digest fault = IsNotLent old new fault ⊎ OnFile old new (λ before after. HasNoSolution start t digest before after fault)

-- ---- a journal that is begun

-- a journal is gone on with: it has the version and just the entries that were found, in whole
-- groups
pub record IsJournalResumed {S : Type 0} {G : Ghosts S} (digest before : List ℕ) (begun : of.Journal S G) : Type 0 where
  pub found : Found
  pub is_found : IsFound digest before found
  pub version : begun.version ≡ version_in found
  pub entries : begun.entries.items ≡ found_in found
  pub groups : List (List Kid)
  pub is : IsOf digest groups begun

-- a journal was begun, where the file was empty, of the second version and without groups, and
-- its device is settled; or one is gone on with
abbrev pub IsJournalBegun : {S : Type 0} {G : Ghosts S} → Start → List ℕ → List ℕ → of.Journal S G → Type 0
IsJournalBegun New digest before begun = (before ≡ []) × (begun.version ≡ Two) × IsOf digest [] begun × IsSettled (device_of begun)
IsJournalBegun Kept digest before begun = IsJournalResumed digest before begun

-- a search over a journal has no answer: memory ran out, and the journal is the same or a later
-- one; or this is reported of the fault by which it ended
abbrev pub IsRefusedRun : {S : Type 0} {G : Ghosts S} → Task → of.Journal S G → of.Journal S G → Fault → Type 0
IsRefusedRun t old new fault =
    ((fault ≡ NoMemory) × JournalGrows old new) ⊎ ((why : ThreadsFault) × (fault ≡ search_in why) × TellsOfThreads t old new why × IsFullRightly new why)

-- an answer stands as it was found, or the device failed after it
abbrev pub StandsOrFails : {X : Type 0} → Result X Fault → Result X Fault → Type 0
StandsOrFails found now = (now ≡ found) ⊎ (now ≡ Err (Search searching.Device))
