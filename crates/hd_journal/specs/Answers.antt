-- What the calls on journals answer, when each refusal comes, and what it leaves. (Our own.)
use Rattle.std.specs.Prelude.{◌≡◌, ◌≢◌, ◌⊎◌, ℕ, ◌+◌, ◌<◌, ◌≤◌, ◌==◌, Bool, true, false, ◌&&◌, List, [], ◌∷◌, ◌++◌, length, Result, Ok, Err}
use Rattle.std.specs.List.{list_all, AllByRecursion}
use Rattle.hd_task.specs.declared.plan.Kid.{Kid}
use Rattle.hd_store.specs.declared.store.Store.{Ghosts}
use Rattle.hd_store.specs.declared.error.StoreError.{StoreError}
use Rattle.hd_store.specs.declared.error.StoreError.TheVariants as store
use Rattle.hd_store.specs.Ahead.{foretold_by, foretold_of_length, GoesAsForetold}
use Rattle.hd_store.specs.Device.{Device, content_of, looked_at, refused}
use Rattle.hd_image.specs.declared.version.Version.{Version}
use Rattle.hd_image.specs.declared.header.TheConstants.{FIRST_GATE}
use Rattle.hd_image.specs.declared.contents.Found.{Found}
use Rattle.hd_image.specs.declared.contents.Found.TheVariants.{Unmade, HalfMade, Journal as Stands}
use Rattle.hd_image.specs.declared.error.ImageError.TheVariants as image
use Rattle.hd_image.specs.Image.{IsGroup, fits_parent, opened, front, entries_of}
use Rattle.hd_image.specs.Reading.{IsFound, IsRefused}
use Rattle.hd_journal.specs.declared.error.JournalError.{JournalError}
use Rattle.hd_journal.specs.declared.error.JournalError.TheVariants.{NotAJournal, OtherTask, Damaged, Device as Broken, Failed, JournalExists, NotOut, NoMemory}
use Rattle.hd_journal.specs.declared.journal.Journal.{Journal}
use Rattle.hd_journal.specs.Calls.{Ran, RanThrough}
use Rattle.hd_journal.specs.Group.{GroupView}
use Rattle.hd_journal.specs.Journal.{device_of, IsSame, append_calls, create_calls, open_calls, version_in, found_in, gate_in}

-- ---- looking at a store

-- its length may be told, or not, by what is foretold
abbrev pub MayTellLength : Device → Result (Unit {0}) StoreError → Type 0
MayTellLength device result = GoesAsForetold result device.failures (foretold_of_length device.reads)

-- a read may be done, or not, by what is foretold
abbrev pub MayRead : Device → Result (Unit {0}) StoreError → Type 0
MayRead device result = GoesAsForetold result device.failures (foretold_by device.reads)

-- a call that only looks failed: the length was not told, or the bytes were not read
abbrev pub LengthFails : Device → Device → Type 0
LengthFails old new = MayTellLength old (Err store.Failed) × (new ≡ refused old)

-- the device reported its length, and failed to read its bytes
abbrev pub ReadFails : Device → Device → Type 0
ReadFails old new = MayTellLength old (Ok tt) × MayRead old (Err store.Failed) × (new ≡ looked_at (refused old))

-- its length was told, and all its bytes were read
abbrev pub IsSeen : Device → Device → Type 0
IsSeen old new = MayTellLength old (Ok tt) × MayRead old (Ok tt) × (new ≡ looked_at old)

-- why they were not, and what became of the device
abbrev pub IsUnseen : Device → JournalError → Device → Type 0
IsUnseen old NotAJournal new = ⊥
IsUnseen old OtherTask new = ⊥
IsUnseen old (Damaged at) new = ⊥
IsUnseen old Broken new = LengthFails old new ⊎ ReadFails old new
IsUnseen old Failed new = ⊥
IsUnseen old JournalExists new = ⊥
IsUnseen old NotOut new = ⊥
IsUnseen old NoMemory new = MayTellLength old (Ok tt) × (new ≡ old)

-- the device that a call leaves, with a journal on it or without
abbrev pub device_left : {S : Type 0} {G : Ghosts S} → Result (Journal S G) (S × JournalError) → Device
device_left (Ok journal) = device_of journal
device_left {S} {G} (Err e) = G.device e.0

-- ---- making a journal

-- a header was made on an empty device
pub record IsBegun (digest : List ℕ) (old new : Device) : Type 0 where
  pub told : MayTellLength old (Ok tt)
  pub empty : content_of old ≡ []
  pub ran : RanThrough old (create_calls digest) new

-- a journal was made on an empty store
pub record IsMade {S : Type 0} {G : Ghosts S} (digest : List ℕ) (old : Device) (journal : Journal S G) : Type 0 where
  pub told : MayTellLength old (Ok tt)
  pub empty : content_of old ≡ []
  pub ran : RanThrough old (create_calls digest) (device_of journal)

-- why none was made, and what was begun of it
abbrev pub IsNotMade : List ℕ → Device → JournalError → Device → Type 0
IsNotMade digest old NotAJournal new = ⊥
IsNotMade digest old OtherTask new = ⊥
IsNotMade digest old (Damaged at) new = ⊥
IsNotMade digest old Broken new = LengthFails old new ⊎ (MayTellLength old (Ok tt) × (content_of old ≡ []) × Ran old (create_calls digest) (Err store.Failed) new)
IsNotMade digest old Failed new = ⊥
IsNotMade digest old JournalExists new = MayTellLength old (Ok tt) × (content_of old ≢ []) × (new ≡ old)
IsNotMade digest old NotOut new = ⊥
IsNotMade digest old NoMemory new = MayTellLength old (Ok tt) × (content_of old ≡ []) × Ran old (create_calls digest) (Err store.NoMemory) new

-- ---- opening one

-- this was read, and mended where it had to be; a header that was not there yet was made
pub record IsMended (digest : List ℕ) (old : Device) (found : Found) (new : Device) : Type 0 where
  pub seen : Device
  pub looked : IsSeen old seen
  pub is : IsFound digest (content_of old) found
  pub ran : RanThrough seen (open_calls digest found) new

-- a journal was opened
pub record IsOpened {S : Type 0} {G : Ghosts S} (digest : List ℕ) (old : Device) (journal : Journal S G) : Type 0 where
  pub found : Found
  pub mended : IsMended digest old found (device_of journal)
  pub version : journal.version ≡ version_in found
  pub entries : journal.entries.items ≡ found_in found
  pub gate : journal.last_gate ≡ gate_in found
  pub running : journal.failed ≡ false

-- these groups stand in a content, each after its open gate, and then a gate that is not open,
-- with anything after it
pub record StandsIn (v : Version) (digest : List ℕ) (groups : List (List Kid)) (content : List ℕ) : Type 0 where
  pub gate : ℕ
  pub behind : List ℕ
  pub sound : AllByRecursion (IsGroup v) groups
  pub ends : gate ≢ 1
  pub whole : content ≡ front v digest groups ++ gate ∷ behind

-- what is found is as long as that
abbrev pub FitsIn : Found → ℕ → Type 0
FitsIn Unmade len = len ≤ 1
FitsIn HalfMade len = (1 < len) × (len ≤ FIRST_GATE + 1)
FitsIn (Stands found) len = found.last_gate + found.behind + 1 ≡ len

-- the bytes were read, and then mending broke off with this error
pub record BreaksMending (digest : List ℕ) (old : Device) (error : StoreError) (new : Device) : Type 0 where
  pub seen : Device
  pub found : Found
  pub looked : IsSeen old seen
  pub is : IsFound digest (content_of old) found
  pub ran : Ran seen (open_calls digest found) (Err error) new

-- why none was opened, and what was begun of it
abbrev pub IsNotOpened : List ℕ → Device → JournalError → Device → Type 0
IsNotOpened digest old NotAJournal new = IsRefused digest (content_of old) image.NotAJournal × IsSeen old new
IsNotOpened digest old OtherTask new = IsRefused digest (content_of old) image.OtherTask × IsSeen old new
IsNotOpened digest old (Damaged at) new = IsRefused digest (content_of old) (image.Damaged at) × IsSeen old new
IsNotOpened digest old Broken new = LengthFails old new ⊎ (ReadFails old new ⊎ BreaksMending digest old store.Failed new)
IsNotOpened digest old Failed new = ⊥
IsNotOpened digest old JournalExists new = ⊥
IsNotOpened digest old NotOut new = ⊥
IsNotOpened digest old NoMemory new = (MayTellLength old (Ok tt) × (new ≡ old)) ⊎ (IsSeen old new ⊎ BreaksMending digest old store.NoMemory new)

-- ---- appending a group

-- a group may be appended: it begins where the entries end, and each parent may be written
abbrev pub is_next : {S : Type 0} {G : Ghosts S} → Journal S G → GroupView → Bool
is_next journal group = (group.first == length journal.entries.items) && list_all (λ kid. fits_parent journal.version kid.parent) group.kids

-- a group was appended
pub record IsAppended {S : Type 0} {G : Ghosts S} (old : Journal S G) (group : GroupView) (new : Journal S G) : Type 0 where
  pub running : old.failed ≡ false
  pub next : is_next old group ≡ true
  pub ran : RanThrough (device_of old) (append_calls old.version old.last_gate group.kids) (device_of new)
  pub version : new.version ≡ old.version
  pub entries : new.entries.items ≡ old.entries.items ++ entries_of old.version (old.last_gate + 5) group.kids
  pub gate : new.last_gate ≡ old.last_gate + length (opened old.version group.kids)
  pub still : new.failed ≡ false

-- a group was not appended since the device failed: nothing can be appended any more
pub record BreaksAppending {S : Type 0} {G : Ghosts S} (old : Journal S G) (group : GroupView) (new : Journal S G) : Type 0 where
  pub running : old.failed ≡ false
  pub next : is_next old group ≡ true
  pub ran : Ran (device_of old) (append_calls old.version old.last_gate group.kids) (Err store.Failed) (device_of new)
  pub version : new.version ≡ old.version
  pub entries : new.entries.items ≡ old.entries.items
  pub failed : new.failed ≡ true

-- why a group was not appended, and what is left then
abbrev pub IsNotAppended : {S : Type 0} {G : Ghosts S} → Journal S G → GroupView → JournalError → Journal S G → Type 0
IsNotAppended old group NotAJournal new = ⊥
IsNotAppended old group OtherTask new = ⊥
IsNotAppended old group (Damaged at) new = ⊥
IsNotAppended old group Broken new = BreaksAppending old group new
IsNotAppended old group Failed new = (old.failed ≡ true) × IsSame old new
IsNotAppended old group JournalExists new = ⊥
IsNotAppended old group NotOut new = (old.failed ≡ false) × (is_next old group ≡ false) × IsSame old new
IsNotAppended old group NoMemory new = (old.failed ≡ false) × (is_next old group ≡ true) × IsSame old new
