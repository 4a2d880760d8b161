-- A journal on its store, and the calls that make it, mend it and lengthen it. (Our own.)
use Rattle.std.specs.Prelude.{◌≡◌, ℕ, ◌+◌, ◌==◌, Bool, true, false, if◌then◌else◌, List, [], ◌∷◌, ◌++◌, length, map}
use Rattle.std.specs.List.{AllByRecursion}
use Rattle.hd_task.specs.declared.plan.Kid.{Kid}
use Rattle.hd_store.specs.declared.store.Store.{Ghosts}
use Rattle.hd_store.specs.Device.{Device, content_of}
use Rattle.hd_image.specs.declared.version.Version.{Version}
use Rattle.hd_image.specs.declared.version.Version.TheVariants.{Two}
use Rattle.hd_image.specs.declared.entry.Entry.{Entry}
use Rattle.hd_image.specs.declared.header.TheConstants.{FIRST_GATE, DIGEST_LEN}
use Rattle.hd_image.specs.declared.contents.Contents.{Contents}
use Rattle.hd_image.specs.declared.contents.Found.{Found}
use Rattle.hd_image.specs.declared.contents.Found.TheVariants.{Unmade, HalfMade, Journal}
use Rattle.hd_image.specs.Image.{IsGroup, counted, header, front, image, entries_in}
use Rattle.hd_journal.specs.declared.journal.Journal as of
use Rattle.hd_journal.specs.Calls.{Call, surely}
use Rattle.hd_journal.specs.Calls.Call.{Writing, Cutting}

-- ---- a journal

-- the device that it is written to
abbrev pub device_of : {S : Type 0} {G : Ghosts S} → of.Journal S G → Device
device_of {S} {G} journal = G.device journal.store

-- the pair of an entry
abbrev pub kid_of : Entry → Kid
kid_of entry = record { parent = entry.parent; action = entry.action }

-- the pairs of its entries, in order
abbrev pub kids_of : {S : Type 0} {G : Ghosts S} → of.Journal S G → List Kid
kids_of journal = map kid_of journal.entries.items

-- it is the journal of these groups, for the task of this digest: a read gives just their image, it
-- has their entries with their places, and can be appended to
pub record IsOf {S : Type 0} {G : Ghosts S} (digest : List ℕ) (groups : List (List Kid)) (journal : of.Journal S G) : Type 0 where
  pub digest_len : length digest ≡ DIGEST_LEN
  pub sound : AllByRecursion (IsGroup journal.version) groups
  pub content : content_of (device_of journal) ≡ image journal.version digest groups
  pub entries : journal.entries.items ≡ entries_in journal.version FIRST_GATE groups
  pub gate : journal.last_gate ≡ length (front journal.version digest groups)
  pub running : journal.failed ≡ false

-- all of it is as before, the room that its store has aside
pub record IsSame {S : Type 0} {G : Ghosts S} (old new : of.Journal S G) : Type 0 where
  pub device : device_of new ≡ device_of old
  pub version : new.version ≡ old.version
  pub entries : new.entries.items ≡ old.entries.items
  pub gate : new.last_gate ≡ old.last_gate
  pub failed : new.failed ≡ old.failed

-- ---- the calls, each list in order

-- a group is appended after the last gate: its count, its entries and the next gate are written,
-- closed, and made sure of; then its gate is opened
abbrev pub append_calls : Version → ℕ → List Kid → List Call
append_calls v gate kids = surely (Writing (gate + 1) (counted v kids ++ 0 ∷ [])) ++ surely (Writing gate (1 ∷ []))

-- a header is made after its closed gate: it is written with the first group's gate, closed, and
-- made sure of; then its gate is opened
abbrev pub fill_calls : List ℕ → List Call
fill_calls digest = surely (Writing 1 (header Two digest ++ 0 ∷ [])) ++ surely (Writing 0 (1 ∷ []))

-- a journal is made: its header's gate is closed first
abbrev pub create_calls : List ℕ → List Call
create_calls digest = surely (Writing 0 (0 ∷ [])) ++ fill_calls digest

-- the header's gate is opened, if it is not
abbrev pub head_calls : Bool → List Call
head_calls true = []
head_calls false = surely (Writing 0 (1 ∷ []))

-- the last gate is closed, if it is not
abbrev pub gate_calls : Bool → ℕ → List Call
gate_calls true gate = []
gate_calls false gate = surely (Writing gate (0 ∷ []))

-- what stands after the last gate is cut off, if anything does
abbrev pub cut_calls : ℕ → ℕ → List Call
cut_calls behind gate = if behind == 0 then [] else surely (Cutting (gate + 1))

-- what is found is mended: the gates first, so that what is cut off is no part of the journal
-- before it goes
abbrev pub mend_calls : Contents → List Call
mend_calls found = head_calls found.header_open ++ (gate_calls found.gate_closed found.last_gate ++ cut_calls found.behind found.last_gate)

-- what is done where this is found
abbrev pub open_calls : List ℕ → Found → List Call
open_calls digest Unmade = create_calls digest
open_calls digest HalfMade = fill_calls digest
open_calls digest (Journal found) = mend_calls found

-- ---- what is reported then

-- the version: that of a header that stands there, else the second
abbrev pub version_in : Found → Version
version_in Unmade = Two
version_in HalfMade = Two
version_in (Journal found) = found.version

-- the entries: those that are found
abbrev pub found_in : Found → List Entry
found_in Unmade = []
found_in HalfMade = []
found_in (Journal found) = found.entries

-- the place of the last gate
abbrev pub gate_in : Found → ℕ
gate_in Unmade = FIRST_GATE
gate_in HalfMade = FIRST_GATE
gate_in (Journal found) = found.last_gate
