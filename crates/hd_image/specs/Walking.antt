-- How far the reader has come, for the functions that make it up.
use Rattle.std.specs.Prelude.{◌≡◌, ℕ, ◌+◌, ◌*◌, ◌<◌, ◌≤◌, List, ◌∷◌, ◌++◌, length}
use Rattle.std.specs.List.{flat_map, AllByRecursion}
use Rattle.byteorder.specs.Endian.{little_number}
use Rattle.hd_task.specs.declared.plan.Kid.{Kid}
use Rattle.hd_image.specs.declared.version.Version.{Version}
use Rattle.hd_image.specs.declared.entry.Entry.{Entry}
use Rattle.hd_image.specs.declared.entry.TheConstants.{MAX_GROUP}
use Rattle.hd_image.specs.declared.header.TheConstants.{FIRST_GATE}
use Rattle.hd_image.specs.declared.error.ImageError.{ImageError}
use Rattle.hd_image.specs.declared.error.ImageError.TheVariants.{NotAJournal, OtherTask, Damaged, NoMemory}
use Rattle.hd_image.specs.Image.{IsGroup, HasBytes, entry_bytes, entry_width, opened, entries_of, entries_in}
use Rattle.hd_image.specs.Reading.{HasGroup}

-- the bytes are as many as those of some entries
pub record AreWhole (v : Version) (bytes : List ℕ) : Type 0 where
  pub count : ℕ
  pub is : length bytes ≡ entry_width v * count

-- so many bytes after an open gate are a count and as many entries, and the next gate stands
-- after them
pub record IsGroupLen (v : Version) (behind : List ℕ) (len : ℕ) : Type 0 where
  pub some : 1 ≤ little_number 4 behind
  pub most : little_number 4 behind ≤ MAX_GROUP
  pub is : len ≡ 4 + entry_width v * little_number 4 behind
  pub within : len < length behind

-- the entries whose bytes begin at this place were added, up to the rest of the bytes
pub record HasAdded (v : Version) (at : ℕ) (bytes rest : List ℕ) (old new : List Entry) : Type 0 where
  pub kids : List Kid
  pub held : AllByRecursion (HasBytes v) kids
  pub bytes_are : bytes ≡ flat_map (entry_bytes v) kids ++ rest
  pub added : new ≡ old ++ entries_of v at kids

-- groups stand in the body up to the rest, and the entries are theirs
pub record HasWalked (v : Version) (body rest : List ℕ) (entries : List Entry) : Type 0 where
  pub groups : List (List Kid)
  pub sound : AllByRecursion (IsGroup v) groups
  pub whole : body ≡ flat_map (opened v) groups ++ rest
  pub some : 0 < length rest
  pub told : entries ≡ entries_in v FIRST_GATE groups

-- groups stand in the body up to an open gate here, after which there is no whole group
pub record IsTorn (v : Version) (body : List ℕ) (at : ℕ) : Type 0 where
  pub groups : List (List Kid)
  pub behind : List ℕ
  pub sound : AllByRecursion (IsGroup v) groups
  pub whole : body ≡ flat_map (opened v) groups ++ 1 ∷ behind
  pub torn : ¬ HasGroup v behind
  pub place : at ≡ FIRST_GATE + length (flat_map (opened v) groups)

-- why a body could not be walked through
abbrev pub Stumbles : Version → List ℕ → ImageError → Type 0
Stumbles v body NotAJournal = ⊥
Stumbles v body OtherTask = ⊥
Stumbles v body (Damaged at) = IsTorn v body at
Stumbles v body NoMemory = Unit {0}
