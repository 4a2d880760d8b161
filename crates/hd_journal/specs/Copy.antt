-- What entries are written as again, what is there while they are, and why it ends before. (Our
-- own.)
use Rattle.std.specs.Prelude.{◌≡◌, ◌≢◌, ◌⊎◌, ℕ, List, [], ◌∷◌, ◌++◌, length}
use Rattle.std.specs.List.{flat_map, AllByRecursion}
use Rattle.hd_task.specs.declared.plan.Kid.{Kid}
use Rattle.hd_store.specs.Device.{Device, content_of, one_more}
use Rattle.hd_image.specs.declared.entry.TheConstants.{MAX_GROUP}
use Rattle.hd_image.specs.declared.version.Version.{Version}
use Rattle.hd_image.specs.declared.version.Version.TheVariants.{Two}
use Rattle.hd_image.specs.Image.{IsGroup, image}
use Rattle.hd_image.specs.Stops.{IsMaking}
use Rattle.hd_journal.specs.declared.error.JournalError.{JournalError}
use Rattle.hd_journal.specs.declared.error.JournalError.TheVariants.{NotAJournal, OtherTask, Damaged, Device as Broken, Failed, JournalExists, NotOut, NoMemory}
use Rattle.hd_journal.specs.Answers.{StandsIn}

-- ---- the groups

-- the entries of groups, in order
abbrev pub kids_in : List (List Kid) → List Kid
kids_in groups = flat_map (λ (group : List Kid). group) groups

-- groups are as large as may be: each but the last has as many entries as a group may have
abbrev pub AreFull : List (List Kid) → Type 0
AreFull [] = Unit {0}
AreFull (group ∷ groups) = ((length group ≡ MAX_GROUP) ⊎ (groups ≡ [])) × AreFull groups

-- a content is the whole journal of version two of these entries, in groups as large as may be
pub record IsCopyOf (digest : List ℕ) (kids : List Kid) (content : List ℕ) : Type 0 where
  pub groups : List (List Kid)
  pub sound : AllByRecursion (IsGroup Two) groups
  pub full : AreFull groups
  pub joined : kids_in groups ≡ kids
  pub bytes : content ≡ image Two digest groups

-- ---- while they are written

-- the groups that stand in a content have the first of these entries, or all of them
pub record HasFirstOf (v : Version) (digest : List ℕ) (kids : List Kid) (content : List ℕ) : Type 0 where
  pub groups : List (List Kid)
  pub rest : List Kid
  pub begins : kids_in groups ++ rest ≡ kids
  pub stands : StandsIn v digest groups content

-- a content is a header of version two that is still to be made, or a journal of the first of
-- these entries
abbrev pub IsCopyUnderWay : List ℕ → List Kid → List ℕ → Type 0
IsCopyUnderWay digest kids content = IsMaking Two digest content ⊎ HasFirstOf Two digest kids content

-- ---- why it ends before

-- why entries are not written, or not all: the store is not empty, and is as it was then; or the
-- device failed, and has counted that; or there is no memory, and nothing failed
abbrev pub IsNotCopied : Device → JournalError → Device → Type 0
IsNotCopied old NotAJournal new = ⊥
IsNotCopied old OtherTask new = ⊥
IsNotCopied old (Damaged at) new = ⊥
IsNotCopied old Broken new = new.failures ≡ one_more old.failures
IsNotCopied old Failed new = ⊥
IsNotCopied old JournalExists new = (content_of old ≢ []) × (new ≡ old)
IsNotCopied old NotOut new = ⊥
IsNotCopied old NoMemory new = new.failures ≡ old.failures
