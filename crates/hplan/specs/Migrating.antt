-- What is reported of the entries of one file, all of them or those before its damage, that were
-- written again to another, and why they were not, or not all. (Our own.)
use Rattle.std.specs.Prelude.{◌≡◌, ◌≢◌, ◌⊎◌, ℕ, List, [], ◌++◌, map, length, Option, Some, None, codes}
use Rattle.std.specs.declared.io.ErrorKind.{ErrorKind}
use Rattle.hd_task.specs.declared.task.Task.{Task}
use Rattle.hd_task.specs.declared.plan.Kid.{Kid}
use Rattle.hd_image.specs.declared.contents.Found.{Found}
use Rattle.hd_image.specs.declared.error.ImageError.{ImageError}
use Rattle.hd_image.specs.Image.{most_of}
use Rattle.hd_image.specs.Reading.{IsFound, IsRefused}
use Rattle.hd_journal.specs.declared.error.JournalError.{JournalError}
use Rattle.hd_journal.specs.declared.error.JournalError.TheVariants as journal
use Rattle.hd_journal.specs.Journal.{found_in, kid_of, version_in}
use Rattle.hd_journal.specs.Error.{of_image}
use Rattle.hd_journal.specs.Salvage.{IsFoundUpTo, IsLost}
use Rattle.hd_entries.specs.Resuming.{AreLegal}
use Rattle.hd_certify.specs.declared.error.RecoverError.{RecoverError}
use Rattle.hd_certify.specs.Error.{IsRecoverRefusal}
use Rattle.hd_journal.specs.Copy.{IsCopyOf, IsCopyUnderWay}
use Rattle.hd_texts.specs.Digest.{digest_of}
use Rattle.hd_texts.specs.declared.fault.TaskFault.{TaskFault}
use Rattle.hd_texts.specs.Tasks.{IsTaskOf, ExplainsTask}
use Rattle.hplan.specs.declared.fault.Fault.{Fault}
use Rattle.hplan.specs.declared.fault.Fault.TheVariants.{Journal, NoMemory}
use Rattle.hplan.specs.declared.migrating.Extent.{Extent}
use Rattle.hplan.specs.declared.migrating.Extent.TheVariants.{Whole, UpToDamage}
use Rattle.hplan.specs.Certifying.{OnContent, IsUnread}
use Rattle.hplan.specs.Fault.{task_in, journal_in, certify_in}
use Rattle.hplan.specs.Kept.{OnFile, IsNotLent}
use Rattle.hplan.specs.TaskText.{count_line}
use Rattle.hplan.specs.Written.{IsUntouched, FailsToWrite}

-- ---- what is read

-- what a content is found to be, and from which place on it is dropped: nowhere, if all of it is
-- wanted
abbrev pub IsFoundBy : Extent → List ℕ → List ℕ → Option ℕ → Found → Type 0
IsFoundBy Whole digest content dropped found = (dropped ≡ None) × IsFound digest content found
IsFoundBy UpToDamage digest content dropped found = IsFoundUpTo digest content dropped found

-- why nothing is found in a content; up to the damage, that it is damaged is no reason
abbrev pub IsLostBy : Extent → List ℕ → List ℕ → ImageError → Type 0
IsLostBy Whole digest content error = IsRefused digest content error
IsLostBy UpToDamage digest content error = IsLost digest content error

-- a content is found to be a journal of the task of this digest, or one that is being made, and its
-- entries are these pairs, which name a legal list
pub record IsNamedIn (t : Task) (digest : List ℕ) (extent : Extent) (content : List ℕ) (dropped : Option ℕ) (kids : List Kid) : Type 0 where
  pub found : Found
  pub is_found : IsFoundBy extent digest content dropped found
  pub are : kids ≡ map kid_of (found_in found)
  pub legal : AreLegal t kids

-- two texts say a task, and these are the pairs of its journal in a file
pub record AreRead (domain problem : List ℕ) (extent : Extent) (file : Option (List ℕ)) (dropped : Option ℕ) (kids : List Kid) : Type 0 where
  pub task : Task
  pub is_task : IsTaskOf domain problem task
  pub named : OnContent file (λ content. IsNamedIn task (digest_of domain problem) extent content dropped kids)

-- why a content names nothing: nothing is found in it; or the entries that are found are refused
pub data NamesNothing (t : Task) (digest : List ℕ) (extent : Extent) (content : List ℕ) : Fault → Type 0 where
  OfContent : (error : ImageError) → IsLostBy extent digest content error → NamesNothing t digest extent content (journal_in (of_image error))
  OfEntries : (dropped : Option ℕ) (found : Found) (error : RecoverError) → IsFoundBy extent digest content dropped found
      → IsRecoverRefusal t (most_of (version_in found)) (found_in found) error → NamesNothing t digest extent content (certify_in error)

-- why a file names nothing: it was not read; or its bytes name nothing
abbrev pub FailsToName : Task → List ℕ → Extent → Option (List ℕ) → Fault → Type 0
FailsToName t digest extent file fault = IsUnread file fault ⊎ OnContent file (λ content. NamesNothing t digest extent content fault)

-- why no pairs are read: what is reported of the texts; or they say a task, and its journal in a
-- file names nothing
pub data HasNoKids (domain problem : List ℕ) (extent : Extent) (file : Option (List ℕ)) : Fault → Type 0 where
  OfTexts : (f : TaskFault) → ExplainsTask domain problem f → HasNoKids domain problem extent file (task_in f)
  OfFile : (t : Task) (f : Fault) → IsTaskOf domain problem t → FailsToName t (digest_of domain problem) extent file f
      → HasNoKids domain problem extent file f

-- ---- what is written

-- a file that was empty has these entries, whole, as a journal of version two, in groups as large
-- as may be
pub record IsCopied (digest : List ℕ) (kids : List Kid) (before after : List ℕ) : Type 0 where
  pub empty : before ≡ []
  pub copy : IsCopyOf digest kids after

-- the line that tells from which byte on a file is dropped, if it is
abbrev pub dropped_line : Option ℕ → List ℕ
dropped_line None = []
dropped_line (Some at) = count_line (codes "dropped from byte") at

-- how it is told how many entries were written, and from which byte on the rest is dropped
abbrev pub migrated_text : ℕ → Option ℕ → List ℕ
migrated_text count dropped = count_line (codes "migrated") count ++ dropped_line dropped

-- what a file holds to which not all entries were written: it is as it was, where it was not
-- empty; else it holds a header that is still to be made, or a journal of the first of them
pub record IsLeftByMigration (digest : List ℕ) (kids : List Kid) (before after : List ℕ) : Type 0 where
  pub kept : before ≢ [] → after ≡ before
  pub under_way : before ≡ [] → IsCopyUnderWay digest kids after

-- what is reported of a file to which not all entries were written: it is not empty, and is as it
-- was; or it failed; or memory ran out
abbrev pub TellsOfCopy : List ℕ → List Kid → List ℕ → List ℕ → JournalError → Type 0
TellsOfCopy digest kids before after journal.NotAJournal = ⊥
TellsOfCopy digest kids before after journal.OtherTask = ⊥
TellsOfCopy digest kids before after (journal.Damaged at) = ⊥
TellsOfCopy digest kids before after journal.Device = IsLeftByMigration digest kids before after
TellsOfCopy digest kids before after journal.Failed = ⊥
TellsOfCopy digest kids before after journal.JournalExists = (before ≢ []) × (after ≡ before)
TellsOfCopy digest kids before after journal.NotOut = ⊥
TellsOfCopy digest kids before after journal.NoMemory = IsLeftByMigration digest kids before after

-- why entries are not written to a file, or not all
pub record IsNotMigrated (digest : List ℕ) (kids : List Kid) (fault : Fault) (before after : List ℕ) : Type 0 where
  pub error : JournalError
  pub is : fault ≡ journal_in error
  pub tells : TellsOfCopy digest kids before after error

-- the same of a file that had to be lent first
abbrev pub FailsToCopy : List ℕ → List Kid → Option (List ℕ) → Option (List ℕ) → Fault → Type 0
FailsToCopy digest kids old new fault = IsNotLent old new fault ⊎ OnFile old new (IsNotMigrated digest kids fault)

-- ---- both

-- the two files: how much of the first is wanted, their names, what the first holds, and what the
-- other holds before and afterwards, where that is known
pub record Moving : Type 0 where
  pub extent : Extent
  pub from : List ℕ
  pub to : List ℕ
  pub held : Option (List ℕ)
  pub before : Option (List ℕ)
  pub after : Option (List ℕ)

-- two files with these names and contents
abbrev pub moving : Extent → List ℕ → List ℕ → Option (List ℕ) → Option (List ℕ) → Option (List ℕ) → Moving
moving extent from to held before after = record { extent = extent; from = from; to = to; held = held; before = before; after = after }

-- the entries of the first file up to this place, so many of them, are in the other
pub record AreMoved (domain problem : List ℕ) (m : Moving) (dropped : Option ℕ) (count : ℕ) : Type 0 where
  pub kids : List Kid
  pub read : AreRead domain problem m.extent m.held dropped kids
  pub copied : OnFile m.before m.after (IsCopied (digest_of domain problem) kids)
  pub counted : count ≡ length kids

-- a text reports how many, and up to where
pub record IsMigration (domain problem : List ℕ) (m : Moving) (text : List ℕ) : Type 0 where
  pub count : ℕ
  pub dropped : Option ℕ
  pub moved : AreMoved domain problem m dropped count
  pub told : text ≡ migrated_text count dropped

-- why entries are not written to the other file, or not all: nothing is read, and the other file
-- is as it was; or the files have one name; or there is no memory to report how many they are; or
-- they are read, and not written
pub data AreNotMoved (domain problem : List ℕ) (m : Moving) : Fault → Type 0 where
  Unread : (f : Fault) → HasNoKids domain problem m.extent m.held f → m.after ≡ m.before → AreNotMoved domain problem m f
  OneName : m.from ≡ m.to → m.after ≡ m.before → AreNotMoved domain problem m (Journal journal.JournalExists)
  OfMemory : m.after ≡ m.before → AreNotMoved domain problem m NoMemory
  Unwritten : (dropped : Option ℕ) (kids : List Kid) (f : Fault) → AreRead domain problem m.extent m.held dropped kids
      → FailsToCopy (digest_of domain problem) kids m.before m.after f → AreNotMoved domain problem m f

-- why nothing is reported, or not all: the entries are not all written; or they are, a beginning of
-- what is to be told is written, and what is reported of the error that the writer has answered.
-- The writer is untouched where it is not to blame
pub data HasNoMigration (domain problem : List ℕ) (m : Moving) (old new : Option (List ℕ)) (before noted : Option ErrorKind) : Fault → Type 0 where
  NotMoved : IsUntouched old new before noted → (f : Fault) → AreNotMoved domain problem m f
      → HasNoMigration domain problem m old new before noted f
  OfOutput : (f : Fault) → FailsToWrite (IsMigration domain problem m) old new noted f → HasNoMigration domain problem m old new before noted f

-- the same, if nothing was to be written yet: whatever a writer holds, and is noted of it
abbrev pub HasNoMigrationYet : List ℕ → List ℕ → Moving → Fault → Type 0
HasNoMigrationYet domain problem m f =
    (bytes : Option (List ℕ)) (noted : Option ErrorKind) → HasNoMigration domain problem m bytes bytes noted noted f
