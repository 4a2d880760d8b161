-- What is reported of the file of a journal, whatever its task, and why nothing is. (Our own.)
use Rattle.std.specs.Prelude.{◌≡◌, ℕ, List, ◌++◌, Option, codes}
use Rattle.hd_image.specs.Image.{version_byte}
use Rattle.std.specs.declared.io.ErrorKind.{ErrorKind}
use Rattle.hex.specs.Hex.{encode_lower}
use Rattle.hd_plan.specs.PlanText.{line_end}
use Rattle.hd_image.specs.declared.error.ImageError.{ImageError}
use Rattle.hd_journal.specs.Error.{of_image}
use Rattle.hd_image.specs.declared.inspected.Summary.{Summary}
use Rattle.hd_image.specs.declared.inspected.Inspected.{Inspected}
use Rattle.hd_image.specs.declared.inspected.Inspected.TheVariants.{Unmade, HalfMade, Journal}
use Rattle.hd_image.specs.Inspecting.{IsInspected, IsRefused}
use Rattle.hplan.specs.declared.fault.Fault.{Fault}
use Rattle.hplan.specs.declared.fault.Fault.TheVariants.{NoMemory}
use Rattle.hplan.specs.Certifying.{OnContent, IsUnread}
use Rattle.hplan.specs.Fault.{journal_in}
use Rattle.hplan.specs.TaskText.{count_line}
use Rattle.hplan.specs.Written.{IsUntouched, FailsToWrite}

-- the line of a digest, in hexadecimal
abbrev pub digest_line : List ℕ → List ℕ
digest_line digest = codes "digest " ++ encode_lower digest ++ line_end

-- the lines that tell of a journal
abbrev pub summary_text : Summary → List ℕ
summary_text s =
    count_line (codes "version") (version_byte s.version) ++ digest_line s.digest ++ count_line (codes "entries") s.entries
    ++ count_line (codes "groups") s.groups ++ count_line (codes "bytes behind") s.behind

-- what is reported of a file's bytes
abbrev pub inspected_text : Inspected → List ℕ
inspected_text Unmade = codes "no header yet" ++ line_end
inspected_text HalfMade = codes "a header that is being made" ++ line_end
inspected_text (Journal s) = summary_text s

-- a text reports what a content is
pub record IsToldOfContent (content text : List ℕ) : Type 0 where
  pub inspected : Inspected
  pub is : IsInspected content inspected
  pub told : text ≡ inspected_text inspected

-- a text reports what the bytes of a file are
abbrev pub IsInspection : Option (List ℕ) → List ℕ → Type 0
IsInspection file text = OnContent file (λ content. IsToldOfContent content text)

-- why nothing is reported of a content: it is no journal of any task, or a damaged one; or memory
-- ran out
pub data IsNotTold (content : List ℕ) : Fault → Type 0 where
  OfContent : (error : ImageError) → IsRefused content error → IsNotTold content (journal_in (of_image error))
  OfMemory : IsNotTold content NoMemory

-- why nothing is reported of a file, or not all: it was not read; or nothing is reported of its
-- bytes; or a beginning of what is to be told is written, and what is reported of the error that
-- the writer has answered. The writer is untouched where it is not to blame
pub data HasNoInspection (file old new : Option (List ℕ)) (before noted : Option ErrorKind) : Fault → Type 0 where
  Unread : IsUntouched old new before noted → (f : Fault) → IsUnread file f → HasNoInspection file old new before noted f
  Untold : IsUntouched old new before noted → (f : Fault) → OnContent file (λ content. IsNotTold content f)
      → HasNoInspection file old new before noted f
  OfOutput : (f : Fault) → FailsToWrite (IsInspection file) old new noted f → HasNoInspection file old new before noted f

-- the same, if nothing was to be written yet: whatever a writer holds, and is noted of it
abbrev pub HasNoInspectionYet : Option (List ℕ) → Fault → Type 0
HasNoInspectionYet file f = (bytes : Option (List ℕ)) (noted : Option ErrorKind) → HasNoInspection file bytes bytes noted noted f
