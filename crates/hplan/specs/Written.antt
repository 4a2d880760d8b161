-- What a writer holds once a text was written, or once that failed. (Our own.)
use Rattle.std.specs.Prelude.{◌≡◌, ℕ, ◌<◌, List, Option, length, take}
use Rattle.std.specs.declared.io.ErrorKind.{ErrorKind}
use Rattle.std.specs.Io.KnownBytes.{Keeps, Appends}
use Rattle.hplan.specs.declared.fault.Fault.{Fault}
use Rattle.hplan.specs.Fault.{AnswersFault}

-- a text of this kind is written, whole
pub record WritesA (IsText : List ℕ → Type 0) (old new : Option (List ℕ)) : Type 0 where
  pub text : List ℕ
  pub is : IsText text
  pub bytes : Appends old new text

-- a beginning of a text of this kind is written, which may be nothing, and is not all of it
pub record WritesFrontOfA (IsText : List ℕ → Type 0) (old new : Option (List ℕ)) : Type 0 where
  pub text : List ℕ
  pub count : ℕ
  pub within : count < length text
  pub is : IsText text
  pub bytes : Appends old new (take count text)

-- nothing is written, and what was noted of the writer before is noted still
pub record IsUntouched (old new : Option (List ℕ)) (before noted : Option ErrorKind) : Type 0 where
  pub bytes : Keeps old new
  pub fault : noted ≡ before

-- there was a text of this kind to write, and the writer failed: a beginning of it is written,
-- which is not all of it, and this is reported of the error that the writer has answered
pub record FailsToWrite (IsText : List ℕ → Type 0) (old new : Option (List ℕ)) (noted : Option ErrorKind) (fault : Fault) : Type 0 where
  pub front : WritesFrontOfA IsText old new
  pub answers : AnswersFault noted fault
