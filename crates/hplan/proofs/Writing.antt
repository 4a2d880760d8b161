-- What a writer that is left alone holds, and one that fails.
use Rattle.std.proofs.Common.{ℕ, List, Option, refl}
use Rattle.std.proofs.KnownBytes.{Keeps-refl}
use Rattle.std.specs.declared.io.ErrorKind.{ErrorKind}
use Rattle.hd_plan.specs.Output.{AppendsShort}
use Rattle.hplan.specs.declared.fault.Fault.{Fault}
use Rattle.hplan.specs.Fault.{AnswersFault}
use Rattle.hplan.specs.Written.{IsUntouched, FailsToWrite}

pub untouched : (bytes : Option (List ℕ)) (noted : Option ErrorKind) → IsUntouched bytes bytes noted noted
untouched bytes noted = record { bytes = Keeps-refl bytes; fault = refl }

-- a text of a kind was cut short, by an error that the writer has answered
pub failed : (IsText : List ℕ → Type 0) (text : List ℕ) (old new : Option (List ℕ)) (noted : Option ErrorKind) (f : Fault)
    → IsText text → AppendsShort old new text → AnswersFault noted f → FailsToWrite IsText old new noted f
failed IsText text old new noted f is short told = record {
  front = record { text = text; count = short.0; within = short.1; is = is; bytes = short.2 };
  answers = told;
}
