-- Why nothing is reported of a file.
use Rattle.std.proofs.Common.{◌≡◌, ℕ, List, Option, IfSome, subst}
use Rattle.std.specs.Prelude.{Result, Ok, Err, IfErr}
use Rattle.std.specs.declared.io.ErrorKind.{ErrorKind}
use Rattle.hd_plan.specs.Output.{AppendsShort}
use Rattle.hplan.specs.declared.fault.Fault.{Fault}
use Rattle.hplan.specs.Certifying.{IsUnread}
use Rattle.hplan.specs.Fault.{AnswersFault}
use Rattle.hplan.specs.Inspection.{IsInspection, IsNotTold, HasNoInspection, HasNoInspectionYet, Unread, Untold, OfOutput}
use Rattle.hplan.proofs.Writing.{untouched, failed}

pub file_unread : (file : Option (List ℕ)) (f : Fault) → IsUnread file f → HasNoInspectionYet file f
file_unread file f k bytes noted = Unread (untouched bytes noted) f k

pub content_untold : {A : Type 0} (file : Option (List ℕ)) (content lent : List ℕ) (r : Result A Fault) → IfSome file (λ bytes. content ≡ bytes)
    → lent ≡ content → IfErr r (IsNotTold lent) → IfErr r (HasNoInspectionYet file)
content_untold file content lent (Ok x) known same k = tt
content_untold file content lent (Err f) known same k =
    λ bytes noted. Untold (untouched bytes noted) f
    (record { content = content; known = known; holds = subst (λ (bytes : List ℕ). IsNotTold bytes f) same k })

-- a fault of the output
pub inspection_fails : (file : Option (List ℕ)) (text : List ℕ) (old new : Option (List ℕ)) (before noted : Option ErrorKind) (f : Fault)
    → IsInspection file text → AppendsShort old new text → AnswersFault noted f → HasNoInspection file old new before noted f
inspection_fails file text old new before noted f s short told = OfOutput f (failed (IsInspection file) text old new noted f s short told)
