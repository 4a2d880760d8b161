-- What the bytes of a journal show of the task of two texts, how that is reported, and why nothing
-- is. (That a journal is a certificate is our own.)
use Rattle.std.specs.Prelude.{◌≡◌, ◌⊎◌, ℕ, Bool, true, is_some, List, [], ◌++◌, Option, Some, None, IfSome, codes, decimal}
use Rattle.std.specs.declared.io.ErrorKind.{ErrorKind}
use Rattle.hd_lifted.specs.declared.task.LiftedTask.{LiftedTask}
use Rattle.hd_lifted.specs.Plans as plans
use Rattle.hd_grounding.specs.Instances.{instances_of}
use Rattle.hd_task.specs.declared.task.Task.{Task}
use Rattle.hd_task.specs.Plans.{Node, exec}
use Rattle.hd_plan.specs.PlanText.{line_end}
use Rattle.hd_image.specs.declared.contents.Found.{Found}
use Rattle.hd_image.specs.declared.error.ImageError.{ImageError}
use Rattle.hd_image.specs.Image.{most_of}
use Rattle.hd_image.specs.Reading.{IsFound, IsRefused}
use Rattle.hd_journal.specs.Journal.{found_in, version_in}
use Rattle.hd_journal.specs.Error.{of_image}
use Rattle.hd_certify.specs.declared.certified.Certified.{Certified}
use Rattle.hd_certify.specs.declared.certified.Certified.TheVariants.{Optimal, NoPlan}
use Rattle.hd_certify.specs.declared.error.RecoverError.{RecoverError}
use Rattle.hd_certify.specs.Certificate.{IsCertificateOf, IsTrueOf}
use Rattle.hd_certify.specs.Error.{IsRecoverRefusal}
use Rattle.hd_texts.specs.Digest.{digest_of}
use Rattle.hd_texts.specs.declared.fault.TaskFault.{TaskFault}
use Rattle.hd_texts.specs.Tasks.{IsTaskOf, ExplainsTask}
use Rattle.hplan.specs.declared.fault.Fault.{Fault}
use Rattle.hplan.specs.declared.fault.Fault.TheVariants.{NoMemory}
use Rattle.hplan.specs.Fault.{task_in, journal_in, certify_in, TellsKind}
use Rattle.hplan.specs.Places.{MissesFile}
use Rattle.hplan.specs.PlanText.{goes_through}
use Rattle.hplan.specs.Written.{IsUntouched, FailsToWrite}

-- ---- what is shown, and how it is told

-- what is shown is true of all plans of the domain, which its task is the grounding of: the
-- instances of an optimal plan are an optimal plan of the domain; and if there is no plan, the
-- domain has none
abbrev pub IsTrueThere : LiftedTask → Task → Certified → Type 0
IsTrueThere l t (Optimal p) = plans.IsOptimal l (instances_of t p)
IsTrueThere l t NoPlan = plans.HasNoPlan l

-- an optimal plan is reported by the cost of the node that it leads to
abbrev pub optimal_text : Option Node → List ℕ
optimal_text None = []
optimal_text (Some r) = codes "certified optimal; cost = " ++ decimal r.cost ++ line_end

-- how it is told which verdict is shown
abbrev pub verdict_text : Task → Certified → List ℕ
verdict_text t (Optimal p) = optimal_text (exec t p)
verdict_text t NoPlan = codes "certified no plan" ++ line_end

-- how it is told what is shown of a task
abbrev pub certified_text : Task → Option Certified → List ℕ
certified_text t None = codes "not certified" ++ line_end
certified_text t (Some verdict) = verdict_text t verdict

-- a content is a journal of the task of this digest, or one that is being made, and its entries
-- show this of the task
pub record IsShownIn (t : Task) (digest content : List ℕ) (shown : Option Certified) : Type 0 where
  pub found : Found
  pub is_found : IsFound digest content found
  pub certificate : IsCertificateOf t (found_in found) shown

-- the same, told by a text
pub record IsToldOf (t : Task) (digest content : List ℕ) (shown : Option Certified) (text : List ℕ) : Type 0 where
  pub shown_in : IsShownIn t digest content shown
  pub told : text ≡ certified_text t shown

-- this is reported of a task, where a content shows something of it, and where it does not; and
-- what is shown is true of all plans of the task
pub record IsToldBy (t : Task) (digest content : List ℕ) (answer : Bool) (text : List ℕ) : Type 0 where
  pub shown : Option Certified
  pub answers : answer ≡ is_some shown
  pub told : IsToldOf t digest content shown text
  pub is_true : IfSome shown (IsTrueOf t)

-- two texts say a task, and this is reported of what a content shows of it; it is true of all plans
-- of the domain
pub record IsCertified (domain problem content : List ℕ) (answer : Bool) (text : List ℕ) : Type 0 where
  pub task : Task
  pub is_task : IsTaskOf domain problem task
  pub shown : Option Certified
  pub answers : answer ≡ is_some shown
  pub told : IsToldOf task (digest_of domain problem) content shown text
  pub is_true : IfSome shown (IsTrueThere is_task.lifted task)

-- this is so of the bytes of a file, which are those where they are known
pub record OnContent (file : Option (List ℕ)) (P : List ℕ → Type 0) : Type 0 where
  pub content : List ℕ
  pub known : IfSome file (λ bytes. content ≡ bytes)
  pub holds : P content

-- this is reported of what the file of a journal shows of the task of two texts, where that is
-- something, and where it is not
abbrev pub IsCertificate : List ℕ → List ℕ → Option (List ℕ) → Bool → List ℕ → Type 0
IsCertificate domain problem file answer text = OnContent file (λ content. IsCertified domain problem content answer text)

-- a text is all that is to be told of that
abbrev pub IsCertificateText : List ℕ → List ℕ → Option (List ℕ) → List ℕ → Type 0
IsCertificateText domain problem file text = (answer : Bool) × IsCertificate domain problem file answer text

-- a plan that is shown can be told: each of its steps is applicable
abbrev pub CanBeTold : Task → Certified → Type 0
CanBeTold t (Optimal p) = goes_through t p ≡ true
CanBeTold t NoPlan = Unit {0}

-- ---- why nothing is reported

-- why nothing is shown of a task in a content: memory ran out; or the content is refused; or its
-- entries are
pub data ShowsNothing (t : Task) (digest content : List ℕ) : Fault → Type 0 where
  OfMemory : ShowsNothing t digest content NoMemory
  OfContent : (error : ImageError) → IsRefused digest content error → ShowsNothing t digest content (journal_in (of_image error))
  OfEntries : (found : Found) (error : RecoverError) → IsFound digest content found
      → IsRecoverRefusal t (most_of (version_in found)) (found_in found) error → ShowsNothing t digest content (certify_in error)

-- a file was not read, and this is reported of its error
abbrev pub IsUnread : Option (List ℕ) → Fault → Type 0
IsUnread file fault = (kind : ErrorKind) × TellsKind kind fault × MissesFile file kind

-- why the task of two texts and the bytes of a file are not there: what is reported of the texts;
-- or they say a task, and the file was not read
abbrev pub IsNotRead : List ℕ → List ℕ → Option (List ℕ) → Fault → Type 0
IsNotRead domain problem file fault =
    ((f : TaskFault) × (fault ≡ task_in f) × ExplainsTask domain problem f) ⊎ ((t : Task) × IsTaskOf domain problem t × IsUnread file fault)

-- why nothing is shown of a task in a file: it was not read; or nothing is shown in its bytes
abbrev pub FailsOnFile : Task → List ℕ → Option (List ℕ) → Fault → Type 0
FailsOnFile t digest file fault = IsUnread file fault ⊎ OnContent file (λ content. ShowsNothing t digest content fault)

-- why nothing is reported, or not all: what is reported of the texts; or they say a task, and
-- nothing is shown of it; or a beginning of what is to be told is written, and what is reported of
-- the error that the writer has answered. The writer is untouched where it is not to blame
pub data HasNoCertificate (domain problem : List ℕ) (file old new : Option (List ℕ)) (before noted : Option ErrorKind) : Fault → Type 0 where
  OfTexts : IsUntouched old new before noted → (f : TaskFault) → ExplainsTask domain problem f
      → HasNoCertificate domain problem file old new before noted (task_in f)
  OfFile : IsUntouched old new before noted → (t : Task) (f : Fault) → IsTaskOf domain problem t
      → FailsOnFile t (digest_of domain problem) file f → HasNoCertificate domain problem file old new before noted f
  OfOutput : (f : Fault) → FailsToWrite (IsCertificateText domain problem file) old new noted f
      → HasNoCertificate domain problem file old new before noted f

-- the same, if nothing was to be written yet: whatever a writer holds, and is noted of it
abbrev pub HasNoCertificateYet : List ℕ → List ℕ → Option (List ℕ) → Fault → Type 0
HasNoCertificateYet domain problem file f =
    (bytes : Option (List ℕ)) (noted : Option ErrorKind) → HasNoCertificate domain problem file bytes bytes noted noted f
