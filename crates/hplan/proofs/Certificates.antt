-- From what a journal's entries show to what is reported of it.
use Rattle.std.proofs.Common.{◌≡◌, ◌⊎◌, inl, inr, ℕ, false, Bool, List, Option, Some, None, IfSome, sym, ◌∙◌, subst}
use Rattle.std.proofs.lemmas.Option.{none-some, same_Some}
use Rattle.std.specs.Prelude.{Result, Ok, Err, IfOk, IfErr, MatchOption}
use Rattle.std.specs.declared.io.ErrorKind.{ErrorKind}
use Rattle.hd_lifted.specs.declared.task.LiftedTask.{LiftedTask}
use Rattle.hd_grounding.specs.Grounding.{IsGrounding}
use Rattle.hd_grounding.proofs.Telling.{optimal_there, none_there}
use Rattle.hd_task.specs.declared.task.Task.{Task}
use Rattle.hd_task.specs.Plans.{Node, exec}
use Rattle.hd_plan.specs.Output.{AppendsShort}
use Rattle.hd_image.specs.declared.entry.Entry.{Entry}
use Rattle.hd_image.specs.declared.contents.Found.{Found}
use Rattle.hd_image.specs.Image.{most_of}
use Rattle.hd_image.specs.Reading.{IsFound}
use Rattle.hd_journal.specs.Journal.{found_in, version_in}
use Rattle.hd_certify.specs.declared.certified.Certified.{Certified}
use Rattle.hd_certify.specs.declared.certified.Certified.TheVariants.{Optimal, NoPlan}
use Rattle.hd_certify.specs.declared.error.RecoverError.{RecoverError}
use Rattle.hd_certify.specs.Error.{IsRecoverRefusal}
use Rattle.hd_certify.specs.Certificate.{IsCertificateOf, IsTrueOf}
use Rattle.hd_texts.specs.Digest.{digest_of}
use Rattle.hd_texts.specs.declared.fault.TaskFault.{TaskFault}
use Rattle.hd_texts.specs.Tasks.{IsTaskOf, ExplainsTask}
use Rattle.hplan.specs.declared.fault.Fault.{Fault}
use Rattle.hplan.specs.declared.certifying.Certificate.{Certificate}
use Rattle.hplan.specs.Fault.{task_in, certify_in, AnswersFault}
use Rattle.hplan.specs.Certifying.{CanBeTold, IsTrueThere, IsToldBy, IsCertified, OnContent, IsCertificate, IsCertificateText, FailsOnFile, IsUnread, IsNotRead, HasNoCertificate, HasNoCertificateYet, ShowsNothing, OfEntries, OfTexts, OfFile, OfOutput, verdict_text, optimal_text}
use Rattle.hplan.specs.PlanText.{goes_through}
use Rattle.hplan.proofs.Going.{bound_plan_goes}
use Rattle.hplan.proofs.Writing.{untouched, failed}

-- a plan that is shown goes through
pub shown_goes : (t : Task) (entries : List Entry) (shown : Option Certified) → IsCertificateOf t entries shown → IfSome shown (CanBeTold t)
shown_goes t entries None s = tt
shown_goes t entries (Some (Optimal p)) s = bound_plan_goes t s.expanded p s.legal s.shown.1
shown_goes t entries (Some NoPlan) s = tt

-- what is true of the grounding is true of the domain
shown_there : (l : LiftedTask) (t : Task) (shown : Option Certified) → IsGrounding l t → IfSome shown (IsTrueOf t)
    → IfSome shown (IsTrueThere l t)
shown_there l t None made truth = tt
shown_there l t (Some (Optimal p)) made truth = optimal_there l t made p truth
shown_there l t (Some NoPlan) made truth = none_there l t made truth

certified_there : (domain problem : List ℕ) (t : Task) (task : IsTaskOf domain problem t) (content : List ℕ) (answer : Bool) (text : List ℕ)
    → IsToldBy t (digest_of domain problem) content answer text → IsCertified domain problem content answer text
certified_there domain problem t task content answer text s = record {
  task = t;
  is_task = task;
  shown = s.shown;
  answers = s.answers;
  told = s.told;
  is_true = shown_there task.lifted t s.shown task.made s.is_true;
}

pub on_content : (file : Option (List ℕ)) (P Q : List ℕ → Type 0) → ((content : List ℕ) → P content → Q content) → OnContent file P → OnContent file Q
on_content file P Q f s = record { content = s.content; known = s.known; holds = f s.content s.holds }

-- what is answered of the bytes of a file that was read is answered of the file
pub of_file : {A : Type 0} (file : Option (List ℕ)) (content : List ℕ) (P : A → List ℕ → Type 0) (r : Result A Fault)
    → IfSome file (λ bytes. content ≡ bytes) → IfOk r (λ x. P x content) → IfOk r (λ x. OnContent file (P x))
of_file file content P (Ok x) known s = record { content = content; known = known; holds = s }
of_file file content P (Err f) known s = tt

-- the same of what is reported of them
pub fails_on_file : {A : Type 0} (file : Option (List ℕ)) (content : List ℕ) (P : List ℕ → Fault → Type 0) (r : Result A Fault)
    → IfSome file (λ bytes. content ≡ bytes) → IfErr r (P content) → IfErr r (λ f. IsUnread file f ⊎ OnContent file (λ c. P c f))
fails_on_file file content P (Ok x) known s = tt
fails_on_file file content P (Err f) known s = inr (record { content = content; known = known; holds = s })

-- the same of what is answered of a file
pub certificate_by : (domain problem : List ℕ) (t : Task) (task : IsTaskOf domain problem t) (digest : List ℕ) (file : Option (List ℕ))
    (r : Result Certificate Fault) → digest ≡ digest_of domain problem
    → IfOk r (λ c. OnContent file (λ content. IsToldBy t digest content c.is_certified c.text.items))
    → IfOk r (λ c. IsCertificate domain problem file c.is_certified c.text.items)
certificate_by domain problem t task digest file (Ok c) is s =
    on_content file (λ content. IsToldBy t digest content c.is_certified c.text.items)
    (λ content. IsCertified domain problem content c.is_certified c.text.items)
    (λ content told. certified_there domain problem t task content c.is_certified c.text.items
    (subst (λ (d : List ℕ). IsToldBy t d content c.is_certified c.text.items) is told))
    s
certificate_by domain problem t task digest file (Err f) is s = tt

-- ---- what is reported of an optimal plan

cost_found : (t : Task) (p : List ℕ) (found : Option ℕ) (cost : ℕ) → found ≡ Some cost
    → MatchOption found (goes_through t p ≡ false) (λ c. (r : Node) × (exec t p ≡ Some r) × (r.cost ≡ c))
    → (r : Node) × (exec t p ≡ Some r) × (r.cost ≡ cost)
cost_found t p None cost is k = absurd (none-some cost is)
cost_found t p (Some c) cost is k =
    subst (λ (x : ℕ). (r : Node) × (exec t p ≡ Some r) × (r.cost ≡ x)) (same_Some c cost is) k

pub optimal_told : {A E : Type 0} (items : A → List ℕ) (t : Task) (p : List ℕ) (found : Option ℕ) (cost : ℕ) (verdict : Certified)
    (r : Result A E) → verdict ≡ Optimal p → found ≡ Some cost
    → MatchOption found (goes_through t p ≡ false) (λ c. (r : Node) × (exec t p ≡ Some r) × (r.cost ≡ c))
    → ((n : Node) → n.cost ≡ cost → IfOk r (λ v. items v ≡ optimal_text (Some n)))
    → IfOk r (λ v. items v ≡ verdict_text t verdict)
optimal_told items t p found cost verdict r is at costs told =
    let k = cost_found t p found cost at costs in
    subst (λ (c : Certified). IfOk r (λ v. items v ≡ verdict_text t c)) (sym is)
    (subst (λ (o : Option Node). IfOk r (λ v. items v ≡ optimal_text o)) (sym k.1) (told k.0 k.2))

-- ---- no certificate

pub file_untold : (domain problem : List ℕ) (t : Task) → IsTaskOf domain problem t → (digest : List ℕ) (file : Option (List ℕ))
    (r : Result Certificate Fault) → digest ≡ digest_of domain problem → IfErr r (FailsOnFile t digest file)
    → IfErr r (HasNoCertificateYet domain problem file)
file_untold domain problem t task digest file (Ok c) is s = tt
file_untold domain problem t task digest file (Err f) is s =
    λ bytes noted. OfFile (untouched bytes noted) t f task (subst (λ (d : List ℕ). FailsOnFile t d file f) is s)

-- the entries of what was found are refused
pub entries_refused : (t : Task) (digest content : List ℕ) (found : Found) (entries lent : List Entry) (most : ℕ) (error : RecoverError)
    → IsFound digest content found → lent ≡ entries → entries ≡ found_in found → most ≡ most_of (version_in found)
    → IsRecoverRefusal t most lent error → ShowsNothing t digest content (certify_in error)
entries_refused t digest content found entries lent most error is same those limit refused =
    OfEntries found error is
    (subst (λ (es : List Entry). IsRecoverRefusal t (most_of (version_in found)) es error) (same ∙ those)
    (subst (λ (m : ℕ). IsRecoverRefusal t m lent error) limit refused))

pub texts_untold : (domain problem : List ℕ) (file : Option (List ℕ)) (f : TaskFault) (fault : Fault) → fault ≡ task_in f
    → ExplainsTask domain problem f → HasNoCertificateYet domain problem file fault
texts_untold domain problem file f fault is told bytes noted =
    subst (HasNoCertificate domain problem file bytes bytes noted noted) (sym is) (OfTexts (untouched bytes noted) f told)

-- the texts, or the file, were not read
pub not_read : (domain problem : List ℕ) (file : Option (List ℕ)) (f : Fault) → IsNotRead domain problem file f
    → HasNoCertificateYet domain problem file f
not_read domain problem file f (inl k) = texts_untold domain problem file k.0 f k.1 k.2
not_read domain problem file f (inr k) = λ bytes noted. OfFile (untouched bytes noted) k.0 f k.1 (inl k.2)

-- a fault of the output
pub certificate_fails : (domain problem : List ℕ) (file : Option (List ℕ)) (answer : Bool) (text : List ℕ) (old new : Option (List ℕ))
    (before noted : Option ErrorKind) (f : Fault)
    → IsCertificate domain problem file answer text → AppendsShort old new text → AnswersFault noted f
    → HasNoCertificate domain problem file old new before noted f
certificate_fails domain problem file answer text old new before noted f s short told =
    OfOutput f (failed (IsCertificateText domain problem file) text old new noted f (answer, s) short told)
