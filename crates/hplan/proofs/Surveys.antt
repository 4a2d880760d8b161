-- From what a journal's entries tell to what is reported of it.
use Rattle.std.proofs.Common.{◌≡◌, inl, inr, ◌++◌, ℕ, List, Option, sym, ◌∙◌, subst}
use Rattle.std.specs.Prelude.{Result, Ok, Err, IfOk, IfErr}
use Rattle.std.specs.declared.io.ErrorKind.{ErrorKind}
use Rattle.hd_task.specs.declared.task.Task.{Task}
use Rattle.hd_plan.specs.Output.{AppendsShort}
use Rattle.hd_image.specs.declared.entry.Entry.{Entry}
use Rattle.hd_image.specs.declared.contents.Found.{Found}
use Rattle.hd_image.specs.Reading.{IsFound}
use Rattle.hd_journal.specs.Journal.{found_in}
use Rattle.hd_certify.specs.declared.surveyed.Survey.{Survey}
use Rattle.hd_certify.specs.Survey.{IsSurveyOf}
use Rattle.hd_image.specs.declared.inspected.Inspected.{Inspected}
use Rattle.hd_image.specs.Inspecting.{IsInspected}
use Rattle.hd_texts.specs.Digest.{digest_of}
use Rattle.hd_texts.specs.declared.fault.TaskFault.{TaskFault}
use Rattle.hd_texts.specs.Tasks.{IsTaskOf, ExplainsTask}
use Rattle.hplan.specs.declared.fault.Fault.{Fault}
use Rattle.hplan.specs.Fault.{task_in, AnswersFault}
use Rattle.hplan.specs.Certifying.{OnContent, IsNotRead}
use Rattle.hplan.specs.Inspection.{inspected_text}
use Rattle.hplan.specs.Surveying.{survey_text, IsSurveyedIn, IsSurveyed, IsSurveyText, FailsOnSurvey, HasNoSurvey, HasNoSurveyYet, OfTexts, OfFile, OfOutput}
use Rattle.hplan.proofs.Certificates.{on_content}
use Rattle.hplan.proofs.Writing.{untouched, failed}

pub surveyed_by : (t : Task) (digest content : List ℕ) (survey : Survey) (inspected : Inspected) (text : List ℕ)
    → ((found : Found) × IsFound digest content found × IsSurveyOf t (found_in found) survey) → IsInspected content inspected
    → text ≡ inspected_text inspected ++ survey_text t survey → IsSurveyedIn t digest content text
surveyed_by t digest content survey inspected text s is told = record {
  found = s.0;
  is_found = s.1;
  survey = survey;
  is_survey = s.2;
  inspected = inspected;
  is_inspected = is;
  told = told;
}

-- the pairs of what was found
pub found_survey : (t : Task) (digest content : List ℕ) (found : Found) (entries lent : List Entry) (survey : Survey)
    → IsFound digest content found → lent ≡ entries → entries ≡ found_in found → IsSurveyOf t lent survey
    → (f : Found) × IsFound digest content f × IsSurveyOf t (found_in f) survey
found_survey t digest content found entries lent survey is same those s =
    (found, is, subst (λ (es : List Entry). IsSurveyOf t es survey) (same ∙ those) s)

surveyed_there : (domain problem : List ℕ) (t : Task) → IsTaskOf domain problem t → (content text : List ℕ)
    → IsSurveyedIn t (digest_of domain problem) content text → IsSurveyed domain problem content text
surveyed_there domain problem t task content text s = record { task = t; is_task = task; surveyed = s }

pub survey_by : {A : Type 0} (items : A → List ℕ) (domain problem : List ℕ) (t : Task) → IsTaskOf domain problem t → (digest : List ℕ)
    (file : Option (List ℕ)) (r : Result A Fault) → digest ≡ digest_of domain problem
    → IfOk r (λ v. OnContent file (λ content. IsSurveyedIn t digest content (items v)))
    → IfOk r (λ v. IsSurveyText domain problem file (items v))
survey_by items domain problem t task digest file (Ok v) is s =
    on_content file (λ content. IsSurveyedIn t digest content (items v)) (λ content. IsSurveyed domain problem content (items v))
    (λ content told. surveyed_there domain problem t task content (items v)
    (subst (λ (d : List ℕ). IsSurveyedIn t d content (items v)) is told))
    s
survey_by items domain problem t task digest file (Err f) is s = tt

pub file_untold : {A : Type 0} (domain problem : List ℕ) (t : Task) → IsTaskOf domain problem t → (digest : List ℕ) (file : Option (List ℕ))
    (r : Result A Fault) → digest ≡ digest_of domain problem → IfErr r (FailsOnSurvey t digest file)
    → IfErr r (HasNoSurveyYet domain problem file)
file_untold domain problem t task digest file (Ok v) is s = tt
file_untold domain problem t task digest file (Err f) is s =
    λ bytes noted. OfFile (untouched bytes noted) t f task (subst (λ (d : List ℕ). FailsOnSurvey t d file f) is s)

pub texts_untold : (domain problem : List ℕ) (file : Option (List ℕ)) (f : TaskFault) (fault : Fault) → fault ≡ task_in f
    → ExplainsTask domain problem f → HasNoSurveyYet domain problem file fault
texts_untold domain problem file f fault is told bytes noted =
    subst (HasNoSurvey domain problem file bytes bytes noted noted) (sym is) (OfTexts (untouched bytes noted) f told)

-- the texts, or the file, were not read
pub not_read : (domain problem : List ℕ) (file : Option (List ℕ)) (f : Fault) → IsNotRead domain problem file f → HasNoSurveyYet domain problem file f
not_read domain problem file f (inl k) = texts_untold domain problem file k.0 f k.1 k.2
not_read domain problem file f (inr k) = λ bytes noted. OfFile (untouched bytes noted) k.0 f k.1 (inl k.2)

-- a fault of the output
pub survey_fails : (domain problem : List ℕ) (file : Option (List ℕ)) (text : List ℕ) (old new : Option (List ℕ))
    (before noted : Option ErrorKind) (f : Fault)
    → IsSurveyText domain problem file text → AppendsShort old new text → AnswersFault noted f
    → HasNoSurvey domain problem file old new before noted f
survey_fails domain problem file text old new before noted f s short told =
    OfOutput f (failed (IsSurveyText domain problem file) text old new noted f s short told)
