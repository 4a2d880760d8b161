-- What is reported of the journal of two texts, as it stands in a file, and why nothing is. (Our
-- own.)
use Rattle.std.specs.Prelude.{◌≡◌, ◌⊎◌, ℕ, List, [], ◌++◌, flat_map, Option, Some, None, codes, decimal}
use Rattle.std.specs.declared.io.ErrorKind.{ErrorKind}
use Rattle.hd_task.specs.declared.task.Task.{Task}
use Rattle.hd_task.specs.declared.departure.Departure.{Departure}
use Rattle.hd_plan.specs.PlanText.{line_end}
use Rattle.hd_image.specs.declared.contents.Found.{Found}
use Rattle.hd_image.specs.Reading.{IsFound}
use Rattle.hd_journal.specs.Journal.{found_in}
use Rattle.hd_certify.specs.declared.surveyed.ValueCount.{ValueCount}
use Rattle.hd_certify.specs.declared.surveyed.Survey.{Survey}
use Rattle.hd_certify.specs.Survey.{IsSurveyOf}
use Rattle.hd_image.specs.declared.inspected.Inspected.{Inspected}
use Rattle.hd_image.specs.Inspecting.{IsInspected}
use Rattle.hd_texts.specs.Digest.{digest_of}
use Rattle.hd_texts.specs.declared.fault.TaskFault.{TaskFault}
use Rattle.hd_texts.specs.Tasks.{IsTaskOf, ExplainsTask}
use Rattle.hplan.specs.declared.fault.Fault.{Fault}
use Rattle.hplan.specs.Certifying.{OnContent, IsUnread, ShowsNothing}
use Rattle.hplan.specs.Fault.{task_in}
use Rattle.hplan.specs.Inspection.{inspected_text, IsNotTold}
use Rattle.hplan.specs.TaskText.{action_form_text, count_line, departure_text}
use Rattle.hplan.specs.Written.{IsUntouched, FailsToWrite}

-- ---- how it is told

-- the line of a row
abbrev pub row_line : List ℕ → ValueCount → List ℕ
row_line what r = what ++ codes " " ++ decimal r.value ++ codes ": " ++ decimal r.count ++ line_end

-- the lines of rows
abbrev pub row_lines : List ℕ → List ValueCount → List ℕ
row_lines what rows = flat_map (row_line what) rows

-- the actions of a plan, a line each
abbrev pub plan_lines : Task → List ℕ → List ℕ
plan_lines t p = flat_map (λ (n : ℕ). action_form_text t n ++ line_end) p

-- the least total of what is open, if anything is
abbrev pub least_line : Option ℕ → List ℕ
least_line None = codes "no least" ++ line_end
least_line (Some least) = count_line (codes "least") least

-- the bound, if there is one
abbrev pub bound_line : Option ℕ → List ℕ
bound_line None = codes "no bound" ++ line_end
bound_line (Some bound) = count_line (codes "bound") bound

-- the actions of its plan, if there is one
abbrev pub bound_plan : Task → Option (List ℕ) → List ℕ
bound_plan t None = []
bound_plan t (Some p) = plan_lines t p

-- the first departure, if there is one
abbrev pub departure_line : Task → Option Departure → List ℕ
departure_line t None = codes "nothing left the range" ++ line_end
departure_line t (Some d) = departure_text t d ++ line_end

-- how far a search is: how many plans are posted, how many of them are settled, and the least
-- total of the others
abbrev pub reach_lines : Survey → List ℕ
reach_lines s = count_line (codes "posted") s.posted ++ count_line (codes "settled") s.settled ++ least_line s.least

-- how many entries there are of each depth, of each cost, and of each total
abbrev pub table_lines : Survey → List ℕ
table_lines s =
    row_lines (codes "depth") s.depths ++ row_lines (codes "cost") s.costs ++ row_lines (codes "total") s.totals

-- what entries tell of a search: how far it is, the bound with its plan, the first departure, and
-- the tables
abbrev pub survey_text : Task → Survey → List ℕ
survey_text t s = reach_lines s ++ (bound_line s.bound ++ bound_plan t s.plan) ++ departure_line t s.departure ++ table_lines s

-- ---- what is reported

-- a content is a journal of the task of this digest, or one that is being made, and a text reports
-- what it is, and what its entries tell of the search of the task
pub record IsSurveyedIn (t : Task) (digest content text : List ℕ) : Type 0 where
  pub found : Found
  pub is_found : IsFound digest content found
  pub survey : Survey
  pub is_survey : IsSurveyOf t (found_in found) survey
  pub inspected : Inspected
  pub is_inspected : IsInspected content inspected
  pub told : text ≡ inspected_text inspected ++ survey_text t survey

-- two texts say a task, and so it is of a content
pub record IsSurveyed (domain problem content text : List ℕ) : Type 0 where
  pub task : Task
  pub is_task : IsTaskOf domain problem task
  pub surveyed : IsSurveyedIn task (digest_of domain problem) content text

-- so it is of the bytes of a file
abbrev pub IsSurveyText : List ℕ → List ℕ → Option (List ℕ) → List ℕ → Type 0
IsSurveyText domain problem file text = OnContent file (λ content. IsSurveyed domain problem content text)

-- ---- why nothing is reported

-- of a content: its entries can't be had, as for a certificate; or nothing is reported of it as of
-- any journal
abbrev pub TellsNothing : Task → List ℕ → List ℕ → Fault → Type 0
TellsNothing t digest content fault = ShowsNothing t digest content fault ⊎ IsNotTold content fault

-- of a file: it was not read, or nothing is reported of its bytes
abbrev pub FailsOnSurvey : Task → List ℕ → Option (List ℕ) → Fault → Type 0
FailsOnSurvey t digest file fault = IsUnread file fault ⊎ OnContent file (λ content. TellsNothing t digest content fault)

-- why nothing is reported, or not all: what is reported of the texts; or they say a task, and
-- nothing is reported of the file; or a beginning of what is to be told is written, and what is
-- reported of the error that the writer has answered. The writer is untouched where it is not to
-- blame
pub data HasNoSurvey (domain problem : List ℕ) (file old new : Option (List ℕ)) (before noted : Option ErrorKind) : Fault → Type 0 where
  OfTexts : IsUntouched old new before noted → (f : TaskFault) → ExplainsTask domain problem f
      → HasNoSurvey domain problem file old new before noted (task_in f)
  OfFile : IsUntouched old new before noted → (t : Task) (f : Fault) → IsTaskOf domain problem t
      → FailsOnSurvey t (digest_of domain problem) file f → HasNoSurvey domain problem file old new before noted f
  OfOutput : (f : Fault) → FailsToWrite (IsSurveyText domain problem file) old new noted f
      → HasNoSurvey domain problem file old new before noted f

-- the same, if nothing was to be written yet: whatever a writer holds, and is noted of it
abbrev pub HasNoSurveyYet : List ℕ → List ℕ → Option (List ℕ) → Fault → Type 0
HasNoSurveyYet domain problem file f =
    (bytes : Option (List ℕ)) (noted : Option ErrorKind) → HasNoSurvey domain problem file bytes bytes noted noted f
