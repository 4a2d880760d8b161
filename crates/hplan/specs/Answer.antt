-- What the answer to two texts is, and what is written of it. (Our own.)
use Rattle.std.specs.Prelude.{◌≡◌, ℕ, List, [], Option, Some, None, pos}
use Rattle.std.specs.declared.io.ErrorKind.{ErrorKind}
use Rattle.std.specs.Io.KnownBytes.{Appends}
use Rattle.hd_lifted.specs.declared.task.LiftedTask.{LiftedTask}
use Rattle.hd_lifted.specs.Plans as plans
use Rattle.hd_grounding.specs.Instances.{instances_of}
use Rattle.hd_task.specs.declared.task.Task.{Task}
use Rattle.hd_task.specs.declared.plan.Kid.{Kid}
use Rattle.hplan.specs.declared.told.Ending.{Ending}
use Rattle.hplan.specs.declared.fault.Fault.{Fault}
use Rattle.hd_threads.specs.declared.ending.Outcome.{Outcome}
use Rattle.hd_threads.specs.declared.ending.Outcome.TheVariants.{Optimal, NoPlan, RangeLeft, Stopped}
use Rattle.hd_threads.specs.Ending.{IsSearchOutcome, IsTrueOutcome, plan_in}
use Rattle.hd_texts.specs.Digest.{digest_of}
use Rattle.hd_texts.specs.declared.fault.TaskFault.{TaskFault}
use Rattle.hd_texts.specs.Tasks.{IsTaskOf, ExplainsTask}
use Rattle.hd_plan.specs.declared.output.WriteFault.{WriteFault}
use Rattle.hd_plan.specs.Output.{AppendsShort, KeepsFor, IsNotedByWriter}
use Rattle.hplan.specs.declared.fault.Fault.TheVariants.{NoMemory}
use Rattle.hplan.specs.Fault.{task_in, TellsUnwritten}
use Rattle.hplan.specs.Kept.{Keeping, IsKeptIn, IsLeftAlone, FailsIn}
use Rattle.hplan.specs.PlanText.{task_plan_text}
use Rattle.hplan.specs.TaskText.{departure_text}
use Rattle.hplan.specs.Written.{IsUntouched, FailsToWrite}

-- the instances of a plan are a valid plan of the domain, if there is a plan
abbrev pub IsValidInDomain : LiftedTask → Task → Option (List ℕ) → Type 0
IsValidInDomain l t None = Unit {0}
IsValidInDomain l t (Some p) = (cost : ℕ) × plans.IsValidAt l (instances_of t p) (pos cost)

-- what an answer says is true of all plans of the domain, which its task is the grounding of: the
-- instances of an optimal plan are an optimal plan of the domain, if there is no plan the
-- domain has none, and the plan beside a departure, or of a search that stopped, is valid in the
-- domain
abbrev pub IsTrueOfDomain : LiftedTask → Task → Outcome → Type 0
IsTrueOfDomain l t (Optimal p) = plans.IsOptimal l (instances_of t p)
IsTrueOfDomain l t NoPlan = plans.HasNoPlan l
IsTrueOfDomain l t (RangeLeft d p) = IsValidInDomain l t p
IsTrueOfDomain l t (Stopped p) = IsValidInDomain l t p

-- the text of a plan that may be there
abbrev pub text_if : Task → Option (List ℕ) → List ℕ
text_if t None = []
text_if t (Some p) = task_plan_text t p

-- what is written of an answer: the text of its plan, if it has one
abbrev pub written_of : Task → Outcome → List ℕ
written_of t o = text_if t (plan_in o)

-- how the answer ends
abbrev pub ending_of : Task → Outcome → Ending
ending_of t (Optimal p) = Ending.Optimal
ending_of t NoPlan = Ending.NoPlan
ending_of t (RangeLeft d p) = Ending.RangeLeft (departure_text t d)
ending_of t (Stopped p) = Ending.Stopped

-- the search of a task with a limit, if there is one, that has these entries has this answer,
-- which ends so and is written so
pub record IsSolution (limit : Option ℕ) (task : Task) (kids : List Kid) (ending : Ending) (written : List ℕ) : Type 0 where
  pub outcome : Outcome
  pub is_outcome : IsSearchOutcome task limit kids outcome
  pub is_true : IsTrueOutcome task outcome
  pub ends : ending ≡ ending_of task outcome
  pub text : written ≡ written_of task outcome

-- the search of a task has this answer, and its entries are kept there
pub record IsKeptSolution (k : Keeping) (limit : Option ℕ) (task : Task) (digest : List ℕ) (ending : Ending) (written : List ℕ) : Type 0 where
  pub kids : List Kid
  pub solution : IsSolution limit task kids ending written
  pub kept : IsKeptIn k digest kids

-- two texts have this answer: that of the search of the task that they say, and it is true of the
-- lifted task that they say
pub record IsSolved (limit : Option ℕ) (domain problem : List ℕ) (ending : Ending) (written : List ℕ) : Type 0 where
  pub task : Task
  pub is_task : IsTaskOf domain problem task
  pub kids : List Kid
  pub solution : IsSolution limit task kids ending written
  pub is_true_of_domain : IsTrueOfDomain is_task.lifted task solution.outcome

-- the same, and the entries of the search are kept there
pub record IsKeptAnswer (k : Keeping) (limit : Option ℕ) (domain problem : List ℕ) (ending : Ending) (written : List ℕ) : Type 0 where
  pub solved : IsSolved limit domain problem ending written
  pub kept : IsKeptIn k (digest_of domain problem) solved.kids

-- the text of the answer is written, whole
pub record Writes (k : Keeping) (limit : Option ℕ) (domain problem : List ℕ) (old new : Option (List ℕ)) (ending : Ending) : Type 0 where
  pub text : List ℕ
  pub answer : IsKeptAnswer k limit domain problem ending text
  pub bytes : Appends old new text

-- a text is all that is to be written of the answer to two texts, however that ends
pub record IsAnswerText (k : Keeping) (limit : Option ℕ) (domain problem : List ℕ) (text : List ℕ) : Type 0 where
  pub ending : Ending
  pub answer : IsKeptAnswer k limit domain problem ending text

-- why two texts have no answer: what is reported of the texts, and nothing was begun; or they say a
-- task, and its search has none; or they have one, and there is no memory for its text; or they
-- have one, of whose text a beginning is written, and what is reported of the error that the writer
-- has answered. The writer is untouched where it is not to blame
pub data HasNoAnswer (k : Keeping) (limit : Option ℕ) (domain problem : List ℕ) (old new : Option (List ℕ)) (before noted : Option ErrorKind) : Fault → Type 0 where
  OfTexts : IsUntouched old new before noted → IsLeftAlone k → (f : TaskFault) → ExplainsTask domain problem f
      → HasNoAnswer k limit domain problem old new before noted (task_in f)
  OfSearch : IsUntouched old new before noted → (t : Task) (f : Fault) → IsTaskOf domain problem t → FailsIn k t (digest_of domain problem) f
      → HasNoAnswer k limit domain problem old new before noted f
  OfWriting : IsUntouched old new before noted → (text : List ℕ) → IsAnswerText k limit domain problem text
      → HasNoAnswer k limit domain problem old new before noted NoMemory
  OfOutput : (f : Fault) → FailsToWrite (IsAnswerText k limit domain problem) old new noted f
      → HasNoAnswer k limit domain problem old new before noted f

-- the same, if nothing was to be written yet: whatever a writer holds, and is noted of it
abbrev pub HasNoAnswerYet : Keeping → Option ℕ → List ℕ → List ℕ → Fault → Type 0
HasNoAnswerYet k limit domain problem f =
    (bytes : Option (List ℕ)) (noted : Option ErrorKind) → HasNoAnswer k limit domain problem bytes bytes noted noted f

-- a text is not written, or not all of it: memory ran out, and nothing is written; or a beginning
-- is, which is not all of it, and the writer has answered an error. This is reported of it
pub record IsUnwritten (text : List ℕ) (old new : Option (List ℕ)) (before noted : Option ErrorKind) (fault : Fault) : Type 0 where
  pub error : WriteFault
  pub short : AppendsShort old new text
  pub memory : KeepsFor old new error
  pub answered : IsNotedByWriter before noted error
  pub told : TellsUnwritten error fault
