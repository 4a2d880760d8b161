-- From the answer of a search to what is written.
use Rattle.std.proofs.Common.{◌≡◌, ◌⊎◌, inr, ℕ, List, Option, Some, None, Ok, Err, subst, sym}
use Rattle.std.specs.Prelude.{Result, IfOk, IfErr, OnOk, OnErr}
use Rattle.std.specs.Io.KnownBytes.{Appends}
use Rattle.hplan.specs.declared.told.Told.{Told}
use Rattle.hplan.specs.PlanText.{printed}
use Rattle.hd_threads.specs.declared.ending.Outcome.{Outcome}
use Rattle.hd_threads.specs.declared.ending.Outcome.TheVariants.{Optimal, NoPlan, RangeLeft, Stopped}
use Rattle.hd_task.specs.declared.task.Task.{Task}
use Rattle.hplan.specs.declared.fault.Fault.{Fault}
use Rattle.hplan.specs.declared.told.Ending.{Ending}
use Rattle.hd_threads.specs.Ending.{IsTrueOutcome}
use Rattle.std.specs.declared.io.ErrorKind.{ErrorKind}
use Rattle.hd_plan.specs.declared.output.WriteFault.{WriteFault}
use Rattle.hd_plan.specs.declared.output.WriteFault.TheVariants as unwritten
use Rattle.hd_plan.specs.Output.{AppendsShort, KeepsFor, IsNotedByWriter}
use Rattle.hd_texts.specs.declared.fault.TaskFault.{TaskFault}
use Rattle.hd_texts.specs.Tasks.{IsTaskOf, ExplainsTask}
use Rattle.hplan.specs.Fault.{task_in, TellsUnwritten}
use Rattle.hplan.specs.Answer.{IsValidInDomain, IsTrueOfDomain, IsKeptSolution, IsKeptAnswer, IsAnswerText, IsUnwritten, Writes, HasNoAnswer, HasNoAnswerYet, OfTexts, OfSearch, OfWriting, OfOutput}
use Rattle.hplan.specs.Kept.{Keeping, IsLeftAlone, FailsIn}
use Rattle.hplan.specs.Written.{WritesFrontOfA}
use Rattle.hd_texts.specs.Digest.{digest_of}
use Rattle.hplan.proofs.Writing.{untouched, failed}
use Rattle.hd_entries.specs.Answers.{IsValidPlan}
use Rattle.hd_lifted.specs.declared.task.LiftedTask.{LiftedTask}
use Rattle.hd_grounding.specs.Grounding.{IsGrounding}
use Rattle.hd_grounding.proofs.Runs.{valid_there}
use Rattle.hd_grounding.proofs.Telling.{optimal_there, none_there}

-- a true answer of the grounding is true of the domain
valid_in_domain : (l : LiftedTask) (t : Task) (p : Option (List ℕ)) → IsGrounding l t → IsValidPlan t p → IsValidInDomain l t p
valid_in_domain l t None made valid = tt
valid_in_domain l t (Some p) made valid = (valid.0, valid_there l t made p valid.0 valid.1)

true_of_domain : (l : LiftedTask) (t : Task) (o : Outcome) → IsGrounding l t → IsTrueOutcome t o → IsTrueOfDomain l t o
true_of_domain l t (Optimal p) made truth = optimal_there l t made p truth
true_of_domain l t NoPlan made truth = none_there l t made truth
true_of_domain l t (RangeLeft d p) made truth = valid_in_domain l t p made truth
true_of_domain l t (Stopped p) made truth = valid_in_domain l t p made truth

-- what holds of an answer, or of an error, where more does
ok_weaker : {A E : Type 0} {P Q : A → Type 0} (r : Result A E) → ((x : A) → P x → Q x) → IfOk r P → IfOk r Q
ok_weaker (Ok x) f p = f x p
ok_weaker (Err e) f p = tt

err_weaker : {A E : Type 0} {P Q : E → Type 0} (r : Result A E) → ((e : E) → P e → Q e) → IfErr r P → IfErr r Q
err_weaker (Ok x) f p = tt
err_weaker (Err e) f p = f e p

-- ---- no answer

pub task_unanswered : (k : Keeping) (limit : Option ℕ) (domain problem : List ℕ) (f : TaskFault) (fault : Fault) → IsLeftAlone k
    → fault ≡ task_in f → ExplainsTask domain problem f → HasNoAnswerYet k limit domain problem fault
task_unanswered k limit domain problem f fault alone is told bytes noted =
    subst (HasNoAnswer k limit domain problem bytes bytes noted noted) (sym is) (OfTexts (untouched bytes noted) alone f told)

-- the answer of the search of a task is the answer of the texts that say it
answered : (k : Keeping) (limit : Option ℕ) (domain problem : List ℕ) (t : Task) (task : IsTaskOf domain problem t) (ending : Ending) (text : List ℕ)
    → IsKeptSolution k limit t (digest_of domain problem) ending text → IsKeptAnswer k limit domain problem ending text
answered k limit domain problem t task ending text s = record {
  solved = record {
    task = t;
    is_task = task;
    kids = s.kids;
    solution = s.solution;
    is_true_of_domain = true_of_domain task.lifted t s.solution.outcome task.made s.solution.is_true;
  };
  kept = s.kept;
}

unsolved : (k : Keeping) (limit : Option ℕ) (domain problem : List ℕ) (t : Task) (task : IsTaskOf domain problem t) (f : Fault)
    → FailsIn k t (digest_of domain problem) f → HasNoAnswerYet k limit domain problem f
unsolved k limit domain problem t task f fails bytes noted = OfSearch (untouched bytes noted) t f task fails

-- why an answer is not written: memory ran out, or the writer has answered an error
unwritten_by : (k : Keeping) (limit : Option ℕ) (domain problem : List ℕ) (ending : Ending) (text : List ℕ) (old new : Option (List ℕ)) (before noted : Option ErrorKind)
    (error : WriteFault) (f : Fault)
    → IsKeptAnswer k limit domain problem ending text → AppendsShort old new text → KeepsFor old new error → IsNotedByWriter before noted error
    → TellsUnwritten error f → HasNoAnswer k limit domain problem old new before noted f
unwritten_by k limit domain problem ending text old new before noted unwritten.NoMemory f s short kept same told =
    subst (HasNoAnswer k limit domain problem old new before noted) (sym told)
    (OfWriting (record { bytes = kept; fault = same }) text (record { ending = ending; answer = s }))
unwritten_by k limit domain problem ending text old new before noted (unwritten.Device kind) f s short kept same told =
    OfOutput f
    (failed (IsAnswerText k limit domain problem) text old new noted f (record { ending = ending; answer = s }) short
    (record { kind = kind; is_noted = same; told = told }))

answer_unwritten : (k : Keeping) (limit : Option ℕ) (domain problem : List ℕ) (ending : Ending) (text : List ℕ) (old new : Option (List ℕ)) (before noted : Option ErrorKind)
    (f : Fault)
    → IsKeptAnswer k limit domain problem ending text → IsUnwritten text old new before noted f → HasNoAnswer k limit domain problem old new before noted f
answer_unwritten k limit domain problem ending text old new before noted f s u =
    unwritten_by k limit domain problem ending text old new before noted u.error f s u.short u.memory u.answered u.told

-- a beginning of the answer's text is written then
front_unwritten : (k : Keeping) (limit : Option ℕ) (domain problem : List ℕ) (ending : Ending) (text : List ℕ) (old new : Option (List ℕ)) (before noted : Option ErrorKind)
    (f : Fault)
    → IsKeptAnswer k limit domain problem ending text → IsUnwritten text old new before noted f → WritesFrontOfA (IsAnswerText k limit domain problem) old new
front_unwritten k limit domain problem ending text old new before noted f s u = record {
  text = text;
  count = u.short.0;
  within = u.short.1;
  is = record { ending = ending; answer = s };
  bytes = u.short.2;
}

-- ---- what is written, by what is answered

pub all_written : (k : Keeping) (limit : Option ℕ) (domain problem : List ℕ) (told : Told) (old new : Option (List ℕ)) (r : Result Ending Fault)
    → IsKeptAnswer k limit domain problem told.ending (printed told.plan) → IfOk r (λ ending. ending ≡ told.ending)
    → OnOk r (Appends old new (printed told.plan)) → IfOk r (Writes k limit domain problem old new)
all_written k limit domain problem told old new (Ok ending) answer ends bytes =
    subst (Writes k limit domain problem old new) (sym ends) (record { text = printed told.plan; answer = answer; bytes = bytes })
all_written k limit domain problem told old new (Err f) answer ends bytes = tt

pub front_written : (k : Keeping) (limit : Option ℕ) (domain problem : List ℕ) (told : Told) (old new : Option (List ℕ)) (before noted : Option ErrorKind)
    (r : Result Ending Fault)
    → IsKeptAnswer k limit domain problem told.ending (printed told.plan) → IfErr r (IsUnwritten (printed told.plan) old new before noted)
    → OnErr r ((new ≡ old) ⊎ WritesFrontOfA (IsAnswerText k limit domain problem) old new)
front_written k limit domain problem told old new before noted (Ok ending) answer u = tt
front_written k limit domain problem told old new before noted (Err f) answer u =
    inr (front_unwritten k limit domain problem told.ending (printed told.plan) old new before noted f answer u)

pub not_written : (k : Keeping) (limit : Option ℕ) (domain problem : List ℕ) (told : Told) (old new : Option (List ℕ)) (before noted : Option ErrorKind)
    (r : Result Ending Fault)
    → IsKeptAnswer k limit domain problem told.ending (printed told.plan) → IfErr r (IsUnwritten (printed told.plan) old new before noted)
    → IfErr r (HasNoAnswer k limit domain problem old new before noted)
not_written k limit domain problem told old new before noted (Ok ending) answer u = tt
not_written k limit domain problem told old new before noted (Err f) answer u =
    answer_unwritten k limit domain problem told.ending (printed told.plan) old new before noted f answer u

-- the same of answers
pub all_answered : (k : Keeping) (limit : Option ℕ) (domain problem : List ℕ) (t : Task) (task : IsTaskOf domain problem t) (digest : List ℕ) (r : Result Told Fault)
    → digest ≡ digest_of domain problem → IfOk r (λ told. IsKeptSolution k limit t digest told.ending (printed told.plan))
    → IfOk r (λ told. IsKeptAnswer k limit domain problem told.ending (printed told.plan))
all_answered k limit domain problem t task digest r is s =
    ok_weaker r (λ told. answered k limit domain problem t task told.ending (printed told.plan))
    (subst (λ (d : List ℕ). IfOk r (λ told. IsKeptSolution k limit t d told.ending (printed told.plan))) is s)

pub none_answered : (k : Keeping) (limit : Option ℕ) (domain problem : List ℕ) (t : Task) (task : IsTaskOf domain problem t) (digest : List ℕ) (r : Result Told Fault)
    → digest ≡ digest_of domain problem → IfErr r (FailsIn k t digest) → IfErr r (HasNoAnswerYet k limit domain problem)
none_answered k limit domain problem t task digest r is s =
    err_weaker r (unsolved k limit domain problem t task) (subst (λ (d : List ℕ). IfErr r (FailsIn k t d)) is s)
