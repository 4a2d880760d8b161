-- The instance that a step names, and what is reported of the step.
use Rattle.std.proofs.Common.{◌≡◌, ◌≤◌, ℕ, List, [], ◌∷◌, length, get_or, arith, inl, Some, None, refl, subst}
use Rattle.std.specs.Prelude.{Result, Ok, Err, IfErr}
use Rattle.std.specs.List.{position}
use Rattle.std.specs.Str.{bytes_eq}
use Rattle.hd_plan.specs.declared.step.Step.{Step}
use Rattle.hd_lifted.specs.declared.schema.Schema.{Schema}
use Rattle.hd_lifted.specs.declared.instance.Instance.{Instance}
use Rattle.hd_lifted.specs.declared.task.LiftedTask.{LiftedTask}
use Rattle.hd_lifted.specs.WellFormed.{HasDistinctNames}
use Rattle.hd_lifted.specs.Steps.{Reached, start}
use Rattle.hd_lifted.specs.Plans.{IsInstance}
use Rattle.hd_judge.specs.declared.fault.PlanFault.{PlanFault}
use Rattle.hd_judge.specs.declared.fault.PlanStop.{PlanStop}
use Rattle.hd_judge.specs.declared.fault.PlanStop.TheVariants as stops
use Rattle.hd_judge.specs.Fault.{StopsBy}
use Rattle.hd_judge.specs.Validity.{TellsStep, no_instance, fails}
use Rattle.hd_plan.specs.Naming.{HasNamesOf}
use Rattle.hd_plan.specs.Tables.{names_of_objects, names_of_schemas, numbers_of}
use Rattle.hd_plan.specs.Plans.{TellsStepBy, names_none, fails_named, TellsFromBy, IsFirstFaultBy}
use Rattle.hd_plan.proofs.Finding.{found_at, found_nowhere, named_at, name_at, objects_named, objects_unnamed}
use Rattle.hd_plan.proofs.Apart.{one_instance}

-- ---- finding

-- the schema and the objects that are found are those of the names
pub names_found : (t : LiftedTask) (s : Step) (schema : ℕ) (objects : List ℕ) → position (bytes_eq s.name) (names_of_schemas t.schemas) ≡ Some schema
    → numbers_of (names_of_objects t.objects) s.args ≡ Some objects → HasNamesOf t s (record { schema = schema; objects = objects })
names_found t s schema objects e f = record {
  schema = named_at (λ (a : Schema). a.name) t.schemas schema s.name (found_at (names_of_schemas t.schemas) s.name schema e);
  objects = objects_named t s.args objects f;
}

-- no schema has the name
pub no_schema : (t : LiftedTask) (s : Step) → position (bytes_eq s.name) (names_of_schemas t.schemas) ≡ None → (i : Instance) → HasNamesOf t s i → ⊥
no_schema t s e i names = found_nowhere (names_of_schemas t.schemas) s.name i.schema e (name_at (λ (a : Schema). a.name) t.schemas i.schema s.name names.schema)

-- some object has not
pub no_objects : (t : LiftedTask) (s : Step) → numbers_of (names_of_objects t.objects) s.args ≡ None → (i : Instance) → HasNamesOf t s i → ⊥
no_objects t s e i names = objects_unnamed t s.args i.objects e names.objects

-- ---- telling

-- what is reported of the instance that has the names is reported of the step
tells_named : (t : LiftedTask) (r : Reached) (n : ℕ) (s : Step) (i : Instance) (fault : PlanFault) → HasDistinctNames t → HasNamesOf t s i
    → TellsStep t r n i fault → TellsStepBy t r n s fault
tells_named t r n s i fault distinct names (no_instance not is) =
    names_none (λ j step. not (subst (IsInstance t) (one_instance t s j i distinct step.names names) step.instance)) is
tells_named t r n s i fault distinct names (fails is tells) = fails_named i (record { instance = is; names = names }) tells

pub stops_named : (t : LiftedTask) (r : Reached) (n : ℕ) (s : Step) (i : Instance) (stop : PlanStop) → HasDistinctNames t → HasNamesOf t s i
    → StopsBy (TellsStep t r n i) stop → StopsBy (TellsStepBy t r n s) stop
stops_named t r n s i (stops.At fault) distinct names told = tells_named t r n s i fault distinct names told
stops_named t r n s i stops.NoMemory distinct names told = tt

pub judged_named : {X : Type 0} (t : LiftedTask) (r : Reached) (n : ℕ) (s : Step) (i : Instance) (result : Result X PlanStop) → HasDistinctNames t → HasNamesOf t s i
    → IfErr result (StopsBy (TellsStep t r n i)) → IfErr result (StopsBy (TellsStepBy t r n s))
judged_named t r n s i (Ok x) distinct names told = tt
judged_named t r n s i (Err stop) distinct names told = stops_named t r n s i stop distinct names told

-- ---- plans

-- what is reported of the first step is reported of the steps, and so of the whole
pub tells_first : (t : LiftedTask) (r from : Reached) (n : ℕ) (rest steps : List Step) (s d : Step) (stop : PlanStop) → 1 ≤ length rest → s ≡ get_or rest 0 d
    → ((fault : PlanFault) → TellsFromBy t r n rest fault → TellsFromBy t from 1 steps fault)
    → StopsBy (TellsStepBy t r n s) stop → StopsBy (TellsFromBy t from 1 steps) stop
tells_first t r from n [] steps s d stop some first whole told = absurd (no_less some) where
  no_less : 1 ≤ 0 → ⊥
  no_less h = omega (arith, h)
tells_first t r from n (x ∷ after) steps s d (stops.At fault) some first whole told = whole fault (inl (subst (λ (y : Step). TellsStepBy t r n y fault) first told))
tells_first t r from n (x ∷ after) steps s d stops.NoMemory some first whole told = tt

-- what is reported from the start is reported of the plan
pub tells_from : (t : LiftedTask) (r : Reached) (steps : List Step) (stop : PlanStop) → r ≡ start t → StopsBy (TellsFromBy t r 1 steps) stop → StopsBy (IsFirstFaultBy t steps) stop
tells_from t r steps stop begins told = subst (λ (q : Reached). StopsBy (TellsFromBy t q 1 steps) stop) begins told
