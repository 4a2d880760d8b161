-- What the steps of a plan do: of one step, and of the whole.
use Rattle.std.proofs.Common.{◌≡◌, ◌<◌, ◌≤◌, ℕ, List, [], ◌∷◌, ◌++◌, length, get_or, arith, Option, Some, None, Ok, Err, inl, refl, sym, subst, append-nil}
use Rattle.std.specs.Prelude.{Result, IfOk, IfNone}
use Rattle.std.proofs.lemmas.List.{nil_from_length}
use Rattle.hd_plan.specs.declared.step.Step.{Step}
use Rattle.hd_lifted.specs.declared.task.LiftedTask.{LiftedTask}
use Rattle.hd_lifted.specs.declared.instance.Instance.{Instance}
use Rattle.hd_lifted.specs.WellFormed.{HasDistinctNames}
use Rattle.hd_lifted.specs.Plans.{IsInstance}
use Rattle.hd_lifted.specs.Steps.{Reached}
use Rattle.hd_judge.specs.declared.fault.PlanFault.TheVariants.{NoSuchAction}
use Rattle.hd_judge.specs.declared.fault.PlanStop.TheVariants as stops
use Rattle.hd_judge.specs.Validity.{no_instance}
use Rattle.hd_plan.specs.Naming.{HasNamesOf}
use Rattle.hd_plan.specs.Plans.{names_none}
use Rattle.hd_plan.proofs.Stepping.{stops_named}
use Rattle.hd_explain.specs.Traces.{TracesFrom, FailsAt, FailsAtStep}

-- ---- one step

pub instance_missing : (t : LiftedTask) (r : Reached) (n : ℕ) (i : Instance) → (IsInstance t i → ⊥) → FailsAt t r n i
instance_missing t r n i none = (NoSuchAction n, no_instance none refl)

pub step_missing : (t : LiftedTask) (r : Reached) (n : ℕ) (s : Step) → ((i : Instance) → HasNamesOf t s i → ⊥) → FailsAtStep t r n s
step_missing t r n s none = (NoSuchAction n, names_none (λ i step. none i step.names) refl)

pub step_failed : {A E : Type 0} (t : LiftedTask) (r : Reached) (n : ℕ) (s : Step) (i : Instance) (answer : Result (Option A) E) → HasDistinctNames t
    → HasNamesOf t s i → IfOk answer (λ o. IfNone o (FailsAt t r n i)) → IfOk answer (λ o. IfNone o (FailsAtStep t r n s))
step_failed t r n s i (Ok None) distinct names fails = (fails.0, stops_named t r n s i (stops.At fails.0) distinct names fails.1)
step_failed t r n s i (Ok (Some x)) distinct names fails = tt
step_failed t r n s i (Err e) distinct names fails = tt

-- ---- steps

-- no step is left
pub trace_ended : (t : LiftedTask) (r from : Reached) (n : ℕ) (rest steps : List Step) (text : List ℕ) → length rest < 1
    → ((after : List ℕ) → TracesFrom t r n rest after → TracesFrom t from 1 steps (text ++ after)) → TracesFrom t from 1 steps text
trace_ended t r from n rest steps text below whole =
    let none : length rest ≡ 0 = omega (arith, below) in
    subst (TracesFrom t from 1 steps) (append-nil text) (whole [] (subst (λ (ss : List Step). TracesFrom t r n ss []) (sym (nil_from_length rest none)) refl))

no_less : 1 ≤ 0 → ⊥
no_less h = omega (arith, h)

-- the next step has a fault
pub trace_stopped : (t : LiftedTask) (r from : Reached) (n : ℕ) (rest steps : List Step) (s d : Step) (text : List ℕ) → 1 ≤ length rest → s ≡ get_or rest 0 d
    → ((after : List ℕ) → TracesFrom t r n rest after → TracesFrom t from 1 steps (text ++ after)) → FailsAtStep t r n s
    → TracesFrom t from 1 steps text
trace_stopped t r from n [] steps s d text some first whole fails = absurd (no_less some)
trace_stopped t r from n (x ∷ after) steps s d text some first whole fails =
    let failed = subst (λ (y : Step). FailsAtStep t r n y) first fails in
    subst (TracesFrom t from 1 steps) (append-nil text) (whole [] (inl (failed.0, failed.1, refl)))
