-- From the reason of a plan's steps to that of the texts which say them.
use Rattle.std.proofs.Common.{◌≡◌, ◌⊎◌, inl, inr, ℕ, List, Option, Some, None, Ok, Err, sym, subst, ◌∙◌}
use Rattle.std.specs.Prelude.{Result, IfOk, IfSome, IfNone}
use Rattle.hd_explain.specs.Plans.{TellsReason, NeedsNoReason}
use Rattle.hd_lifted.specs.declared.task.LiftedTask.{LiftedTask}
use Rattle.hd_plan.specs.declared.text_error.PlanTextError.{PlanTextError}
use Rattle.hd_plan.specs.declared.text_error.PlanTextError.TheVariants.{BadLine, NoMemory}
use Rattle.hd_plan.specs.declared.step.Step.{Step}
use Rattle.hd_plan.specs.Text.{ReadsAs, IsPlanTextFault}
use Rattle.hd_texts.specs.Tasks.{IsLiftedOf}
use Rattle.hplan.specs.Reasons.{TellsReasonIn, TellsReasonOf, NeedsNoReasonIn, NeedsNoReasonOf, Unread, OfSteps, InPlan}

-- ---- of a plan's text in a lifted task

pub told_in : {A E : Type 0} (bytes : A → List ℕ) (l : LiftedTask) (plan : List ℕ) (steps : List Step) → ReadsAs plan steps → (r : Result (Option A) E)
    → IfOk r (λ x. IfSome x (λ line. TellsReason l steps (bytes line))) → IfOk r (λ x. IfSome x (λ line. TellsReasonIn l plan (bytes line)))
told_in bytes l plan steps reads (Ok (Some x)) told = record { steps = steps; reads = reads; tells = told }
told_in bytes l plan steps reads (Ok None) told = tt
told_in bytes l plan steps reads (Err e) told = tt

pub none_in : {A E : Type 0} (l : LiftedTask) (plan : List ℕ) (steps : List Step) → ReadsAs plan steps → (r : Result (Option A) E)
    → IfOk r (λ x. IfNone x (NeedsNoReason l steps)) → IfOk r (λ x. IfNone x (NeedsNoReasonIn l plan))
none_in l plan steps reads (Ok (Some x)) none = tt
none_in l plan steps reads (Ok None) none = OfSteps steps reads none
none_in l plan steps reads (Err e) none = tt

pub unread_in : (l : LiftedTask) (plan : List ℕ) (error : PlanTextError) (line : ℕ) → error ≡ BadLine line
    → (error ≡ NoMemory) ⊎ IsPlanTextFault plan error → NeedsNoReasonIn l plan
unread_in l plan error line is (inl e) = let no : BadLine line ≡ NoMemory = sym is ∙ e in absurd (cc)
unread_in l plan error line is (inr bad) = Unread line (subst (IsPlanTextFault plan) is bad)

-- ---- of three texts

pub told_of : {A E : Type 0} (bytes : A → List ℕ) (domain problem plan : List ℕ) (l : LiftedTask) → IsLiftedOf domain problem l → (r : Result (Option A) E)
    → IfOk r (λ x. IfSome x (λ line. TellsReasonIn l plan (bytes line))) → IfOk r (λ x. IfSome x (λ line. TellsReasonOf domain problem plan (bytes line)))
told_of bytes domain problem plan l says (Ok (Some x)) told = record { lifted = l; is_lifted = says; tells = told }
told_of bytes domain problem plan l says (Ok None) told = tt
told_of bytes domain problem plan l says (Err e) told = tt

pub none_of : {A E : Type 0} (domain problem plan : List ℕ) (l : LiftedTask) → IsLiftedOf domain problem l → (r : Result (Option A) E)
    → IfOk r (λ x. IfNone x (NeedsNoReasonIn l plan)) → IfOk r (λ x. IfNone x (NeedsNoReasonOf domain problem plan))
none_of domain problem plan l says (Ok (Some x)) none = tt
none_of domain problem plan l says (Ok None) none = InPlan l says none
none_of domain problem plan l says (Err e) none = tt
