-- A plan of steps is validated or has a first fault: never both, and never neither. It has one
-- first fault, and one cost.
use Rattle.std.proofs.Common.{◌≡◌, ℕ, ◌+◌, List, [], ◌∷◌, Some, None, pos, inl, inr, refl, sym, ap, ◌∙◌, subst}
use Rattle.std.specs.List.{AllZip}
use Rattle.std.proofs.lemmas.Option.{none-some, same_Some}
use Rattle.hd_plan.specs.declared.step.Step.{Step}
use Rattle.hd_lifted.specs.declared.instance.Instance.{Instance}
use Rattle.hd_lifted.specs.declared.task.LiftedTask.{LiftedTask}
use Rattle.hd_lifted.specs.WellFormed.{HasDistinctNames}
use Rattle.hd_lifted.specs.Steps.{Reached, start}
use Rattle.hd_lifted.specs.Plans.{step_by, IsValidAt}
use Rattle.hd_lifted.proofs.Costs.{one_cost}
use Rattle.hd_judge.specs.declared.fault.PlanFault.{PlanFault}
use Rattle.hd_judge.specs.declared.fault.PlanFault.TheVariants.{NoSuchAction}
use Rattle.hd_judge.specs.Asking.{asked_of_step, asked_of_goal}
use Rattle.hd_judge.specs.Validity.{ClearsFrom}
use Rattle.hd_judge.proofs.Asked.{taken-from_unasked, taken-leads}
use Rattle.hd_judge.proofs.Along.{validated-from_faultless, faultless-from_validated, faultless-cost}
use Rattle.hd_plan.specs.Naming.{IsStep}
use Rattle.hd_plan.specs.Plans.{IsValidatedBy, PassesBy, TellsStepBy, names_none, fails_named, TellsFromBy, ClearsFromBy, IsFirstFaultBy}
use Rattle.hd_plan.proofs.Apart.{one_step, one_plan}

-- ---- one step

-- a step that passes reports nothing
passes_tells : (t : LiftedTask) (r to : Reached) (n : ℕ) (s : Step) (e : PlanFault) → HasDistinctNames t → PassesBy t r n s to → TellsStepBy t r n s e → ⊥
passes_tells t r to n s e distinct p (names_none none is) = none p.instance p.is_step
passes_tells t r to n s e distinct p (fails_named i step tells) =
    none-some e (sym p.passes.unasked ∙ (ap (asked_of_step t r n) (one_step t s p.instance i distinct p.is_step step) ∙ tells))

-- a step passes to one place
passes_once : (t : LiftedTask) (r to other : Reached) (n : ℕ) (s : Step) → HasDistinctNames t → PassesBy t r n s to → PassesBy t r n s other → to ≡ other
passes_once t r to other n s distinct p q =
    same_Some to other (sym p.passes.leads ∙ (ap (step_by t r) (one_step t s p.instance q.instance distinct p.is_step q.is_step) ∙ q.passes.leads))

-- one step reports one fault
step_tells_once : (t : LiftedTask) (r : Reached) (n : ℕ) (s : Step) (d e : PlanFault) → HasDistinctNames t → TellsStepBy t r n s d → TellsStepBy t r n s e → d ≡ e
step_tells_once t r n s d e distinct (names_none none is) (names_none also other) = is ∙ sym other
step_tells_once t r n s d e distinct (names_none none is) (fails_named i step tells) = absurd (none i step)
step_tells_once t r n s d e distinct (fails_named i step tells) (names_none none is) = absurd (none i step)
step_tells_once t r n s d e distinct (fails_named i step tells) (fails_named j also other) =
    same_Some d e (sym tells ∙ (ap (asked_of_step t r n) (one_step t s i j distinct step also) ∙ other))

-- ---- plans

-- never both
clears_tells : (t : LiftedTask) (r : Reached) (n : ℕ) (steps : List Step) (end : Reached) (e : PlanFault) → HasDistinctNames t
    → ClearsFromBy t r n steps end → TellsFromBy t r n steps e → ⊥
clears_tells t r n [] end e distinct clears tells = none-some e (sym clears.1 ∙ tells)
clears_tells t r n (s ∷ steps) end e distinct clears tells =
    elim tells [
      | inl step ↦ passes_tells t r clears.0 n s e distinct clears.1 step
      | inr later ↦
          clears_tells t later.0 (n + 1) steps end e distinct
          (subst (λ (q : Reached). ClearsFromBy t q (n + 1) steps end) (passes_once t r clears.0 later.0 n s distinct clears.1 later.1) clears.2) later.2
    ]

-- one fault
tells_once : (t : LiftedTask) (r : Reached) (n : ℕ) (steps : List Step) (d e : PlanFault) → HasDistinctNames t
    → TellsFromBy t r n steps d → TellsFromBy t r n steps e → d ≡ e
tells_once t r n [] d e distinct one other = same_Some d e (sym one ∙ other)
tells_once t r n (s ∷ steps) d e distinct one other =
    elim one [
      | inl step ↦
          elim other [
            | inl also ↦ step_tells_once t r n s d e distinct step also
            | inr later ↦ absurd (passes_tells t r later.0 n s d distinct later.1 step)
          ]
      | inr later ↦
          elim other [
            | inl step ↦ absurd (passes_tells t r later.0 n s e distinct later.1 step)
            | inr also ↦
                tells_once t also.0 (n + 1) steps d e distinct
                (subst (λ (q : Reached). TellsFromBy t q (n + 1) steps d) (passes_once t r later.0 also.0 n s distinct later.1 also.1) later.2) also.2
          ]
    ]

-- never neither
clears_or_tells : (t : LiftedTask) (r : Reached) (n : ℕ) (steps : List Step)
    → ((end : Reached) → ClearsFromBy t r n steps end → ⊥) → ((e : PlanFault) → TellsFromBy t r n steps e → ⊥) → ⊥
clears_or_tells t r n [] clears tells =
    elim (asked_of_goal t r n) as (λ o. asked_of_goal t r n ≡ o → ⊥) [
      | None ↦ λ e. clears r (refl, e)
      | Some f ↦ λ e. tells f e
    ] refl
clears_or_tells t r n (s ∷ steps) clears tells =
    let none : (i : Instance) → IsStep t s i → ⊥ = λ i step.
    elim (asked_of_step t r n i) as (λ o. asked_of_step t r n i ≡ o → ⊥) [
      | None ↦ λ e.
          let leads = taken-leads t r i step.instance (taken-from_unasked t r n i step.instance e) in
          let to = leads.0 in
          let passes : PassesBy t r n s to = record {
            instance = i;
            is_step = step;
            passes = record { instance = step.instance; unasked = e; leads = leads.1 };
          } in
          clears_or_tells t to (n + 1) steps (λ end c. clears end (to, passes, c)) (λ f later. tells f (inr (to, passes, later)))
      | Some f ↦ λ e. tells f (inl (fails_named i step e))
    ] refl in
    tells (NoSuchAction n) (inl (names_none none refl))

-- ---- the list of instances

-- a list of instances whose steps these are, and which is without a fault
record IsClearedBy (t : LiftedTask) (r : Reached) (n : ℕ) (steps : List Step) (end : Reached) : Type 0 where
  plan : List Instance
  are_steps : AllZip (IsStep t) steps plan
  clears : ClearsFrom t r n plan end

cleared : (t : LiftedTask) (r : Reached) (n : ℕ) (steps : List Step) (end : Reached) → ClearsFromBy t r n steps end → IsClearedBy t r n steps end
cleared t r n [] end clears = record { plan = []; are_steps = tt; clears = clears }
cleared t r n (s ∷ steps) end clears =
    let rest = cleared t clears.0 (n + 1) steps end clears.2 in record {
      plan = clears.1.instance ∷ rest.plan;
      are_steps = (clears.1.is_step, rest.are_steps);
      clears = (clears.0, clears.1.passes, rest.clears);
    }

clears_by : (t : LiftedTask) (r : Reached) (n : ℕ) (steps : List Step) (p : List Instance) (end : Reached) → AllZip (IsStep t) steps p → ClearsFrom t r n p end
    → ClearsFromBy t r n steps end
clears_by t r n [] [] end are clears = clears
clears_by t r n [] (i ∷ p) end are clears = absurd are
clears_by t r n (s ∷ steps) [] end are clears = absurd are
clears_by t r n (s ∷ steps) (i ∷ p) end are clears =
    (clears.0, record { instance = i; is_step = are.0; passes = clears.1 }, clears_by t clears.0 (n + 1) steps p end are.1 clears.2)

-- steps without a fault are validated at the cost at the end
pub validated_by : (t : LiftedTask) (steps : List Step) (end : Reached) (cost : ℕ) → ClearsFromBy t (start t) 1 steps end → end.cost ≡ Some (pos cost)
    → IsValidatedBy t steps cost
validated_by t steps end cost clears is =
    let k = cleared t (start t) 1 steps end clears in
    record { plan = k.plan; are_steps = k.are_steps; validated = validated-from_faultless t k.plan end cost k.clears is }

pub validated_from : (t : LiftedTask) (r : Reached) (steps : List Step) (end : Reached) (cost : ℕ) → r ≡ start t → ClearsFromBy t r 1 steps end
    → end.cost ≡ Some (pos cost) → IsValidatedBy t steps cost
validated_from t r steps end cost begins clears is =
    validated_by t steps end cost (subst (λ (q : Reached). ClearsFromBy t q 1 steps end) begins clears) is

-- ---- the laws

pub validated-no_fault : (t : LiftedTask) (steps : List Step) (cost : ℕ) (e : PlanFault) → HasDistinctNames t → IsValidatedBy t steps cost → IsFirstFaultBy t steps e → ⊥
validated-no_fault t steps cost e distinct v tells =
    let f = faultless-from_validated t v.plan cost v.validated in
    clears_tells t (start t) 1 steps f.0 e distinct (clears_by t (start t) 1 steps v.plan f.0 v.are_steps f.1) tells

pub judged : (t : LiftedTask) (steps : List Step) → ((cost : ℕ) → IsValidatedBy t steps cost → ⊥) → ((e : PlanFault) → IsFirstFaultBy t steps e → ⊥) → ⊥
judged t steps validated tells =
    clears_or_tells t (start t) 1 steps
    (λ end clears.
    let c = faultless-cost t (cleared t (start t) 1 steps end clears).plan end (cleared t (start t) 1 steps end clears).clears in
    validated c.0 (validated_by t steps end c.0 clears c.1)) tells

pub first_fault-one : (t : LiftedTask) (steps : List Step) (d e : PlanFault) → HasDistinctNames t → IsFirstFaultBy t steps d → IsFirstFaultBy t steps e → d ≡ e
first_fault-one t steps d e distinct one other = tells_once t (start t) 1 steps d e distinct one other

same-pos : (m n : ℕ) → pos m ≡ pos n → m ≡ n
same-pos m n e = cc

pub one_cost_by : (t : LiftedTask) (steps : List Step) (c d : ℕ) → HasDistinctNames t → IsValidatedBy t steps c → IsValidatedBy t steps d → c ≡ d
one_cost_by t steps c d distinct v w =
    same-pos c d
    (one_cost t w.plan (pos c) (pos d)
    (subst (λ (p : List Instance). IsValidAt t p (pos c)) (one_plan t steps v.plan w.plan distinct v.are_steps w.are_steps) v.validated.valid)
    w.validated.valid)
