-- A plan has no first fault and is without one, or the other way round: never both, and never
-- neither. A first fault is one.
use Rattle.std.proofs.Common.{◌≡◌, ℕ, ◌+◌, List, [], ◌∷◌, Some, None, inl, inr, refl, sym, ◌∙◌, subst}
use Rattle.std.proofs.lemmas.Option.{none-some, same_Some}
use Rattle.hd_lifted.specs.declared.task.LiftedTask.{LiftedTask}
use Rattle.hd_lifted.specs.declared.instance.Instance.{Instance}
use Rattle.hd_lifted.specs.Steps.{Reached}
use Rattle.hd_lifted.specs.Plans.{IsInstance}
use Rattle.hd_judge.specs.declared.fault.PlanFault.{PlanFault}
use Rattle.hd_judge.specs.declared.fault.PlanFault.TheVariants.{NoSuchAction}
use Rattle.hd_judge.specs.Asking.{asked_of_step, asked_of_goal}
use Rattle.hd_judge.specs.Validity.{Passes, TellsStep, no_instance, fails, TellsFrom, ClearsFrom}
use Rattle.hd_judge.proofs.Asked.{taken-from_unasked, taken-leads}

-- a step that passes reports nothing
pub passes_tells : (t : LiftedTask) (r : Reached) (n : ℕ) (i : Instance) (to : Reached) (e : PlanFault) → Passes t r n i to → TellsStep t r n i e → ⊥
passes_tells t r n i to e p (no_instance not is) = not p.instance
passes_tells t r n i to e p (fails is tells) = none-some e (sym p.unasked ∙ tells)

-- a step passes to one place
pub passes_once : (t : LiftedTask) (r : Reached) (n m : ℕ) (i : Instance) (to other : Reached) → Passes t r n i to → Passes t r m i other → to ≡ other
passes_once t r n m i to other p q = same_Some to other (sym p.leads ∙ q.leads)

-- never both
pub clears_tells : (t : LiftedTask) (r : Reached) (n : ℕ) (p : List Instance) (end : Reached) (e : PlanFault) → ClearsFrom t r n p end → TellsFrom t r n p e → ⊥
clears_tells t r n [] end e clears tells = none-some e (sym clears.1 ∙ tells)
clears_tells t r n (i ∷ p) end e clears tells =
    elim tells [
      | inl step ↦ passes_tells t r n i clears.0 e clears.1 step
      | inr later ↦
          clears_tells t later.0 (n + 1) p end e
          (subst (λ (r : Reached). ClearsFrom t r (n + 1) p end) (passes_once t r n n i clears.0 later.0 clears.1 later.1) clears.2) later.2
    ]

-- one step reports one fault
step_tells_once : (t : LiftedTask) (r : Reached) (n : ℕ) (i : Instance) (d e : PlanFault) → TellsStep t r n i d → TellsStep t r n i e → d ≡ e
step_tells_once t r n i d e (no_instance not is) (no_instance also other) = is ∙ sym other
step_tells_once t r n i d e (no_instance not is) (fails one other) = absurd (not one)
step_tells_once t r n i d e (fails one is) (no_instance not other) = absurd (not one)
step_tells_once t r n i d e (fails one is) (fails also other) = same_Some d e (sym is ∙ other)

-- a plan has one first fault
pub tells_once : (t : LiftedTask) (r : Reached) (n : ℕ) (p : List Instance) (d e : PlanFault) → TellsFrom t r n p d → TellsFrom t r n p e → d ≡ e
tells_once t r n [] d e one other = same_Some d e (sym one ∙ other)
tells_once t r n (i ∷ p) d e one other =
    elim one [
      | inl step ↦ elim other [ inl also ↦ step_tells_once t r n i d e step also | inr later ↦ absurd (passes_tells t r n i later.0 d later.1 step) ]
      | inr later ↦
          elim other [
            | inl step ↦ absurd (passes_tells t r n i later.0 e later.1 step)
            | inr also ↦
                tells_once t also.0 (n + 1) p d e
                (subst (λ (r : Reached). TellsFrom t r (n + 1) p d) (passes_once t r n n i later.0 also.0 later.1 also.1) later.2) also.2
          ]
    ]

-- never neither
pub clears_or_tells :
    (t : LiftedTask) (r : Reached) (n : ℕ) (p : List Instance) → ((end : Reached) → ClearsFrom t r n p end → ⊥) → ((e : PlanFault) → TellsFrom t r n p e → ⊥) → ⊥
clears_or_tells t r n [] clears tells =
    elim (asked_of_goal t r n) as (λ o. asked_of_goal t r n ≡ o → ⊥) [
      | None ↦ λ e. clears r (refl, e)
      | Some f ↦ λ e. tells f e
    ] refl
clears_or_tells t r n (i ∷ p) clears tells =
    let not_instance : IsInstance t i → ⊥ = λ is.
    elim (asked_of_step t r n i) as (λ o. asked_of_step t r n i ≡ o → ⊥) [
      | None ↦ λ e.
          let leads = taken-leads t r i is (taken-from_unasked t r n i is e) in
          let to = leads.0 in
          let passes : Passes t r n i to = record { instance = is; unasked = e; leads = leads.1 } in
          clears_or_tells t to (n + 1) p (λ end c. clears end (to, passes, c)) (λ f later. tells f (inr (to, passes, later)))
      | Some f ↦ λ e. tells f (inl (fails is e))
    ] refl in
    tells (NoSuchAction n) (inl (no_instance not_instance refl))
