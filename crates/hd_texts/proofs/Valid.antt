-- A plan of a grounding from which nothing departs is validated in the lifted task.
use Rattle.std.proofs.Common.{◌≡◌, ◌⊎◌, inl, inr, ℕ, Bool, true, false, not, List, [], ◌∷◌, ◌++◌, map, Contains, Option, Some, None, slice_get, refl, sym, ap, ap₂, ◌∙◌, subst, true≢false, pos}
use Rattle.std.specs.Prelude.{option_and_then}
use Rattle.std.specs.List.{AllByRecursion}
use Rattle.std.proofs.lemmas.Bool.{false_from_ne_true}
use Rattle.std.proofs.lemmas.Option.{none-some}
use Rattle.hd_base.proofs.Tests.{find-None}
use Rattle.hd_base.proofs.Members.{Contains-cons_cases, Contains-nil}
use Rattle.hd_base.proofs.Lists.{cons_parts}
use Rattle.hd_lifted.specs.declared.schema.Ground.{Ground}
use Rattle.hd_lifted.specs.declared.task.LiftedTask.{LiftedTask}
use Rattle.hd_lifted.specs.declared.instance.Instance.{Instance}
use Rattle.hd_lifted.specs.Departures as ranges
use Rattle.hd_lifted.specs.Plans as lifted
use Rattle.hd_lifted.specs.Plans.{IsInstance}
use Rattle.hd_lifted.specs.Steps.{Reached}
use Rattle.hd_task.specs.declared.action.Action.{Action}
use Rattle.hd_task.specs.declared.task.Task.{Task}
use Rattle.hd_task.specs.Plans.{Node, start, step_by, exec, exec_from, IsValidAt}
use Rattle.hd_task.proofs.Runs.{exec_from-none}
use Rattle.hd_lifted.specs.Kept.{IsKept}
use Rattle.hd_lifted.specs.Met.{met_by, met_by_goal}
use Rattle.hd_lifted.specs.Numbering.{IsTaskFluent}
use Rattle.hd_grounding.specs.Grounding.{IsGrounding}
use Rattle.hd_grounding.specs.Faults as faults
use Rattle.hd_grounding.proofs.Faulty as grounded
use Rattle.hd_grounding.proofs.Grounded.{kept_action, first_there}
use Rattle.hd_grounding.specs.Instances.{instance_of, instances_of}
use Rattle.hd_grounding.proofs.Runs.{IsNamed, instance_is, plan_of-named, all_named, valid_there}
use Rattle.hd_grounding.proofs.Departing.{actions_depart, goals_depart}
use Rattle.hd_lifted.specs.Questions.{is_defined, costs_negative}
use Rattle.hd_judge.specs.Validity.{NoStepDeparts, IsValidated}
use Rattle.hd_plan.specs.Plans.{IsValidatedBy}
use Rattle.hd_texts.specs.Printing.{steps_of, GoesThrough, GroundGoalStays}
use Rattle.hd_texts.proofs.Named.{are_steps}

nil-split : (before after : List Instance) (i : Instance) → [] ≡ before ++ i ∷ after → ⊥
nil-split [] after i e = cc
nil-split (b ∷ before) after i e = cc

-- a plan where its instances are parted
record IsParted (u : Task) (p : List ℕ) (before : List Instance) (i : Instance) : Type 0 where
  pub front : List ℕ
  pub number : ℕ
  pub back : List ℕ
  pub action : Action
  pub parts : p ≡ front ++ number ∷ back
  pub front_is : instances_of u front ≡ before
  pub is_action : slice_get u.actions number ≡ Some action
  pub is : instance_of action ≡ i

module _ (t : LiftedTask) (u : Task) (made : IsGrounding t u) where
  parted : (p : List ℕ) → AllByRecursion (IsNamed u) p → (before after : List Instance) (i : Instance) → instances_of u p ≡ before ++ i ∷ after
      → IsParted u p before i
  parted [] named before after i e = absurd (nil-split before after i e)
  parted (n ∷ p) named [] after i e =
      let b = named.0.0 in
      let e : instance_of b ∷ instances_of u p ≡ i ∷ after = sym (plan_of-named t u made n b p named.0.1) ∙ e in
      record { front = []; number = n; back = p; action = b; parts = refl; front_is = refl; is_action = named.0.1; is = (cons_parts (instance_of b) i (instances_of u p) after e).0 }
  parted (n ∷ p) named (j ∷ before) after i e =
      let b = named.0.0 in
      let e : instance_of b ∷ instances_of u p ≡ j ∷ (before ++ i ∷ after) = sym (plan_of-named t u made n b p named.0.1) ∙ e in
      let rest = parted p named.1 before after i (cons_parts (instance_of b) j (instances_of u p) (before ++ i ∷ after) e).1 in
      record {
        front = n ∷ rest.front;
        number = rest.number;
        back = rest.back;
        action = rest.action;
        parts = ap (λ q. n ∷ q) rest.parts;
        front_is = plan_of-named t u made n b rest.front named.0.1 ∙ ap₂ (λ x xs. x ∷ xs) (cons_parts (instance_of b) j (instances_of u p) (before ++ i ∷ after) e).0 rest.front_is;
        is_action = rest.is_action;
        is = rest.is;
      }

  stuck : (front back : List ℕ) (q : Option Node) (m : Node) → exec_from u q front ≡ None → exec_from u q (front ++ back) ≡ Some m → ⊥
  stuck [] back q m none e = none-some m (sym (exec_from-none u back) ∙ (sym (ap (λ o. exec_from u o back) none) ∙ e))
  stuck (n ∷ front) back q m none e = stuck front back (option_and_then (λ r. step_by u r n) q) m none e

  -- a part of a plan that is executed is executed
  front_runs : (front back : List ℕ) (q : Option Node) (m : Node) → exec_from u q (front ++ back) ≡ Some m → (k : Node) × (exec_from u q front ≡ Some k)
  front_runs front back q m e =
      elim (exec_from u q front) as (λ o. exec_from u q front ≡ o → (k : Node) × (exec_from u q front ≡ Some k)) [
        | None ↦ λ none. absurd (stuck front back q m none e)
        | Some k ↦ λ is. (k, is)
      ] refl

  no_step_departs : (p : List ℕ) (m : Node) → exec u p ≡ Some m → GoesThrough u p → NoStepDeparts t (instances_of u p)
  no_step_departs p m e goes before after i r split ex =
      let part = parted p (all_named t u made p (Some (start u)) m e) before after i split in
      let k = front_runs part.front (part.number ∷ part.back) (Some (start u)) m (sym (ap (exec u) part.parts) ∙ e) in
      let there : lifted.exec t (instances_of u part.front) ≡ Some r = ap (lifted.exec t) part.front_is ∙ ex in
      ap (ranges.instance_departs t r) (sym part.is)
      ∙ (sym (actions_depart t u made part.front k.0 r part.number part.action k.1 there part.is_action)
      ∙ goes part.front part.back part.number k.0 part.parts k.1)

  -- each instance of a plan is kept
  kept_in : (p : List ℕ) → AllByRecursion (IsNamed u) p → (i : Instance) → Contains (instances_of u p) i → IsKept t i
  kept_in [] named i c = absurd (Contains-nil i c)
  kept_in (n ∷ p) named i c =
      let b = named.0.0 in
      let from = kept_action t u made n b named.0.1 in
      elim (Contains-cons_cases (instance_of b) (instances_of u p) i (subst (λ xs. Contains xs i) (plan_of-named t u made n b p named.0.1) c)) [
        | inl same ↦ subst (IsKept t) (sym (instance_is t u made from.0 b from.2) ∙ same) from.1
        | inr later ↦ kept_in p named.1 i later
      ]

  -- each fluent that is met has a first value
  none_undefined : (o : Option Ground) → faults.undefined_in t made.instances ≡ o → o ≡ None
  none_undefined None found = refl
  none_undefined (Some g) found =
      absurd (grounded.defined t u made g (record {
        fits = grounded.fits t u made;
        instances = made.instances;
        numbers_instances = made.numbers_instances;
        is_first = found;
      }))

  -- no kept instance costs less than 0 in each state
  first_negative : (i : Instance) → IsKept t i → (o : Option Instance) → faults.negative_in t made.instances ≡ o → faults.is_negative_instance t i ≡ true → ⊥
  first_negative i kept (Some j) found negative =
      grounded.not_negative t u made j (record {
        fits = grounded.fits t u made;
        instances = made.instances;
        numbers_instances = made.numbers_instances;
        none_undefined = none_undefined (faults.undefined_in t made.instances) refl;
        is_first = found;
      })
  first_negative i kept None none negative =
      true≢false (sym negative ∙ find-None (faults.is_negative_instance t) made.instances i none ((made.numbers_instances.exactly i).0 kept))

  not_negative : (i : Instance) (is : IsInstance t i) → IsKept t i → costs_negative t is.schema i.objects ≡ false
  not_negative i is kept =
      false_from_ne_true (costs_negative t is.schema i.objects)
      (λ negative. first_negative i kept (faults.negative_in t made.instances) refl (ap (λ o. faults.negative_with t o i.objects) is.is_schema ∙ negative))

  pub validated : (p : List ℕ) (cost : ℕ) → IsValidAt u p cost → GoesThrough u p → GroundGoalStays u p → IsValidated t (instances_of u p) cost
  validated p cost valid goes stays =
      let named = all_named t u made p (Some (start u)) valid.end valid.executes in record {
        valid = valid_there t u made p cost valid;
        steps_stay = no_step_departs p valid.end valid.executes goes;
        goal_stays = λ r ex. sym (goals_depart t u made p valid.end r valid.executes ex) ∙ stays valid.end valid.executes;
        steps_defined = λ i is g c met. first_there t u made g ((made.numbers_fluents.exactly g).0 (IsTaskFluent.met i is (kept_in p named i c) met));
        goal_defined = λ g met. first_there t u made g ((made.numbers_fluents.exactly g).0 (IsTaskFluent.wanted met));
        not_negative = λ i is c. not_negative i is (kept_in p named i c);
      }

  pub validated_by : (p : List ℕ) (cost : ℕ) → IsValidAt u p cost → GoesThrough u p → GroundGoalStays u p → IsValidatedBy t (steps_of u p) cost
  validated_by p cost valid goes stays = record {
    plan = instances_of u p;
    are_steps = are_steps t u made p (all_named t u made p (Some (start u)) valid.end valid.executes);
    validated = validated p cost valid goes stays;
  }
