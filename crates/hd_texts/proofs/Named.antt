-- The steps of a plan name the instances of its actions.
use Rattle.std.proofs.Common.{◌≡◌, ℕ, List, [], ◌∷◌, map, Some, slice_get, refl, sym, ap, ◌∙◌, subst}
use Rattle.std.specs.Prelude.{option_map, unwrap_or}
use Rattle.std.specs.List.{AllZip, AllByRecursion}
use Rattle.std.specs.Option.{IsSomeAnd}
use Rattle.std.proofs.lemmas.Option.{slice_get-map}
use Rattle.hd_plan.specs.declared.step.Step.{Step}
use Rattle.hd_plan.specs.Text as texts
use Rattle.hd_plan.specs.Text.{IsLowerName}
use Rattle.hd_lifted.specs.declared.schema.Schema.{Schema}
use Rattle.hd_lifted.specs.declared.task.Object.{Object}
use Rattle.hd_lifted.specs.declared.task.LiftedTask.{LiftedTask}
use Rattle.hd_lifted.specs.declared.instance.Instance.{Instance}
use Rattle.hd_lifted.specs.Objects.{IsOfType}
use Rattle.hd_lifted.specs.Plans.{IsInstance}
use Rattle.hd_task.specs.declared.action.Action.{Action}
use Rattle.hd_task.specs.declared.task.Task.{Task}
use Rattle.hd_task.specs.FormText.{name_at}
use Rattle.hd_grounding.specs.Grounding.{IsGrounding, names_in}
use Rattle.hd_grounding.proofs.Grounded.{instance_kept, kept_action}
use Rattle.hd_grounding.specs.Instances.{instance_of, instances_of}
use Rattle.hd_grounding.proofs.Runs.{IsNamed, instance_is, plan_of-named}
use Rattle.hd_plan.specs.Naming.{IsSchemaNamed, IsObjectNamed, HasNamesOf, IsStep}
use Rattle.hd_texts.specs.Printing.{step_of_form, step_by_action, numbered_step, steps_of, HasTextNames}

-- the name of what stands at a place
name-at : {X : Type 0} (name : X → List ℕ) (xs : List X) (n : ℕ) (x : X) → slice_get xs n ≡ Some x → name_at (map name xs) n ≡ name x
name-at name xs n x at = ap (λ o. unwrap_or o []) (slice_get-map name xs n ∙ ap (option_map name) at)

module _ (t : LiftedTask) where
  abbrev object_name : ℕ → List ℕ
  object_name n = name_at (names_in t).objects n

  schema_named : (n : ℕ) (a : Schema) → slice_get t.schemas n ≡ Some a → IsSchemaNamed t n (name_at (names_in t).schemas n)
  schema_named n a at =
      subst (λ o. IsSomeAnd o (λ (b : Schema). b.name ≡ name_at (names_in t).schemas n)) (sym at) (sym (name-at (λ (b : Schema). b.name) t.schemas n a at))

  object_named : (n : ℕ) (o : Object) → slice_get t.objects n ≡ Some o → IsObjectNamed t n (object_name n)
  object_named n o at =
      subst (λ x. IsSomeAnd x (λ (b : Object). b.name ≡ object_name n)) (sym at) (sym (name-at (λ (b : Object). b.name) t.objects n o at))

  objects_named : (objects types : List ℕ) → AllZip (IsOfType t) objects types → AllZip (IsObjectNamed t) objects (map object_name objects)
  objects_named [] types of = tt
  objects_named (o ∷ os) [] of = absurd of
  objects_named (o ∷ os) (y ∷ ys) of = (object_named o of.0.declared of.0.is_declared, objects_named os ys of.1)

  objects_lower : HasTextNames t → (objects types : List ℕ) → AllZip (IsOfType t) objects types → AllByRecursion IsLowerName (map object_name objects)
  objects_lower names [] types of = tt
  objects_lower names (o ∷ os) [] of = absurd of
  objects_lower names (o ∷ os) (y ∷ ys) of =
      let d = of.0.declared in
      (subst IsLowerName (sym (name-at (λ (b : Object). b.name) t.objects o d of.0.is_declared)) (names.objects o d of.0.is_declared), objects_lower names os ys of.1)

  -- the step with the names of an instance
  abbrev step_for : Instance → Step
  step_for i = record { name = name_at (names_in t).schemas i.schema; args = map object_name i.objects }

  step_named : (i : Instance) → IsInstance t i → IsStep t (step_for i) i
  step_named i is = record {
    instance = is;
    names = record { schema = schema_named i.schema is.schema is.is_schema; objects = objects_named i.objects is.schema.parameters is.typed };
  }

  step_lower : HasTextNames t → (i : Instance) → IsInstance t i → texts.IsStep (step_for i)
  step_lower names i is = record {
    name = subst IsLowerName (sym (name-at (λ (b : Schema). b.name) t.schemas i.schema is.schema is.is_schema)) (names.schemas i.schema is.schema is.is_schema);
    args = objects_lower names i.objects is.schema.parameters is.typed;
  }

module _ (t : LiftedTask) (u : Task) (made : IsGrounding t u) where
  step-is : (n : ℕ) (b : Action) → slice_get u.actions n ≡ Some b → numbered_step u n ≡ step_for t (instance_of b)
  step-is n b at = ap (step_by_action u) at ∙ ap (λ names. step_of_form names b.form) made.names_are

  pub action-instance : (n : ℕ) (b : Action) → slice_get u.actions n ≡ Some b → IsInstance t (instance_of b)
  action-instance n b at =
      let from = kept_action t u made n b at in
      subst (IsInstance t) (sym (instance_is t u made from.0 b from.2)) (instance_kept t from.0 from.1)

  pub are_steps : (p : List ℕ) → AllByRecursion (IsNamed u) p → AllZip (IsStep t) (steps_of u p) (instances_of u p)
  are_steps [] named = tt
  are_steps (n ∷ p) named =
      let b = named.0.0 in
      let at = named.0.1 in
      let first : IsStep t (numbered_step u n) (instance_of b) =
      subst (λ s. IsStep t s (instance_of b)) (sym (step-is n b at)) (step_named t (instance_of b) (action-instance n b at)) in
      let both : AllZip (IsStep t) (steps_of u (n ∷ p)) (instance_of b ∷ instances_of u p) = (first, are_steps p named.1) in
      subst (AllZip (IsStep t) (steps_of u (n ∷ p))) (sym (plan_of-named t u made n b p at)) both

  pub lower_steps : HasTextNames t → (p : List ℕ) → AllByRecursion (IsNamed u) p → AllByRecursion texts.IsStep (steps_of u p)
  lower_steps names [] named = tt
  lower_steps names (n ∷ p) named =
      let b = named.0.0 in
      let at = named.0.1 in
      (subst texts.IsStep (sym (step-is n b at)) (step_lower t names (instance_of b) (action-instance n b at)), lower_steps names p named.1)
