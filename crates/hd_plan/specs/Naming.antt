-- Which instance a step names: a step gives the names of a schema and of objects. (Names are those
-- of PDDL 2.1.)
use Rattle.std.specs.Prelude.{◌≡◌, ℕ, List, slice_get}
use Rattle.std.specs.List.{AllZip}
use Rattle.std.specs.Option.{IsSomeAnd}
use Rattle.hd_plan.specs.declared.step.Step.{Step}
use Rattle.hd_lifted.specs.declared.schema.Schema.{Schema}
use Rattle.hd_lifted.specs.declared.instance.Instance.{Instance}
use Rattle.hd_lifted.specs.declared.task.Object as declared
use Rattle.hd_lifted.specs.declared.task.LiftedTask.{LiftedTask}
use Rattle.hd_lifted.specs.Plans.{IsInstance}

-- a number is that of the schema of this name
abbrev pub IsSchemaNamed : LiftedTask → ℕ → List ℕ → Type 0
IsSchemaNamed t number name = IsSomeAnd (slice_get t.schemas number) (λ (a : Schema). a.name ≡ name)

-- a number is that of the object of this name
abbrev pub IsObjectNamed : LiftedTask → ℕ → List ℕ → Type 0
IsObjectNamed t number name = IsSomeAnd (slice_get t.objects number) (λ (o : declared.Object). o.name ≡ name)

-- the numbers are those that the names of a step stand for: the schema's, and the objects' in
-- order, as many as the step has
pub record HasNamesOf (t : LiftedTask) (s : Step) (i : Instance) : Type 0 where
  pub schema : IsSchemaNamed t i.schema s.name
  pub objects : AllZip (IsObjectNamed t) i.objects s.args

-- a step is one of an instance of the task
pub record IsStep (t : LiftedTask) (s : Step) (i : Instance) : Type 0 where
  pub instance : IsInstance t i
  pub names : HasNamesOf t s i
