-- The objects of a type, and the tuples of objects that parameters may stand for (PDDL 2.1,
-- typing).
use Rattle.std.specs.Prelude.{◌≡◌, ℕ, List, Some, slice_get}
use Rattle.std.specs.List.{AllZip}
use Rattle.hd_lifted.specs.declared.task.Object.{Object}
use Rattle.hd_lifted.specs.declared.task.LiftedTask.{LiftedTask}
use Rattle.hd_lifted.specs.Types.{IsSubtype}

-- an object is of a type if it is an object of the task whose own type is the type or below it
pub record IsOfType (t : LiftedTask) (object type : ℕ) : Type 0 where
  pub declared : Object
  pub is_declared : slice_get t.objects object ≡ Some declared
  pub below : IsSubtype t.hierarchy declared.of type

-- there are as many objects as types, and each object is of the type at its place
abbrev pub AreOfTypes : LiftedTask → List ℕ → List ℕ → Type 0
AreOfTypes t objects types = AllZip (IsOfType t) objects types
