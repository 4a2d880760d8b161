-- How fluents and instances are printed. (Our own; a plan file has a step as a name and its
-- arguments in parentheses.)
use Rattle.std.specs.Prelude.{ℕ, List, [], ◌++◌, codes, flat_map, slice_get, Option, Some, None}
use Rattle.hd_lifted.specs.declared.schema.Ground.{Ground}
use Rattle.hd_lifted.specs.declared.schema.Schema.{Schema}
use Rattle.hd_lifted.specs.declared.instance.Instance.{Instance}
use Rattle.hd_lifted.specs.declared.task.LiftedTask.{LiftedTask}
use Rattle.hd_lifted.specs.declared.task.Object as declared
use Rattle.hd_lifted.specs.declared.task.Signature.{Signature}

-- the name of an object, of a function and of a schema; each that a task's parts speak of is there
abbrev pub name_of_object : Option declared.Object → List ℕ
name_of_object None = []
name_of_object (Some o) = o.name

-- the name of a predicate or a function, or nothing if it is missing
abbrev pub name_of_function : Option Signature → List ℕ
name_of_function None = []
name_of_function (Some f) = f.name

-- the name of a schema, or nothing if it is missing
abbrev pub name_of_schema : Option Schema → List ℕ
name_of_schema None = []
name_of_schema (Some a) = a.name

-- an object after a space
abbrev pub object_text : List declared.Object → ℕ → List ℕ
object_text objects number = codes " " ++ name_of_object (slice_get objects number)

-- a name and objects in parentheses, with single spaces
abbrev pub form_text : List ℕ → List declared.Object → List ℕ → List ℕ
form_text name objects numbers = codes "(" ++ name ++ flat_map (object_text objects) numbers ++ codes ")"

-- a fluent: the name of its function, and those of its objects
abbrev pub fluent_text : LiftedTask → Ground → List ℕ
fluent_text t g = form_text (name_of_function (slice_get t.functions g.symbol)) t.objects g.objects

-- an instance: the name of its schema, and those of its objects
abbrev pub instance_text : LiftedTask → Instance → List ℕ
instance_text t i = form_text (name_of_schema (slice_get t.schemas i.schema)) t.objects i.objects
