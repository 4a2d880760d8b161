-- How a ground form is printed. (Our own; a plan file has a step as a name and its arguments in
-- parentheses.)
use Rattle.std.specs.Prelude.{ℕ, List, [], ◌++◌, codes, slice_get, unwrap_or, flat_map}
use Rattle.hd_task.specs.declared.form.GroundForm.{GroundForm}

-- the name of a number; every number of a task has one
abbrev pub name_at : List (List ℕ) → ℕ → List ℕ
name_at names i = unwrap_or (slice_get names i) []

-- an object after a space
abbrev pub object_text : List (List ℕ) → ℕ → List ℕ
object_text objects o = codes " " ++ name_at objects o

-- objects, each after a space
abbrev pub objects_text : List (List ℕ) → List ℕ → List ℕ
objects_text objects numbers = flat_map (object_text objects) numbers

-- a ground form: its name and its objects in parentheses, with single spaces
abbrev pub form_text : List (List ℕ) → List (List ℕ) → GroundForm → List ℕ
form_text symbols objects g = codes "(" ++ name_at symbols g.symbol ++ objects_text objects g.objects ++ codes ")"
