-- The tables of a task's names, and what is found in them. (Our own.)
use Rattle.std.specs.Prelude.{◌≡◌, ℕ, List, [], ◌∷◌, ◌++◌, map, Option, Some, None, MatchOption}
use Rattle.std.specs.List.{position}
use Rattle.std.specs.Str.{bytes_eq}
use Rattle.hd_plan.specs.declared.step.Step.{Step}
use Rattle.hd_lifted.specs.declared.schema.Schema.{Schema}
use Rattle.hd_lifted.specs.declared.instance.Instance.{Instance}
use Rattle.hd_lifted.specs.declared.task.Object as declared
use Rattle.hd_lifted.specs.declared.task.LiftedTask.{LiftedTask}
use Rattle.hd_plan.specs.Naming.{HasNamesOf}

-- the names of objects and of schemas, by number
abbrev pub names_of_objects : List declared.Object → List (List ℕ)
names_of_objects objects = map (λ (o : declared.Object). o.name) objects

-- the names of schemas, by number
abbrev pub names_of_schemas : List Schema → List (List ℕ)
names_of_schemas schemas = map (λ (a : Schema). a.name) schemas

-- these are the names of a task's schemas and objects
pub record AreNamesOf (t : LiftedTask) (schemas objects : List (List ℕ)) : Type 0 where
  pub schemas_are : schemas ≡ names_of_schemas t.schemas
  pub objects_are : objects ≡ names_of_objects t.objects

-- numbers before others, unless these are missing
abbrev pub behind : List ℕ → Option (List ℕ) → Option (List ℕ)
behind front None = None
behind front (Some numbers) = Some (front ++ numbers)

-- a number before others, unless it or they are missing
abbrev pub with_number : Option ℕ → Option (List ℕ) → Option (List ℕ)
with_number None found = None
with_number (Some k) found = behind (k ∷ []) found

-- the numbers of names: their places in a list, unless one is not there
abbrev pub numbers_of : List (List ℕ) → List (List ℕ) → Option (List ℕ)
numbers_of names [] = Some []
numbers_of names (n ∷ ns) = with_number (position (bytes_eq n) names) (numbers_of names ns)

-- the instance that has the names of a step, unless there is none
abbrev pub FindsNamed : LiftedTask → Step → Option Instance → Type 0
FindsNamed t s found = MatchOption found ((i : Instance) → HasNamesOf t s i → ⊥) (λ i. HasNamesOf t s i)
