-- What is reported of a lifted task that has no task to search. (Our own.)
use Rattle.std.specs.Prelude.{◌≡◌, ℕ, List, string_bytes}
use Rattle.hd_lifted.specs.declared.instance.Instance.{Instance}
use Rattle.hd_lifted.specs.declared.schema.Ground.{Ground}
use Rattle.hd_lifted.specs.declared.task.LiftedTask.{LiftedTask}
use Rattle.hd_task.specs.FormText.{form_text}
use Rattle.hd_grounding.specs.Grounding.{names_in, form_of, form_of_instance}
use Rattle.hd_grounding.specs.Faults.{IsTooLarge, IsUndefined, IsNegative}
use Rattle.hd_ground.specs.declared.error.GroundError.{GroundError}
use Rattle.hd_ground.specs.declared.error.GroundError.TheVariants.{TooMany, Undefined, NegativeCost, NoMemory}

-- a fluent, and an action, in its ground form
abbrev pub ground_fluent_text : LiftedTask → Ground → List ℕ
ground_fluent_text t g = form_text (names_in t).functions (names_in t).objects (form_of g)

-- an action in its ground form: the name of its schema, and those of its objects
abbrev pub action_text : LiftedTask → Instance → List ℕ
action_text t i = form_text (names_in t).schemas (names_in t).objects (form_of_instance i)

-- a text is that of the first fluent, of those that are met, that has no first value
pub record NamesUndefined (t : LiftedTask) (text : List ℕ) : Type 0 where
  pub fluent : Ground
  pub undefined : IsUndefined t fluent
  pub is : text ≡ ground_fluent_text t fluent

-- a text is that of the first action of a negative cost
pub record NamesNegative (t : LiftedTask) (text : List ℕ) : Type 0 where
  pub instance : Instance
  pub negative : IsNegative t instance
  pub is : text ≡ action_text t instance

-- what an error reports of a task; lack of memory reports nothing
abbrev pub Tells : LiftedTask → GroundError → Type 0
Tells t TooMany = IsTooLarge t
Tells t (Undefined fluent) = NamesUndefined t (string_bytes fluent)
Tells t (NegativeCost action) = NamesNegative t (string_bytes action)
Tells t NoMemory = Unit {0}
