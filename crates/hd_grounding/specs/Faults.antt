-- Why a lifted task has no grounding. (Our own.)
use Rattle.std.specs.Prelude.{◌≡◌, ℕ, ◌<◌, Bool, false, List, [], ◌++◌, length, filter, flat_map, Option, Some, None, slice_get, find}
use Rattle.hd_lifted.specs.declared.schema.Ground.{Ground}
use Rattle.hd_lifted.specs.declared.schema.Schema.{Schema}
use Rattle.hd_lifted.specs.declared.task.LiftedTask.{LiftedTask}
use Rattle.hd_lifted.specs.declared.instance.Instance.{Instance}
use Rattle.hd_task.specs.declared.task.TheConstants.{MAX_ACTIONS, MAX_ATOMS, MAX_FLUENTS, MAX_AMOUNTS}
use Rattle.hd_lifted.specs.Kept.{IsKept}
use Rattle.hd_lifted.specs.Met.{met_by, met_by_goal}
use Rattle.hd_lifted.specs.Numbering.{HasMoreThan, IsTaskAtom, IsTaskFluent, NumbersInstances}
use Rattle.hd_lifted.specs.Questions.{first_undefined, is_paid, costs_negative}

-- ---- too many

-- a kept instance adds more amounts to the cost than an action may
pub record HasMoreAmounts (t : LiftedTask) : Type 0 where
  pub instance : Instance
  pub kept : IsKept t instance
  pub schema : Schema
  pub is_schema : slice_get t.schemas instance.schema ≡ Some schema
  pub more : MAX_AMOUNTS < length (filter is_paid schema.effects)

-- there are more kept instances, atoms, fluents or amounts than a task may have
pub data IsTooLarge (t : LiftedTask) : Type 0 where
  actions : HasMoreThan (IsKept t) MAX_ACTIONS → IsTooLarge t
  atoms : HasMoreThan (IsTaskAtom t) MAX_ATOMS → IsTooLarge t
  fluents : HasMoreThan (IsTaskFluent t) MAX_FLUENTS → IsTooLarge t
  amounts : HasMoreAmounts t → IsTooLarge t

-- ---- a fluent without a first value

-- the fluents that an instance meets, in the text's order
abbrev pub met_with : Option Schema → List ℕ → List Ground
met_with None objects = []
met_with (Some a) objects = met_by objects a

-- the fluents that an instance meets, in the text's order; none if it has no schema
abbrev pub met_by_instance : LiftedTask → Instance → List Ground
met_by_instance t i = met_with (slice_get t.schemas i.schema) i.objects

-- those that the instances meet, in their order, and then those that the goal meets
abbrev pub met_by_all : LiftedTask → List Instance → List Ground
met_by_all t instances = flat_map (met_by_instance t) instances ++ met_by_goal t

-- the first fluent that is met and has no first value, if there is one
abbrev pub undefined_in : LiftedTask → List Instance → Option Ground
undefined_in t instances = first_undefined t (met_by_all t instances)

-- ---- a negative cost

-- an instance of a schema that may not be there costs the same in each state, and less than 0
abbrev pub negative_with : LiftedTask → Option Schema → List ℕ → Bool
negative_with t None objects = false
negative_with t (Some a) objects = costs_negative t a objects

-- an instance costs the same in each state, and less than 0: one without a schema does not
abbrev pub is_negative_instance : LiftedTask → Instance → Bool
is_negative_instance t i = negative_with t (slice_get t.schemas i.schema) i.objects

-- the first instance that costs less than 0 in each state, if there is one
abbrev pub negative_in : LiftedTask → List Instance → Option Instance
negative_in t instances = find (is_negative_instance t) instances

-- ---- what is reported, in the order in which it is looked for

-- a fluent is the first undefined one, if nothing is too large
pub record IsUndefined (t : LiftedTask) (g : Ground) : Type 0 where
  pub fits : IsTooLarge t → ⊥
  pub instances : List Instance
  pub numbers_instances : NumbersInstances t instances
  pub is_first : undefined_in t instances ≡ Some g

-- an instance is the first of a negative cost, if nothing is too large and each fluent that is
-- met has a first value
pub record IsNegative (t : LiftedTask) (i : Instance) : Type 0 where
  pub fits : IsTooLarge t → ⊥
  pub instances : List Instance
  pub numbers_instances : NumbersInstances t instances
  pub none_undefined : undefined_in t instances ≡ None
  pub is_first : negative_in t instances ≡ Some i
