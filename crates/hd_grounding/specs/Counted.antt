-- When the lists that number a lifted task are within the limits of a task of numbers. (Our own.)
use Rattle.std.specs.Prelude.{◌≡◌, ◌≤◌, List, length, filter, Contains, Some, None, slice_get}
use Rattle.hd_lifted.specs.declared.schema.Ground.{Ground}
use Rattle.hd_lifted.specs.declared.schema.Schema.{Schema}
use Rattle.hd_lifted.specs.declared.task.LiftedTask.{LiftedTask}
use Rattle.hd_lifted.specs.declared.instance.Instance.{Instance}
use Rattle.hd_task.specs.declared.task.TheConstants.{MAX_ACTIONS, MAX_ATOMS, MAX_FLUENTS, MAX_AMOUNTS}
use Rattle.hd_lifted.specs.Numbering.{NumbersInstances, NumbersAtoms, NumbersFluents}
use Rattle.hd_lifted.specs.Questions.{is_paid}
use Rattle.hd_grounding.specs.Faults.{undefined_in, negative_in}

-- none of these instances adds more amounts to the cost than an action may
abbrev pub HaveFewAmounts : LiftedTask → List Instance → Type 0
HaveFewAmounts t instances =
    (i : Instance) (a : Schema) → Contains instances i → slice_get t.schemas i.schema ≡ Some a
    → length (filter is_paid a.effects) ≤ MAX_AMOUNTS

-- the lists number the kept instances, the atoms and the fluents, and neither they nor the amounts
-- are too many
pub record AreCounted (t : LiftedTask) (instances : List Instance) (atoms fluents : List Ground) : Type 0 where
  pub numbers_instances : NumbersInstances t instances
  pub numbers_atoms : NumbersAtoms t atoms
  pub numbers_fluents : NumbersFluents t fluents
  pub few_instances : length instances ≤ MAX_ACTIONS
  pub few_atoms : length atoms ≤ MAX_ATOMS
  pub few_fluents : length fluents ≤ MAX_FLUENTS
  pub few_amounts : HaveFewAmounts t instances

-- with these instances no fluent lacks a first value, and none costs less than 0 in each state
pub record AreFaultless (t : LiftedTask) (instances : List Instance) : Type 0 where
  pub none_undefined : undefined_in t instances ≡ None
  pub none_negative : negative_in t instances ≡ None
