-- When a state of a domain and one of a task of numbers are the same. (Our own.)
use Rattle.std.specs.Prelude.{◌≡◌, ℕ, true, false, List, Contains, Some, slice_get, flat_map}
use Rattle.hd_lifted.specs.declared.schema.Ground.{Ground}
use Rattle.hd_lifted.specs.declared.schema.Literal.{Literal}
use Rattle.hd_lifted.specs.declared.schema.Condition.{Condition}
use Rattle.hd_lifted.specs.States as domain
use Rattle.hd_task.specs.declared.state.State.{State}
use Rattle.hd_task.specs.Conditions.{has_atom}
use Rattle.hd_task.specs.Expressions.{fluent_of}
use Rattle.hd_task.specs.declared.action.Action.{Action}
use Rattle.hd_lifted.specs.declared.schema.Schema.{Schema}
use Rattle.hd_lifted.specs.declared.task.LiftedTask.{LiftedTask}
use Rattle.hd_lifted.specs.Amounts.{is_changed}
use Rattle.hd_lifted.specs.Met.{met_by_comparison, met_by_effect}
use Rattle.hd_grounding.specs.Images.{numbers_of}

-- the states agree: each atom with a number is true in both or in neither, each without one is
-- false, and each fluent with a number has the same value in both
pub record Agree (atoms fluents : List Ground) (s : domain.State) (n : State) : Type 0 where
  pub same_atoms : (k : ℕ) (g : Ground) → slice_get atoms k ≡ Some g → s.atoms g ≡ has_atom n k
  pub others : (g : Ground) → (Contains atoms g → ⊥) → s.atoms g ≡ false
  pub same_values : (k : ℕ) (g : Ground) → slice_get fluents k ≡ Some g → s.values g ≡ Some (fluent_of n.fluents k)

-- an action adds and deletes the atoms that a schema adds and deletes with these objects
pub record HasAtomsOf (atoms : List Ground) (objects : List ℕ) (a : Schema) (b : Action) : Type 0 where
  pub adds : b.adds ≡ numbers_of atoms objects a.adds
  pub deletes : b.deletes ≡ numbers_of atoms objects a.deletes

-- what a condition asks for has numbers: the atoms that it wants to be true, and the fluents that
-- it reads
pub record IsNumbered (atoms fluents : List Ground) (objects : List ℕ) (c : Condition) : Type 0 where
  pub wanted : (l : Literal) → Contains c.literals l → l.positive ≡ true → Contains atoms (domain.ground_form_of objects l.atom)
  pub read : (g : Ground) → Contains (flat_map (met_by_comparison objects) c.comparisons) g → Contains fluents g

-- fluents of functions that no schema changes have their first values
abbrev pub KeepsFirstValues : LiftedTask → domain.State → Type 0
KeepsFirstValues t s = (g : Ground) → is_changed t g.symbol ≡ false → s.values g ≡ domain.first_value t.values g

-- the fluents that a schema's effects meet have numbers
abbrev pub HasNumberedEffects : List Ground → List ℕ → Schema → Type 0
HasNumberedEffects fluents objects a = (g : Ground) → Contains (flat_map (met_by_effect objects) a.effects) g → Contains fluents g
