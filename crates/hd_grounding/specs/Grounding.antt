-- When a task of numbers is what a lifted task is grounded to. (Our own.)
use Rattle.std.specs.Prelude.{◌≡◌, ℕ, true, List, [], ◌∷◌, map, filter, All, Some, slice_get, is_some, unwrap_or, pos}
use Rattle.std.specs.List.{AllZip}
use Rattle.hd_lifted.specs.declared.schema.Ground.{Ground}
use Rattle.hd_lifted.specs.declared.schema.Schema.{Schema}
use Rattle.hd_lifted.specs.declared.task.LiftedTask.{LiftedTask}
use Rattle.hd_lifted.specs.declared.task.Object.{Object}
use Rattle.hd_lifted.specs.declared.task.Signature.{Signature}
use Rattle.hd_lifted.specs.declared.instance.Instance.{Instance}
use Rattle.hd_lifted.specs.States.{is_listed, first_value}
use Rattle.hd_task.specs.declared.form.GroundForm.{GroundForm}
use Rattle.hd_task.specs.declared.form.Names.{Names}
use Rattle.hd_task.specs.declared.state.State.{State}
use Rattle.hd_task.specs.declared.effect.Effect.{Effect}
use Rattle.hd_task.specs.declared.action.Action.{Action}
use Rattle.hd_task.specs.declared.task.Task.{Task}
use Rattle.hd_lifted.specs.Numbering.{HasExactly, NumbersInstances, NumbersAtoms, NumbersFluents}
use Rattle.hd_grounding.specs.Images.{is_on, change_of, condition_of, costs_of}
use Rattle.hd_grounding.specs.Agreement.{HasAtomsOf}

-- ---- what is printed

-- the names that ground forms are printed with
abbrev pub names_in : LiftedTask → Names
names_in t = record {
  schemas = map (λ (a : Schema). a.name) t.schemas;
  predicates = map (λ (s : Signature). s.name) t.predicates;
  functions = map (λ (s : Signature). s.name) t.functions;
  objects = map (λ (o : Object). o.name) t.objects;
}

-- an atom or a fluent, and an action, by their numbers in these names
abbrev pub form_of : Ground → GroundForm
form_of g = record { symbol = g.symbol; objects = g.objects }

-- an action, by the numbers of its schema and of its objects
abbrev pub form_of_instance : Instance → GroundForm
form_of_instance i = record { symbol = i.schema; objects = i.objects }

-- ---- at first

-- a fluent has a first value
abbrev pub HasFirstValue : LiftedTask → Ground → Type 0
HasFirstValue t g = is_some (first_value t.values g) ≡ true

-- the atoms that are true at first, and the first values
abbrev pub start_in : LiftedTask → List Ground → List Ground → State
start_in t atoms fluents = record {
  atoms = map (is_listed t.atoms) atoms;
  fluents = map (λ g. unwrap_or (first_value t.values g) (pos 0)) fluents;
}

-- ---- actions

-- what a schema with objects does to one fluent: the change that its effects there make
pub record IsEffectOf (fluents : List Ground) (objects : List ℕ) (a : Schema) (e : Effect) : Type 0 where
  pub fluent : Ground
  pub is_numbered : slice_get fluents e.fluent ≡ Some fluent
  pub is_change : change_of fluents objects (filter (is_on objects fluent) a.effects) ≡ Some e.change

-- each such effect once, by the fluents' numbers
abbrev pub HasEffectsOf : List Ground → List ℕ → Schema → List Effect → Type 0
HasEffectsOf fluents objects a effects = HasExactly (IsEffectOf fluents objects a) (λ e. e.fluent ∷ []) effects

-- an action has the form, the condition, the effects and the costs of an instance
pub record IsActionOf (t : LiftedTask) (atoms fluents : List Ground) (i : Instance) (b : Action) : Type 0 where
  pub schema : Schema
  pub is_schema : slice_get t.schemas i.schema ≡ Some schema
  pub form : b.form ≡ form_of_instance i
  pub condition : b.condition ≡ condition_of atoms fluents i.objects schema.condition
  pub changes_atoms : HasAtomsOf atoms i.objects schema b
  pub effects : HasEffectsOf fluents i.objects schema b.effects
  pub costs : b.costs ≡ costs_of t fluents i.objects schema

-- ---- the whole

-- a task has an action for each kept instance, and no others, and the atoms and fluents of the
-- lifted task (`IsTaskAtom`, `IsTaskFluent`), each numbered in its order; each fluent has a first
-- value, and the goal is the lifted task's
pub record IsGrounding (t : LiftedTask) (u : Task) : Type 0 where
  pub instances : List Instance
  pub atoms : List Ground
  pub fluents : List Ground
  pub numbers_instances : NumbersInstances t instances
  pub numbers_atoms : NumbersAtoms t atoms
  pub numbers_fluents : NumbersFluents t fluents
  pub have_values : All (HasFirstValue t) fluents
  pub names_are : u.names ≡ names_in t
  pub atoms_are : u.atoms ≡ map form_of atoms
  pub fluents_are : u.fluents ≡ map form_of fluents
  pub initial_is : u.initial ≡ start_in t atoms fluents
  pub actions_are : AllZip (IsActionOf t atoms fluents) instances u.actions
  pub goal_is : u.goal ≡ condition_of atoms fluents [] t.goal
  pub metric_is : u.metric ≡ is_some t.metric
