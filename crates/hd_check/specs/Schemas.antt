-- What actions stand for, and their first faults. (Our own.)
use Rattle.std.specs.Prelude.{ℕ, List, [], ◌∷◌, ◌++◌, Option, None, Result, map}
use Rattle.hd_terms.specs.declared.typed.ItemKind.TheVariants as kinds
use Rattle.hd_pddl.specs.declared.tree.Action.{Action}
use Rattle.hd_lifted.specs.declared.schema.Schema.{Schema}
use Rattle.hd_check.specs.declared.schemas.Body.{Body}
use Rattle.hd_names.specs.declared.scope.Scope.{Scope}
use Rattle.hd_names.specs.declared.table.Table.{Table}
use Rattle.hd_check.specs.declared.fault.CheckFault.{CheckFault}
use Rattle.hd_base.specs.Answers.{Checks}
use Rattle.hd_base.specs.Options.{◌or◌}
use Rattle.hd_check.specs.declared.fault.CheckStop.{CheckStop}
use Rattle.hd_check.specs.Fault.{StopsAt, name_fault}
use Rattle.hd_names.specs.Names.{declared_fault, duplicate_in}
use Rattle.hd_names.specs.Scope.{typed_table}
use Rattle.hd_check.specs.Conditions.{condition_fault, lifted_condition}
use Rattle.hd_check.specs.Effects.{effects_fault, lifted_effects}

-- the parameters of an action
abbrev pub parameters_in : Scope → Action → Table ℕ
parameters_in s a = typed_table s.types a.parameters

-- the first fault of the precondition and the effect of an action with these parameters
unfoldable pub body_fault : Scope → Table ℕ → Action → Option CheckFault
body_fault s ps a = condition_fault s ps a.precondition or effects_fault s ps a.effect

-- the first fault of an action: of the parameters, then of what stands in it
unfoldable pub action_fault : Scope → Action → Option CheckFault
action_fault s a = name_fault (declared_fault kinds.Variable s.types [] a.parameters) or body_fault s (parameters_in s a) a

-- the first fault of actions after others of these names: of each its name, then what stands in it
abbrev pub actions_fault : Scope → List (List ℕ) → List Action → Option CheckFault
actions_fault s names [] = None
actions_fault s names (a ∷ as') =
    name_fault (duplicate_in kinds.Name names a.name) or action_fault s a or actions_fault s (names ++ a.name.name ∷ []) as'

-- what an action's precondition and effect stand for
abbrev pub body_of : Scope → Table ℕ → Action → Body
body_of s ps a = record { condition = lifted_condition s ps a.precondition; effects = lifted_effects s ps a.effect }

-- what an action of this name, with these parameters and this body, stands for
abbrev pub schema_by : List ℕ → Table ℕ → Body → Schema
schema_by name ps body = record {
  name = name;
  parameters = ps.items;
  condition = body.condition;
  deletes = body.effects.deletes;
  adds = body.effects.adds;
  effects = body.effects.changes;
}

-- what an action with these parameters stands for
unfoldable pub schema_with : Scope → Table ℕ → Action → Schema
schema_with s ps a = schema_by a.name.name ps (body_of s ps a)

-- what an action stands for
unfoldable pub lifted_schema : Scope → Action → Schema
lifted_schema s a = schema_with s (parameters_in s a) a

-- what actions stand for
abbrev pub lifted_schemas : Scope → List Action → List Schema
lifted_schemas s as' = map (lifted_schema s) as'

-- ---- what calls answer

-- the schema of an action with these parameters, or a stop at the first fault of what stands in it
abbrev pub LiftsBody : Result Schema CheckStop → Scope → Table ℕ → Action → Type 0
LiftsBody result s ps a = Checks StopsAt result (body_fault s ps a) (schema_with s ps a)

-- the schemas of a domain's actions, or a stop at the first fault of an action
abbrev pub LiftsActions : Result (List Schema) CheckStop → Scope → List Action → Type 0
LiftsActions result s as' = Checks StopsAt result (actions_fault s [] as') (lifted_schemas s as')
