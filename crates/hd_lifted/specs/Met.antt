-- The fluents that the actions and the goal of a lifted task meet, in the order of the text. (Our
-- own.)
use Rattle.std.specs.Prelude.{ℕ, if◌then◌else◌, List, [], ◌∷◌, ◌++◌, flat_map}
use Rattle.hd_base.specs.declared.expression.Operand.{Operand}
use Rattle.hd_base.specs.declared.expression.Operand.TheVariants.{Number, Fluent}
use Rattle.hd_base.specs.Expression.{Expression, leaf, negate, binary}
use Rattle.hd_lifted.specs.declared.schema.AppliedSymbol.{AppliedSymbol}
use Rattle.hd_lifted.specs.declared.schema.Ground.{Ground}
use Rattle.hd_lifted.specs.declared.schema.Comparison.{Comparison}
use Rattle.hd_lifted.specs.declared.schema.NumericEffect.{NumericEffect}
use Rattle.hd_lifted.specs.declared.schema.Schema.{Schema}
use Rattle.hd_lifted.specs.declared.task.LiftedTask.{LiftedTask}
use Rattle.hd_lifted.specs.States.{ground_form_of}
use Rattle.hd_lifted.specs.Effects.{is_cost}

-- the fluents that an expression reads, from the left
abbrev pub fluents_in : List ℕ → Expression (Operand AppliedSymbol) → List Ground
fluents_in objects (leaf (Number v)) = []
fluents_in objects (leaf (Fluent a)) = ground_form_of objects a ∷ []
fluents_in objects (negate x) = fluents_in objects x
fluents_in objects (binary o x y) = fluents_in objects x ++ fluents_in objects y

-- those that a comparison reads
abbrev pub met_by_comparison : List ℕ → Comparison → List Ground
met_by_comparison objects c = fluents_in objects c.left ++ fluents_in objects c.right

-- the fluent that an effect changes: a cost changes none
abbrev pub changed_by : List ℕ → NumericEffect → List Ground
changed_by objects e = if is_cost e.change then [] else ground_form_of objects e.fluent ∷ []

-- the fluent that an effect changes, and then those that its amount reads
abbrev pub met_by_effect : List ℕ → NumericEffect → List Ground
met_by_effect objects e = changed_by objects e ++ fluents_in objects e.amount

-- those that a schema with objects meets: in its comparisons, then in its effects
abbrev pub met_by : List ℕ → Schema → List Ground
met_by objects a = flat_map (met_by_comparison objects) a.condition.comparisons ++ flat_map (met_by_effect objects) a.effects

-- those that the goal meets
abbrev pub met_by_goal : LiftedTask → List Ground
met_by_goal t = flat_map (met_by_comparison []) t.goal.comparisons
