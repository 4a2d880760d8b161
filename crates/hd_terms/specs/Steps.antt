-- What one form says, and what is still to be read of it (all own).
use Rattle.std.specs.Prelude.{ℕ, List, [], ◌∷◌, ◌++◌, Option, Some}
use Rattle.hd_forms.specs.Forms.{Forms, size}
use Rattle.hd_forms.specs.View.{forms_view}
use Rattle.hd_base.specs.Options.{◌>>=◌}
use Rattle.hd_terms.specs.declared.conditions.ConditionPart as condition
use Rattle.hd_terms.specs.declared.conditions.ConditionPart.TheVariants as conditions
use Rattle.hd_terms.specs.declared.effects.EffectPart as effect
use Rattle.hd_terms.specs.declared.effects.EffectPart.TheVariants as effects
use Rattle.hd_terms.specs.declared.expressions.Shape.{Shape}
use Rattle.hd_terms.specs.declared.expressions.Shape.TheVariants as shapes
use Rattle.hd_terms.specs.declared.tree.Condition.{Condition}
use Rattle.hd_terms.specs.declared.tree.Effect.{Effect}
use Rattle.hd_base.specs.Expression.{Expression}
use Rattle.hd_terms.specs.declared.tree.Leaf.{Leaf}
use Rattle.hd_terms.specs.Reading.{exprs_after, operation_by, conditions_after, effects_after}

-- ---- expressions

-- the expression that a shape makes
abbrev pub expression_by : Shape → Option (Expression Leaf)
expression_by (shapes.Known e) = Some e
expression_by (shapes.Operation o inside to) = exprs_after 2 (forms_view inside.now) [] >>= λ es. operation_by o es

-- how many words and forms are still to be read
abbrev pub size_in_shape : Shape → ℕ
size_in_shape (shapes.Known e) = 0
size_in_shape (shapes.Operation o inside to) = size (forms_view inside.now)

-- the expressions found so far, this one, and those of the rest
abbrev pub goes_on_with : Option (Expression Leaf) → ℕ → Forms → List (Expression Leaf) → Option (List (Expression Leaf))
goes_on_with read most rest found = read >>= λ e. exprs_after most rest (found ++ e ∷ [])

-- ---- conditions

-- the parts found so far, and those of this one
abbrev pub conditions_by : condition.ConditionPart → List Condition → Option (List Condition)
conditions_by conditions.Nothing found = Some found
conditions_by (conditions.All inside) found = conditions_after (forms_view inside.now) found
conditions_by (conditions.One c) found = Some (found ++ c ∷ [])

-- how many words and forms are still to be read
abbrev pub size_in_condition : condition.ConditionPart → ℕ
size_in_condition conditions.Nothing = 0
size_in_condition (conditions.All inside) = size (forms_view inside.now)
size_in_condition (conditions.One c) = 0

-- the parts found so far, and those of the rest
abbrev pub conditions_go_on : Option (List Condition) → Forms → Option (List Condition)
conditions_go_on read rest = read >>= λ found. conditions_after rest found

-- ---- effects

-- the parts found so far, and those of this one
abbrev pub effects_by : effect.EffectPart → List Effect → Option (List Effect)
effects_by effects.Nothing found = Some found
effects_by (effects.All inside) found = effects_after (forms_view inside.now) found
effects_by (effects.One e) found = Some (found ++ e ∷ [])

-- how many words and forms are still to be read
abbrev pub size_in_effect : effect.EffectPart → ℕ
size_in_effect effects.Nothing = 0
size_in_effect (effects.All inside) = size (forms_view inside.now)
size_in_effect (effects.One e) = 0

-- the parts found so far, and those of the rest
abbrev pub effects_go_on : Option (List Effect) → Forms → Option (List Effect)
effects_go_on read rest = read >>= λ found. effects_after rest found
