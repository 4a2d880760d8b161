-- How the effects on one fluent become one change, an effect after the other. (Our own.)
use Rattle.std.specs.Prelude.{ℕ, if◌then◌else◌, List, [], ◌∷◌, ◌++◌, filter, Option, Some, None, slice_get, option_and_then}
use Rattle.hd_base.specs.declared.expression.Operand.{Operand}
use Rattle.hd_base.specs.Expression.{Expression}
use Rattle.hd_lifted.specs.declared.schema.Ground.{Ground}
use Rattle.hd_lifted.specs.declared.schema.NumericEffect.{NumericEffect}
use Rattle.hd_lifted.specs.declared.schema.ChangeKind as lifted_change
use Rattle.hd_task.specs.declared.effect.ValueChange.{ValueChange}
use Rattle.hd_task.specs.declared.effect.ValueChange.TheVariants.{Assign, ScaleUp, Sum}
use Rattle.hd_task.specs.declared.effect.Effect.{Effect}
use Rattle.hd_grounding.specs.Images.{expression_of, is_on, term_by, change_by, change_of}

-- a change with one effect more: an assignment or a scaling stays as it is, and a sum gets one more
-- term
abbrev pub change_with : Option ValueChange → lifted_change.ChangeKind → Expression (Operand ℕ) → ValueChange
change_with None c x = change_by c x (term_by c x ∷ [])
change_with (Some (Assign y)) c x = Assign y
change_with (Some (ScaleUp y)) c x = ScaleUp y
change_with (Some (Sum terms)) c x = Sum (terms ++ term_by c x ∷ [])

-- the change of a fluent, if there is one, with one effect more
abbrev pub change_on : List Ground → List ℕ → NumericEffect → Option ValueChange → Option Ground → Option ValueChange
change_on fluents objects e before None = before
change_on fluents objects e before (Some g) =
    if is_on objects g e then Some (change_with before e.change (expression_of fluents objects e.amount)) else before

-- the same of the fluent of a number
abbrev pub change_at : List Ground → List ℕ → NumericEffect → ℕ → Option ValueChange → Option ValueChange
change_at fluents objects e n before = change_on fluents objects e before (slice_get fluents n)

-- the change that effects make of the fluent of a number
abbrev pub change_in : List Ground → List ℕ → List NumericEffect → ℕ → Option ValueChange
change_in fluents objects effects n =
    option_and_then (λ g. change_of fluents objects (filter (is_on objects g) effects)) (slice_get fluents n)

-- an effect from a fluent's number and its change
abbrev pub effect_from : ℕ × ValueChange → Effect
effect_from p = record { fluent = p.0; change = p.1 }
