-- What stands for the parts of a lifted task in a task of numbers, where the parameters stand for a
-- list of objects. (Our own.)
use Rattle.std.specs.Prelude.{ℕ, Bool, not, if◌then◌else◌, ◌&&◌, List, [], ◌∷◌, map, filter, flat_map, Option, Some, None, option_map, unwrap_or, ℤ, pos}
use Rattle.hd_task.specs.Conditions.{literal}
use Rattle.std.specs.List.{list_all, position}
use Rattle.hd_base.specs.declared.expression.Operand.{Operand}
use Rattle.hd_base.specs.declared.expression.Operand.TheVariants.{Number, Fluent}
use Rattle.hd_base.specs.Expression.{Expression, leaf, negate, binary}
use Rattle.hd_lifted.specs.declared.schema.AppliedSymbol.{AppliedSymbol}
use Rattle.hd_lifted.specs.declared.schema.Ground.{Ground}
use Rattle.hd_lifted.specs.declared.schema.Literal as lifted_literal
use Rattle.hd_lifted.specs.declared.schema.Comparison as lifted_comparison
use Rattle.hd_lifted.specs.declared.schema.Condition as lifted_condition
use Rattle.hd_lifted.specs.declared.schema.NumericEffect.{NumericEffect}
use Rattle.hd_lifted.specs.declared.schema.Schema.{Schema}
use Rattle.hd_lifted.specs.declared.task.LiftedTask.{LiftedTask}
use Rattle.hd_lifted.specs.Expressions.{value_of}
use Rattle.hd_lifted.specs.Effects.{is_cost}
use Rattle.hd_lifted.specs.declared.schema.ChangeKind as lifted_change
use Rattle.hd_lifted.specs.declared.schema.ChangeKind.TheVariants as lifted_changes
use Rattle.hd_task.specs.declared.effect.SumPart.{SumPart}
use Rattle.hd_task.specs.declared.effect.SumPart.TheVariants.{Increase, Decrease}
use Rattle.hd_task.specs.declared.effect.ValueChange.{ValueChange}
use Rattle.hd_task.specs.declared.effect.ValueChange.TheVariants.{Assign, ScaleUp, Sum}
use Rattle.hd_task.specs.Effects.{value_by_change}
use Rattle.hd_lifted.specs.Amounts.{is_constant}
use Rattle.hd_lifted.specs.Questions.{is_paid}
use Rattle.hd_lifted.specs.States.{same, ground_form_of, first_value}
use Rattle.hd_lifted.specs.Conditions.{equality_holds}
use Rattle.hd_task.specs.declared.condition.Literal.{Literal}
use Rattle.hd_task.specs.declared.condition.Comparison.{Comparison}
use Rattle.hd_task.specs.declared.condition.Condition.{Condition}

-- the number of an atom or a fluent: its place among these
abbrev pub number_of : List Ground → Ground → Option ℕ
number_of forms g = position (λ h. same h g) forms

-- a list of one, or of none
abbrev pub if_any : {A : Type 0} → Option A → List A
if_any None = []
if_any (Some x) = x ∷ []

-- the numbers of atoms that an action adds or deletes: one without a number is left out. A kept
-- instance adds none of these, and to delete one changes nothing, since it is false wherever a plan
-- leads
abbrev pub numbers_of : List Ground → List ℕ → List AppliedSymbol → List ℕ
numbers_of atoms objects xs = flat_map (λ a. if_any (number_of atoms (ground_form_of objects a))) xs

-- ---- conditions

-- a literal by its atom's number. Where the atom has none the literal is left out: of a negative
-- one that is right, since such an atom is false wherever a plan leads. The atom of a positive
-- literal always has a number where this is used, in kept instances and the goal: `IsNumbered` asks
-- it
abbrev pub literal_of : List Ground → List ℕ → lifted_literal.Literal → List Literal
literal_of atoms objects l = if_any (option_map (literal l.positive) (number_of atoms (ground_form_of objects l.atom)))

-- a number, or a fluent by its number
abbrev pub operand_of : List Ground → List ℕ → Operand AppliedSymbol → Operand ℕ
operand_of fluents objects (Number v) = Number v
operand_of fluents objects (Fluent a) = Fluent (unwrap_or (number_of fluents (ground_form_of objects a)) 0)

-- an expression, each fluent by its number
abbrev pub expression_of : List Ground → List ℕ → Expression (Operand AppliedSymbol) → Expression (Operand ℕ)
expression_of fluents objects (leaf l) = leaf (operand_of fluents objects l)
expression_of fluents objects (negate x) = negate (expression_of fluents objects x)
expression_of fluents objects (binary o x y) = binary o (expression_of fluents objects x) (expression_of fluents objects y)

-- a comparison, each fluent by its number
abbrev pub comparison_of : List Ground → List ℕ → lifted_comparison.Comparison → Comparison
comparison_of fluents objects c = record {
  left = expression_of fluents objects c.left;
  relation = c.relation;
  right = expression_of fluents objects c.right;
}

-- a condition: each atom that it wants to be true has a number (`IsNumbered`), and negative
-- literals of atoms without one are left out. Where one of its equalities fails, it can't hold in
-- any state
abbrev pub condition_of : List Ground → List Ground → List ℕ → lifted_condition.Condition → Condition
condition_of atoms fluents objects c = record {
  literals = flat_map (literal_of atoms objects) c.literals;
  comparisons = map (comparison_of fluents objects) c.comparisons;
  never = not (list_all (equality_holds objects) c.equalities);
}

-- ---- costs

-- an amount: a constant one is put in as its number, every other keeps its fluents
abbrev pub amount_of : LiftedTask → List Ground → List ℕ → Expression (Operand AppliedSymbol) → Expression (Operand ℕ)
amount_of t fluents objects e =
    if is_constant t e then leaf (Number (unwrap_or (value_of (first_value t.values) objects e) (pos 0)))
    else expression_of fluents objects e

-- the amounts that a schema with objects adds to the cost, in the text's order
abbrev pub costs_of : LiftedTask → List Ground → List ℕ → Schema → List (Expression (Operand ℕ))
costs_of t fluents objects a = map (λ (e : NumericEffect). amount_of t fluents objects e.amount) (filter is_paid a.effects)

-- ---- effects

-- an effect changes this fluent: a cost changes none
abbrev pub is_on : List ℕ → Ground → NumericEffect → Bool
is_on objects g e = not (is_cost e.change) && same (ground_form_of objects e.fluent) g

-- a part of a sum
abbrev pub term_by : lifted_change.ChangeKind → Expression (Operand ℕ) → SumPart
term_by lifted_changes.Assign x = Increase x
term_by lifted_changes.ScaleUp x = Increase x
term_by lifted_changes.Increase x = Increase x
term_by lifted_changes.Decrease x = Decrease x
term_by lifted_changes.Cost x = Increase x

-- an effect as a part of a sum, each fluent of its amount by its number
abbrev pub term_of : List Ground → List ℕ → NumericEffect → SumPart
term_of fluents objects e = term_by e.change (expression_of fluents objects e.amount)

-- an assignment or a scaling stands alone; increases and decreases add up
abbrev pub change_by : lifted_change.ChangeKind → Expression (Operand ℕ) → List SumPart → ValueChange
change_by lifted_changes.Assign x terms = Assign x
change_by lifted_changes.ScaleUp x terms = ScaleUp x
change_by lifted_changes.Increase x terms = Sum terms
change_by lifted_changes.Decrease x terms = Sum terms
change_by lifted_changes.Cost x terms = Sum terms

-- the change that the effects on one fluent make, if there are any
abbrev pub change_of : List Ground → List ℕ → List NumericEffect → Option ValueChange
change_of fluents objects [] = None
change_of fluents objects (e ∷ es) =
    Some (change_by e.change (expression_of fluents objects e.amount) (map (term_of fluents objects) (e ∷ es)))

-- what a change makes of a value, if there is one
abbrev pub changed_value : List ℤ → Option ValueChange → ℤ → ℤ
changed_value f None z = z
changed_value f (Some c) z = value_by_change f c z
