-- How reasons are printed: in the words of PDDL 2.1, with the names of objects in the place of
-- parameters. (The sentences are our own.)
use Rattle.std.specs.Prelude.{ℕ, List, [], ◌∷◌, ◌++◌, codes, flat_map, map, slice_get, if◌then◌else◌, Option, Some, None, ℤ}
use Rattle.std.specs.Fmt.{decimal, signed_decimal}
use Rattle.hd_base.specs.declared.expression.Operand.{Operand}
use Rattle.hd_base.specs.declared.expression.Operand.TheVariants.{Number, Fluent}
use Rattle.hd_base.specs.declared.operation.Operation.{Operation}
use Rattle.hd_base.specs.declared.operation.Operation.TheVariants.{Add, Subtract, Multiply}
use Rattle.hd_base.specs.declared.relation.Relation.{Relation}
use Rattle.hd_base.specs.declared.relation.Relation.TheVariants.{Less, LessOrEqual, Equal, GreaterOrEqual, Greater}
use Rattle.hd_base.specs.Expression.{Expression, leaf, negate, binary}
use Rattle.hd_lifted.specs.declared.schema.AppliedSymbol.{AppliedSymbol}
use Rattle.hd_lifted.specs.declared.schema.Ground.{Ground}
use Rattle.hd_lifted.specs.declared.schema.Literal.{Literal}
use Rattle.hd_lifted.specs.declared.schema.Equality.{Equality}
use Rattle.hd_lifted.specs.declared.schema.Comparison.{Comparison}
use Rattle.hd_lifted.specs.declared.task.LiftedTask.{LiftedTask}
use Rattle.hd_lifted.specs.States.{ground_form_of, object_of}
use Rattle.hd_lifted.specs.Steps.{Reached}
use Rattle.hd_plan.specs.Texts.{name_of_object, name_of_function, form_text, fluent_text}
use Rattle.hd_judge.specs.declared.reason.Reason.{Reason}
use Rattle.hd_judge.specs.declared.reason.Reason.TheVariants as reasons
use Rattle.hd_explain.specs.declared.reading.Reading.{Reading}
use Rattle.hd_explain.specs.Readings.{reading_at, fluents_of}

-- ---- conditions

-- an atom, as a fluent: the name of its predicate, and those of its objects
abbrev pub atom_text : LiftedTask → Ground → List ℕ
atom_text t g = form_text (name_of_function (slice_get t.predicates g.symbol)) t.objects g.objects

-- an atom, or an atom in `(not ..)`
abbrev pub literal_text : LiftedTask → List ℕ → Literal → List ℕ
literal_text t objects l =
    if l.positive then atom_text t (ground_form_of objects l.atom)
    else codes "(not " ++ atom_text t (ground_form_of objects l.atom) ++ codes ")"

-- two objects that are the same
abbrev pub same_text : LiftedTask → List ℕ → Equality → List ℕ
same_text t objects e =
    codes "(= " ++ name_of_object (slice_get t.objects (object_of objects e.left))
    ++ codes " " ++ name_of_object (slice_get t.objects (object_of objects e.right)) ++ codes ")"

-- an equality of two objects, or one in `(not ..)`
abbrev pub equality_text : LiftedTask → List ℕ → Equality → List ℕ
equality_text t objects e = if e.positive then same_text t objects e else codes "(not " ++ same_text t objects e ++ codes ")"

-- how an operation begins: a parenthesis, its sign and a space
abbrev pub operation_sign : Operation → List ℕ
operation_sign Add = codes "(+ "
operation_sign Subtract = codes "(- "
operation_sign Multiply = codes "(* "

-- a number in decimal, or a fluent
abbrev pub leaf_text : LiftedTask → List ℕ → Operand AppliedSymbol → List ℕ
leaf_text t objects (Number n) = signed_decimal n
leaf_text t objects (Fluent f) = fluent_text t (ground_form_of objects f)

-- an expression in parentheses, each sign before its operands
abbrev pub expression_text : LiftedTask → List ℕ → Expression (Operand AppliedSymbol) → List ℕ
expression_text t objects (leaf l) = leaf_text t objects l
expression_text t objects (negate x) = codes "(- " ++ expression_text t objects x ++ codes ")"
expression_text t objects (binary o x y) =
    operation_sign o ++ expression_text t objects x ++ codes " " ++ expression_text t objects y ++ codes ")"

-- how a comparison begins: a parenthesis, the sign of its relation and a space
abbrev pub relation_sign : Relation → List ℕ
relation_sign Less = codes "(< "
relation_sign LessOrEqual = codes "(<= "
relation_sign Equal = codes "(= "
relation_sign GreaterOrEqual = codes "(>= "
relation_sign Greater = codes "(> "

-- a comparison in parentheses: its sign, then its two sides
abbrev pub comparison_text : LiftedTask → List ℕ → Comparison → List ℕ
comparison_text t objects c =
    relation_sign c.relation ++ expression_text t objects c.left ++ codes " " ++ expression_text t objects c.right ++ codes ")"

-- ---- reasons

-- a value that is out of the range
abbrev pub out_text : ℤ → List ℕ
out_text value = codes " is " ++ signed_decimal value ++ codes ", out of the range"

-- what a reason says, without the values of its fluents
abbrev pub said_text : LiftedTask → List ℕ → Reason → List ℕ
said_text t objects (reasons.Literal l) = literal_text t objects l.now ++ codes " does not hold"
said_text t objects (reasons.Equality e) = equality_text t objects e ++ codes " does not hold"
said_text t objects (reasons.Comparison c) = comparison_text t objects c.now ++ codes " does not hold"
said_text t objects (reasons.Subexpression d) = expression_text t objects d.part.now ++ out_text d.value
said_text t objects (reasons.NewValue n) =
    codes "the new value of " ++ fluent_text t (ground_form_of objects n.effect.now.fluent) ++ out_text n.value
said_text t objects (reasons.NegativeCost c) = codes "the cost of the step is " ++ signed_decimal c.value ++ codes ", less than 0"
said_text t objects (reasons.PlanCost c) =
    codes "the cost of the step is " ++ signed_decimal c.value ++ codes ", and with the " ++ decimal c.before ++ codes " before it out of the range"

-- ---- values

-- the value of a fluent after ` = `, or that it has none
abbrev pub value_text : Option ℤ → List ℕ
value_text None = codes " has no value"
value_text (Some v) = codes " = " ++ signed_decimal v

-- a fluent with its value
abbrev pub reading_text : LiftedTask → Reading → List ℕ
reading_text t r = fluent_text t r.fluent ++ value_text r.value

-- fluents with their values after a colon, with commas between them
abbrev pub readings_text : LiftedTask → List Reading → List ℕ
readings_text t [] = []
readings_text t (r ∷ rs) = codes ": " ++ reading_text t r ++ flat_map (λ x. codes ", " ++ reading_text t x) rs

-- the line that reports a reason where a plan leads
abbrev pub text_of : LiftedTask → Reached → List ℕ → Reason → List ℕ
text_of t here objects reason =
    said_text t objects reason ++ readings_text t (map (reading_at here.state.values) (fluents_of objects reason))
