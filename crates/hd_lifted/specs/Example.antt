-- Small tasks on which the definitions are computed.
use Rattle.std.specs.Prelude.{ℕ, Bool, true, false, List, [], ◌∷◌, codes, Option, Some, None, ℤ, pos}
use Rattle.hd_base.specs.declared.relation.Relation.TheVariants.{GreaterOrEqual}
use Rattle.hd_lifted.specs.declared.schema.Argument.TheVariants.{Parameter, Object}
use Rattle.hd_lifted.specs.declared.schema.AppliedSymbol.{AppliedSymbol}
use Rattle.hd_lifted.specs.declared.schema.Ground.{Ground}
use Rattle.hd_lifted.specs.declared.schema.Literal.{Literal}
use Rattle.hd_lifted.specs.declared.schema.Condition.{Condition}
use Rattle.hd_lifted.specs.declared.schema.ChangeKind.{ChangeKind}
use Rattle.hd_lifted.specs.declared.schema.ChangeKind.TheVariants.{Assign, Increase, Decrease, Cost}
use Rattle.hd_lifted.specs.declared.schema.NumericEffect.{NumericEffect}
use Rattle.hd_lifted.specs.declared.schema.Schema.{Schema}
use Rattle.hd_lifted.specs.declared.task.Object.{Object as TaskObject}
use Rattle.hd_lifted.specs.declared.task.Signature.{Signature}
use Rattle.hd_lifted.specs.declared.task.InitialValue.{InitialValue}
use Rattle.hd_lifted.specs.declared.task.LiftedTask.{LiftedTask}
use Rattle.hd_base.specs.declared.expression.Operand.{Operand}
use Rattle.hd_base.specs.declared.expression.Operand.TheVariants.{Number, Fluent}
use Rattle.hd_base.specs.Expression.{Expression, leaf}
use Rattle.hd_lifted.specs.Steps.{Reached, start}
use Rattle.hd_lifted.specs.declared.instance.Instance.{Instance}
use Rattle.hd_lifted.specs.Departures.{instance_departs}

-- ---- parts

abbrev instance : ℕ → List ℕ → Instance
instance schema objects = record { schema = schema; objects = objects }

abbrev ground_form : ℕ → List ℕ → Ground
ground_form symbol objects = record { symbol = symbol; objects = objects }

-- a symbol without arguments, with one parameter, with the first two
abbrev alone : ℕ → AppliedSymbol
alone symbol = record { symbol = symbol; arguments = [] }

abbrev unary : ℕ → ℕ → AppliedSymbol
unary symbol k = record { symbol = symbol; arguments = Parameter k ∷ [] }

abbrev binary : ℕ → AppliedSymbol
binary symbol = record { symbol = symbol; arguments = Parameter 0 ∷ Parameter 1 ∷ [] }

abbrev wanted : AppliedSymbol → Literal
wanted a = record { atom = a; positive = true }

-- a condition on atoms alone
abbrev when : List Literal → Condition
when literals = record { literals = literals; equalities = []; comparisons = [] }

abbrev always : Condition
always = when []

-- the expressions that are a number, and the value of a fluent
abbrev number : ℤ → Expression (Operand AppliedSymbol)
number n = leaf (Number n)

abbrev fluent : AppliedSymbol → Expression (Operand AppliedSymbol)
fluent a = leaf (Fluent a)

abbrev effect : ChangeKind → AppliedSymbol → Expression (Operand AppliedSymbol) → NumericEffect
effect change target amount = record { change = change; fluent = target; amount = amount }

abbrev signature : List ℕ → List ℕ → Signature
signature name parameters = record { name = name; parameters = parameters }

abbrev initial : ℕ → List ℕ → ℤ → InitialValue
initial symbol objects value = record { fluent = ground_form symbol objects; value = value }

abbrev pub object : List ℕ → ℕ → TaskObject
object name type = record { name = name; of = type }

-- a value, and an atom, where a plan leads
abbrev pub value_at : Ground → Option Reached → Option ℤ
value_at g None = None
value_at g (Some r) = r.state.values g

abbrev pub is_true_at : Ground → Option Reached → Bool
is_true_at g None = false
is_true_at g (Some r) = r.state.atoms g

-- ---- a journey: `go` from place ?p to place ?q needs a road and uses up fuel, which is also the
-- cost. There are the places a, b and c, with roads from a to b (which needs 4) and from b to c
-- (which needs 5), and 9 of the fuel; the goal is to be at c

abbrev pub go : Schema
go = record {
  name = codes "go";
  parameters = 1 ∷ 1 ∷ [];
  condition = record {
    literals = wanted (unary 0 0) ∷ wanted (binary 1) ∷ [];
    equalities = [];
    comparisons = record { relation = GreaterOrEqual; left = fluent (alone 0); right = fluent (binary 1) } ∷ [];
  };
  deletes = unary 0 0 ∷ [];
  adds = unary 0 1 ∷ [];
  effects = effect Decrease (alone 0) (fluent (binary 1)) ∷ effect Cost (alone 2) (fluent (binary 1)) ∷ [];
}

abbrev pub journey : LiftedTask
journey = record {
  hierarchy = 0 ∷ [];
  objects = object (codes "a") 1 ∷ object (codes "b") 1 ∷ object (codes "c") 1 ∷ [];
  predicates = signature (codes "at") (1 ∷ []) ∷ signature (codes "road") (1 ∷ 1 ∷ []) ∷ [];
  functions =
      signature (codes "fuel") [] ∷ signature (codes "need") (1 ∷ 1 ∷ []) ∷ signature (codes "total-cost") [] ∷ [];
  schemas = go ∷ [];
  atoms = ground_form 0 (0 ∷ []) ∷ ground_form 1 (0 ∷ 1 ∷ []) ∷ ground_form 1 (1 ∷ 2 ∷ []) ∷ [];
  values = initial 0 [] (pos 9) ∷ initial 1 (0 ∷ 1 ∷ []) (pos 4) ∷ initial 1 (1 ∷ 2 ∷ []) (pos 5) ∷ [];
  goal = when (wanted (record { symbol = 0; arguments = Object 2 ∷ [] }) ∷ []);
  metric = Some 2;
}

-- its two steps
abbrev pub a_to_b : Instance
a_to_b = instance 0 (0 ∷ 1 ∷ [])

abbrev pub b_to_c : Instance
b_to_c = instance 0 (1 ∷ 2 ∷ [])

abbrev pub way_by_b : List Instance
way_by_b = a_to_b ∷ b_to_c ∷ []

-- ---- tasks of one schema, which has no parameters and no condition

-- the fluents are x and y, and the atom is a
abbrev small : Schema → List Ground → List InitialValue → LiftedTask
small schema atoms values = record {
  hierarchy = [];
  objects = [];
  predicates = signature (codes "a") [] ∷ [];
  functions = signature (codes "x") [] ∷ signature (codes "y") [] ∷ [];
  schemas = schema ∷ [];
  atoms = atoms;
  values = values;
  goal = always;
  metric = None;
}

-- the one instance, the fluents x and y, and the atom a
abbrev pub only : Instance
only = instance 0 []

abbrev pub the_x : Ground
the_x = ground_form 0 []

abbrev pub the_y : Ground
the_y = ground_form 1 []

abbrev pub the_atom : Ground
the_atom = ground_form 0 []

-- whether the one instance departs from the range at first
abbrev pub action_departs : LiftedTask → Bool
action_departs t = instance_departs t (start t) only

-- the action deletes the atom and adds it
abbrev pub delete_and_add : LiftedTask
delete_and_add =
    small
    (record {
      name = codes "set";
      parameters = [];
      condition = always;
      deletes = alone 0 ∷ [];
      adds = alone 0 ∷ [];
      effects = [];
    })
    (the_atom ∷ []) []

-- a schema that changes numbers
abbrev changing : List NumericEffect → Schema
changing effects =
    record { name = codes "change"; parameters = []; condition = always; deletes = []; adds = []; effects = effects }

-- the action assigns each of two fluents the value of the other
abbrev pub swapping : LiftedTask
swapping =
    small (changing (effect Assign (alone 0) (fluent (alone 1)) ∷ effect Assign (alone 1) (fluent (alone 0)) ∷ [])) []
    (initial 0 [] (pos 1) ∷ initial 1 [] (pos 2) ∷ [])

-- the action increases a fluent by 3 and decreases it by 1
abbrev pub up_and_down : LiftedTask
up_and_down =
    small (changing (effect Increase (alone 0) (number (pos 3)) ∷ effect Decrease (alone 0) (number (pos 1)) ∷ [])) []
    (initial 0 [] (pos 5) ∷ [])

-- the action increases a fluent by another one, which has no value
abbrev pub missing_amount : LiftedTask
missing_amount = small (changing (effect Increase (alone 0) (fluent (alone 1)) ∷ [])) [] (initial 0 [] (pos 5) ∷ [])

-- the action increases a fluent by 1, which has this value at first
abbrev pub one_up : ℤ → LiftedTask
one_up x = small (changing (effect Increase (alone 0) (number (pos 1)) ∷ [])) [] (initial 0 [] x ∷ [])
