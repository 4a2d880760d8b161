-- When a condition holds (PDDL 2.1), and when it departs from the range. The parameters stand for a
-- list of objects, which is empty for a goal.
use Rattle.std.specs.Prelude.{ℕ, Bool, false, not, ◌&&◌, ◌==◌, if◌then◌else◌, List, Option, Some, None, ℤ}
use Rattle.std.specs.List.{list_all}
use Rattle.hd_base.specs.declared.relation.Relation.{Relation}
use Rattle.hd_base.specs.Numbers.{relation_holds}
use Rattle.hd_lifted.specs.declared.schema.Ground.{Ground}
use Rattle.hd_lifted.specs.declared.schema.Literal.{Literal}
use Rattle.hd_lifted.specs.declared.schema.Equality.{Equality}
use Rattle.hd_lifted.specs.declared.schema.Comparison.{Comparison}
use Rattle.hd_lifted.specs.declared.schema.Condition.{Condition}
use Rattle.hd_lifted.specs.States.{Values, State, object_of, ground_form_of}
use Rattle.hd_lifted.specs.Expressions.{value_of, stays_in_range}

-- a positive literal asks that its atom is true, a negative one that it is false
abbrev pub literal_holds : (Ground → Bool) → List ℕ → Literal → Bool
literal_holds atoms objects l =
    if l.positive then atoms (ground_form_of objects l.atom) else not (atoms (ground_form_of objects l.atom))

-- a positive equality asks that both arguments are the same object, a negative one that they are
-- not
abbrev pub equality_holds : List ℕ → Equality → Bool
equality_holds objects e =
    if e.positive then object_of objects e.left == object_of objects e.right
    else not (object_of objects e.left == object_of objects e.right)

-- how two values compare: if one is missing, no relation holds
abbrev pub relation_holds_if : Relation → Option ℤ → Option ℤ → Bool
relation_holds_if r None y = false
relation_holds_if r (Some x) None = false
relation_holds_if r (Some x) (Some y) = relation_holds r x y

-- a comparison holds by the values of its sides
abbrev pub comparison_holds : Values → List ℕ → Comparison → Bool
comparison_holds v objects c = relation_holds_if c.relation (value_of v objects c.left) (value_of v objects c.right)

-- each subexpression of a comparison is in the range
abbrev pub comparison_stays : Values → List ℕ → Comparison → Bool
comparison_stays v objects c = stays_in_range v objects c.left && stays_in_range v objects c.right

-- the conditions on atoms and objects hold
abbrev pub literals_hold : State → List ℕ → Condition → Bool
literals_hold s objects c = list_all (literal_holds s.atoms objects) c.literals && list_all (equality_holds objects) c.equalities

-- the comparisons hold
abbrev pub comparisons_hold : State → List ℕ → Condition → Bool
comparisons_hold s objects c = list_all (comparison_holds s.values objects) c.comparisons

-- each subexpression of the comparisons is in the range
abbrev pub comparisons_stay : State → List ℕ → Condition → Bool
comparisons_stay s objects c = list_all (comparison_stays s.values objects) c.comparisons

-- a condition holds where each of its parts does
unfoldable pub holds : State → List ℕ → Condition → Bool
holds s objects c = literals_hold s objects c && comparisons_hold s objects c

-- a condition departs where its conditions on atoms and objects hold and a subexpression of a
-- comparison is out of the range, whether the comparisons hold or not
unfoldable pub condition_departs : State → List ℕ → Condition → Bool
condition_departs s objects c = literals_hold s objects c && not (comparisons_stay s objects c)
