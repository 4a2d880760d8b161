-- When a condition holds (PDDL 2.1), and when it departs from the range.
use Rattle.std.specs.Prelude.{ℕ, Bool, false, not, ◌&&◌, if◌then◌else◌, List, slice_index_or, ℤ}
use Rattle.std.specs.List.{list_all}
use Rattle.hd_task.specs.declared.state.State.{State}
use Rattle.hd_task.specs.declared.condition.Comparison.{Comparison}
use Rattle.hd_task.specs.declared.condition.Literal.{Literal}
use Rattle.hd_task.specs.declared.condition.Condition.{Condition}
use Rattle.hd_base.specs.Numbers.{relation_holds}
use Rattle.hd_task.specs.Expressions.{value_of, stays_in_range}

-- whether an atom is true: one that the state lacks is false
abbrev pub has_atom : State → ℕ → Bool
has_atom s i = slice_index_or s.atoms i false

-- that an atom is true, or false
abbrev pub literal : Bool → ℕ → Literal
literal positive i = record { atom = i; positive = positive }

-- a positive literal asks that its atom is true, a negative one that it is false
abbrev pub literal_holds : State → Literal → Bool
literal_holds s l = if l.positive then has_atom s l.atom else not (has_atom s l.atom)

-- a comparison holds by the values of its sides
abbrev pub comparison_holds : List ℤ → Comparison → Bool
comparison_holds f c = relation_holds c.relation (value_of f c.left) (value_of f c.right)

-- each subexpression of a comparison is in the range
abbrev pub comparison_stays : List ℤ → Comparison → Bool
comparison_stays f c = stays_in_range f c.left && stays_in_range f c.right

-- the conditions on atoms and objects hold
abbrev pub literals_hold : State → Condition → Bool
literals_hold s c = not c.never && list_all (literal_holds s) c.literals

-- the comparisons hold
abbrev pub comparisons_hold : State → Condition → Bool
comparisons_hold s c = list_all (comparison_holds s.fluents) c.comparisons

-- each subexpression of the comparisons is in the range
abbrev pub comparisons_stay : State → Condition → Bool
comparisons_stay s c = list_all (comparison_stays s.fluents) c.comparisons

-- a condition holds where each of its parts does
unfoldable pub holds : State → Condition → Bool
holds s c = literals_hold s c && comparisons_hold s c

-- a condition departs where its conditions on atoms and objects hold and a subexpression of a
-- comparison is out of the range, whether the comparisons hold or not
unfoldable pub condition_departs : State → Condition → Bool
condition_departs s c = literals_hold s c && not (comparisons_stay s c)
