-- What an action does to a state, and what it costs (PDDL 2.1).
use Rattle.std.specs.Prelude.{ℕ, Bool, not, ◌&&◌, ◌||◌, ◌==◌, if◌then◌else◌, List, map, length, Option, Some, None, ℤ, pos, negsuc, ◌+ℤ◌, ◌-ℤ◌, ◌*ℤ◌, find}
use Rattle.std.specs.List.{list_any, list_all, range_with_len, fold}
use Rattle.hd_task.specs.declared.state.State.{State}
use Rattle.hd_task.specs.declared.effect.SumPart.{SumPart}
use Rattle.hd_task.specs.declared.effect.SumPart.TheVariants.{Increase, Decrease}
use Rattle.hd_task.specs.declared.effect.ValueChange.{ValueChange}
use Rattle.hd_task.specs.declared.effect.ValueChange.TheVariants.{Assign, ScaleUp, Sum}
use Rattle.hd_task.specs.declared.effect.Effect.{Effect}
use Rattle.hd_task.specs.declared.action.Action.{Action}
use Rattle.hd_task.specs.declared.task.Task.{Task}
use Rattle.hd_base.specs.Numbers.{in_range}
use Rattle.hd_task.specs.Expressions.{Expr, fluent_of, value_of, stays_in_range}
use Rattle.hd_task.specs.Conditions.{has_atom}

-- 0, 1, and so on, n of them
abbrev pub numbers_below : ℕ → List ℕ
numbers_below n = range_with_len 0 n

-- ---- atoms

-- whether a list of numbers has this one
abbrev pub names_atom : List ℕ → ℕ → Bool
names_atom atoms i = list_any (λ j. j == i) atoms

-- an atom after an action: the action adds it, or it was true and the action doesn't delete it
abbrev pub atom_after : State → Action → ℕ → Bool
atom_after s a i = names_atom a.adds i || (has_atom s i && not (names_atom a.deletes i))

-- (s minus Del) union Add, over the atoms of the task
abbrev pub atoms_after : Task → State → Action → List Bool
atoms_after t s a = map (atom_after s a) (numbers_below (length t.atoms))

-- ---- fluents

-- one more increase or decrease, its amount by the values f
abbrev pub with_term : List ℤ → ℤ → SumPart → ℤ
with_term f v (Increase e) = v +ℤ value_of f e
with_term f v (Decrease e) = v -ℤ value_of f e

-- what a change makes of the value v, its amounts by the values f from before the action: increases
-- and decreases add up
abbrev pub value_by_change : List ℤ → ValueChange → ℤ → ℤ
value_by_change f (Assign e) v = value_of f e
value_by_change f (ScaleUp e) v = v *ℤ value_of f e
value_by_change f (Sum terms) v = fold (with_term f) v terms

-- the value that an effect gives its fluent
abbrev pub new_value : List ℤ → Effect → ℤ
new_value f e = value_by_change f e.change (fluent_of f e.fluent)

-- a fluent that no effect changes keeps its value
abbrev pub value_after : List ℤ → ℕ → Option Effect → ℤ
value_after f j None = fluent_of f j
value_after f j (Some e) = new_value f e

-- the action's effect on a fluent
abbrev pub effect_on : Action → ℕ → Option Effect
effect_on a j = find (λ (e : Effect). e.fluent == j) a.effects

-- the values after an action, over the fluents of the task, each by the values before
abbrev pub fluents_after : Task → State → Action → List ℤ
fluents_after t s a = map (λ j. value_after s.fluents j (effect_on a j)) (numbers_below (length t.fluents))

-- the state after an action
unfoldable pub state_after : Task → State → Action → State
state_after t s a = record { atoms = atoms_after t s a; fluents = fluents_after t s a }

-- ---- costs

-- the sum of the amounts that an action adds to the cost, in exact integers
abbrev pub sum_of_costs : List ℤ → List Expr → ℤ
sum_of_costs f costs = fold (λ sum e. sum +ℤ value_of f e) (pos 0) costs

-- the cost of an action in a state: 1 without a metric
abbrev pub exact_cost : Task → State → Action → ℤ
exact_cost t s a = if t.metric then sum_of_costs s.fluents a.costs else pos 1

-- an integer that is not negative
abbrev pub natural : ℤ → Option ℕ
natural (pos n) = Some n
natural (negsuc n) = None

-- the cost of a step, none where it would be negative
unfoldable pub step_cost : Task → State → Action → Option ℕ
step_cost t s a = natural (exact_cost t s a)

-- ---- the range

-- each subexpression of a term is in the range
abbrev pub term_stays : List ℤ → SumPart → Bool
term_stays f (Increase e) = stays_in_range f e
term_stays f (Decrease e) = stays_in_range f e

-- each subexpression of a change is in the range
abbrev pub change_stays : List ℤ → ValueChange → Bool
change_stays f (Assign e) = stays_in_range f e
change_stays f (ScaleUp e) = stays_in_range f e
change_stays f (Sum terms) = list_all (term_stays f) terms

-- each subexpression of an effect and the new value are in the range; the sums on the way are not
-- judged
abbrev pub effect_stays : List ℤ → Effect → Bool
effect_stays f e = change_stays f e.change && in_range (new_value f e)

-- each subexpression of an action's effects and costs, and each new value, is in the range
unfoldable pub effects_stay : State → Action → Bool
effects_stay s a = list_all (effect_stays s.fluents) a.effects && list_all (stays_in_range s.fluents) a.costs
