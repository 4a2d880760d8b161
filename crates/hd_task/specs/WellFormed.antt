-- What a task keeps: its numbers name what it has, and no constant cost is negative. Tests that
-- compute. (Our own.)
use Rattle.std.specs.Prelude.{ℕ, Bool, true, false, not, ◌&&◌, ◌||◌, ◌==◌, List, [], ◌∷◌, length, map, ℤ, pos, ◌+ℤ◌, int_le, nat_lt, nat_le}
use Rattle.std.specs.List.{list_all, fold}
use Rattle.hd_base.specs.declared.expression.Operand.{Operand}
use Rattle.hd_base.specs.declared.expression.Operand.TheVariants.{Number, Fluent}
use Rattle.hd_base.specs.Expression.{leaf, negate, binary}
use Rattle.hd_base.specs.Numbers.{in_range}
use Rattle.hd_task.specs.declared.state.State.{State}
use Rattle.hd_task.specs.declared.form.GroundForm.{GroundForm}
use Rattle.hd_task.specs.declared.form.Names.{Names}
use Rattle.hd_task.specs.declared.condition.Literal.{Literal}
use Rattle.hd_task.specs.declared.condition.Comparison.{Comparison}
use Rattle.hd_task.specs.declared.condition.Condition.{Condition}
use Rattle.hd_task.specs.declared.effect.SumPart.{SumPart}
use Rattle.hd_task.specs.declared.effect.SumPart.TheVariants.{Increase, Decrease}
use Rattle.hd_task.specs.declared.effect.ValueChange.{ValueChange}
use Rattle.hd_task.specs.declared.effect.ValueChange.TheVariants.{Assign, ScaleUp, Sum}
use Rattle.hd_task.specs.declared.effect.Effect.{Effect}
use Rattle.hd_task.specs.declared.action.Action.{Action}
use Rattle.hd_task.specs.declared.task.TheConstants.{MAX_ACTIONS, MAX_ATOMS, MAX_FLUENTS, MAX_AMOUNTS}
use Rattle.hd_task.specs.Expressions.{Expr, value_of}

-- ---- sizes

-- a task may have so many atoms, fluents and actions
abbrev pub within_limits : ℕ → ℕ → ℕ → Bool
within_limits atoms fluents actions = nat_le atoms MAX_ATOMS && nat_le fluents MAX_FLUENTS && nat_le actions MAX_ACTIONS

-- ---- names

-- a ground form has a name for its symbol and for each object
abbrev pub is_named : ℕ → ℕ → GroundForm → Bool
is_named symbols objects g = nat_lt g.symbol symbols && list_all (λ o. nat_lt o objects) g.objects

-- each atom, fluent and action has its names
abbrev pub are_named : Names → List GroundForm → List GroundForm → List Action → Bool
are_named n atoms fluents actions =
    list_all (is_named (length n.predicates) (length n.objects)) atoms
    && list_all (is_named (length n.functions) (length n.objects)) fluents
    && list_all (λ (a : Action). is_named (length n.schemas) (length n.objects) a.form) actions

-- ---- fluents that are read and changed

-- a leaf is a number, or a fluent below this number
abbrev pub leaf_reads_below : ℕ → Operand ℕ → Bool
leaf_reads_below n (Number v) = true
leaf_reads_below n (Fluent j) = nat_lt j n

-- an expression reads only fluents below this number
abbrev pub reads_below : ℕ → Expr → Bool
reads_below n (leaf l) = leaf_reads_below n l
reads_below n (negate x) = reads_below n x
reads_below n (binary o x y) = reads_below n x && reads_below n y

-- a comparison reads only fluents below this number
abbrev pub comparison_reads_below : ℕ → Comparison → Bool
comparison_reads_below n c = reads_below n c.left && reads_below n c.right

-- the same of a term
abbrev pub term_reads_below : ℕ → SumPart → Bool
term_reads_below n (Increase e) = reads_below n e
term_reads_below n (Decrease e) = reads_below n e

-- the same of a change
abbrev pub change_reads_below : ℕ → ValueChange → Bool
change_reads_below n (Assign e) = reads_below n e
change_reads_below n (ScaleUp e) = reads_below n e
change_reads_below n (Sum terms) = list_all (term_reads_below n) terms

-- an effect reads and changes only fluents below this number
abbrev pub effect_fits : ℕ → Effect → Bool
effect_fits n e = nat_lt e.fluent n && change_reads_below n e.change

-- a number is below the first of these, if there is one
abbrev pub is_below_first : ℕ → List ℕ → Bool
is_below_first x [] = true
is_below_first x (y ∷ ys) = nat_lt x y

-- numbers that rise: so none stands twice
abbrev pub is_rising : List ℕ → Bool
is_rising [] = true
is_rising (x ∷ xs) = is_below_first x xs && is_rising xs

-- an action adds only atoms of the task, reads and changes only its fluents, and changes each of
-- them once at most
abbrev pub action_fits : ℕ → ℕ → Action → Bool
action_fits atoms fluents a =
    list_all (λ i. nat_lt i atoms) a.adds
    && list_all (comparison_reads_below fluents) a.condition.comparisons
    && list_all (effect_fits fluents) a.effects
    && is_rising (map (λ (e : Effect). e.fluent) a.effects)

-- a goal names only atoms of the task, and reads only its fluents
abbrev pub goal_fits : ℕ → ℕ → Condition → Bool
goal_fits atoms fluents c =
    list_all (λ (l : Literal). nat_lt l.atom atoms) c.literals && list_all (comparison_reads_below fluents) c.comparisons

-- ---- costs

-- an amount is a number: it is constant. Every other amount is a dependent one
abbrev pub is_constant_amount : Expr → Bool
is_constant_amount (leaf (Number v)) = true
is_constant_amount (leaf (Fluent j)) = false
is_constant_amount (negate x) = false
is_constant_amount (binary o x y) = false

-- the sum of amounts that read no fluent
abbrev pub constant_sum : List Expr → ℤ
constant_sum costs = fold (λ sum e. sum +ℤ value_of [] e) (pos 0) costs

-- an action's amounts read only fluents of the task, and there are not too many; without a metric
-- there are none
abbrev pub costs_fit : ℕ → Bool → Action → Bool
costs_fit fluents metric a =
    (metric || (length a.costs == 0)) && nat_le (length a.costs) MAX_AMOUNTS && list_all (reads_below fluents) a.costs

-- an action whose amounts are all constant costs nothing negative
abbrev pub constant_cost_fits : Action → Bool
constant_cost_fits a = not (list_all is_constant_amount a.costs) || int_le (pos 0) (constant_sum a.costs)

-- ---- all of it

-- the parts of a task fit together
abbrev pub parts_fit : Names → List GroundForm → List GroundForm → State → List Action → Condition → Bool → Bool
parts_fit names atoms fluents initial actions goal metric =
    within_limits (length atoms) (length fluents) (length actions)
    && are_named names atoms fluents actions
    && (length initial.atoms == length atoms)
    && (length initial.fluents == length fluents)
    && list_all in_range initial.fluents
    && list_all (action_fits (length atoms) (length fluents)) actions
    && goal_fits (length atoms) (length fluents) goal
    && list_all (costs_fit (length fluents) metric) actions
    && list_all constant_cost_fits actions
