-- What an action does to a state, and what it costs (PDDL 2.1). The schema's parameters stand for a
-- list of objects.
use Rattle.std.specs.Prelude.{ℕ, Bool, true, false, not, ◌&&◌, ◌||◌, if◌then◌else◌, List, [], ◌∷◌, Option, Some, None, is_some, ℤ, pos, negsuc, ◌+ℤ◌, ◌-ℤ◌, ◌*ℤ◌}
use Rattle.std.specs.List.{list_any, list_all, fold}
use Rattle.hd_base.specs.Numbers.{fits}
use Rattle.hd_base.specs.Values.{of_both}
use Rattle.hd_lifted.specs.declared.schema.AppliedSymbol.{AppliedSymbol}
use Rattle.hd_lifted.specs.declared.schema.Ground.{Ground}
use Rattle.hd_lifted.specs.declared.schema.ChangeKind.{ChangeKind}
use Rattle.hd_lifted.specs.declared.schema.ChangeKind.TheVariants.{Assign, ScaleUp, Increase, Decrease, Cost}
use Rattle.hd_lifted.specs.declared.schema.NumericEffect.{NumericEffect}
use Rattle.hd_lifted.specs.declared.schema.Schema.{Schema}
use Rattle.hd_lifted.specs.declared.task.LiftedTask.{LiftedTask}
use Rattle.hd_lifted.specs.States.{Values, State, same, ground_form_of}
use Rattle.hd_lifted.specs.Expressions.{value_of, stays_in_range}

-- ---- atoms

-- whether a list of atoms has this one
abbrev pub names_atom : List ℕ → List AppliedSymbol → Ground → Bool
names_atom objects atoms g = list_any (λ a. same (ground_form_of objects a) g) atoms

-- (s minus Del) union Add: the action adds the atom, or it was true and the action doesn't delete
-- it
abbrev pub atoms_after : (Ground → Bool) → Schema → List ℕ → Ground → Bool
atoms_after atoms a objects g = names_atom objects a.adds g || (atoms g && not (names_atom objects a.deletes g))

-- ---- effects that don't go together

-- a change that has to be the only one of its fluent
abbrev pub stands_alone : ChangeKind → Bool
stands_alone Assign = true
stands_alone ScaleUp = true
stands_alone Increase = false
stands_alone Decrease = false
stands_alone Cost = false

-- two effects are on one fluent, and one of them would have to be alone there
abbrev pub clash : List ℕ → NumericEffect → NumericEffect → Bool
clash objects e f =
    same (ground_form_of objects e.fluent) (ground_form_of objects f.fluent) && (stands_alone e.change || stands_alone f.change)

-- two effects of a list clash, the same assignment twice among them. (Our own: such an action is no
-- instance)
abbrev pub effects_clash : List ℕ → List NumericEffect → Bool
effects_clash objects [] = false
effects_clash objects (e ∷ es) = list_any (clash objects e) es || effects_clash objects es

-- ---- fluents

-- what a change makes of a value by an amount. Only an assignment gives a value to a fluent that
-- has none; an amount without a value leaves its fluent without one, and the step stays defined
abbrev pub value_by_change : ChangeKind → Option ℤ → Option ℤ → Option ℤ
value_by_change Assign x amount = amount
value_by_change ScaleUp x amount = of_both (λ x y. x *ℤ y) x amount
value_by_change Increase x amount = of_both (λ x y. x +ℤ y) x amount
value_by_change Decrease x amount = of_both (λ x y. x -ℤ y) x amount
value_by_change Cost x amount = x

-- what an effect makes of the value x of the fluent g, its amount by the values v from before the
-- action
abbrev pub with_effect : Values → List ℕ → Ground → Option ℤ → NumericEffect → Option ℤ
with_effect v objects g x e =
    if same (ground_form_of objects e.fluent) g then value_by_change e.change x (value_of v objects e.amount) else x

-- the value of a fluent after an action: increases and decreases add up, and an assignment or a
-- scaling is the only effect on its fluent, so that the order of the effects doesn't matter
abbrev pub value_after : Values → Schema → List ℕ → Ground → Option ℤ
value_after v a objects g = fold (with_effect v objects g) (v g) a.effects

-- the state after an action
unfoldable pub state_after : State → Schema → List ℕ → State
state_after s a objects = record { atoms = atoms_after s.atoms a objects; values = value_after s.values a objects }

-- ---- costs

-- an effect is a part of the cost
abbrev pub is_cost : ChangeKind → Bool
is_cost Assign = false
is_cost ScaleUp = false
is_cost Increase = false
is_cost Decrease = false
is_cost Cost = true

-- one more effect's part of the cost
abbrev pub with_cost : Values → List ℕ → Option ℤ → NumericEffect → Option ℤ
with_cost v objects sum e = if is_cost e.change then of_both (λ x y. x +ℤ y) sum (value_of v objects e.amount) else sum

-- the sum of an action's increases of the metric's function, in exact integers, none where an
-- amount has no value
abbrev pub sum_of_costs : Values → Schema → List ℕ → Option ℤ
sum_of_costs v a objects = fold (with_cost v objects) (Some (pos 0)) a.effects

-- the cost of an action: 1 without a metric
unfoldable pub step_cost : LiftedTask → Values → Schema → List ℕ → Option ℤ
step_cost t v a objects = if is_some t.metric then sum_of_costs v a objects else Some (pos 1)

-- a cost is there and negative
abbrev pub is_negative : Option ℤ → Bool
is_negative None = false
is_negative (Some (pos n)) = false
is_negative (Some (negsuc n)) = true

-- ---- the range

-- each subexpression of an effect and the new value are in the range; the sums on the way are not
-- judged, and a cost changes no value
abbrev pub effect_stays : Values → Schema → List ℕ → NumericEffect → Bool
effect_stays v a objects e =
    stays_in_range v objects e.amount && (is_cost e.change || fits (value_after v a objects (ground_form_of objects e.fluent)))

-- each subexpression of an action's effects, its costs among them, and each new value is in the
-- range
unfoldable pub effects_stay : Values → Schema → List ℕ → Bool
effects_stay v a objects = list_all (effect_stays v a objects) a.effects
