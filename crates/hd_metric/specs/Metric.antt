-- What a metric asks of the texts: the function is at first 0, is changed only by increases, and is
-- read nowhere, also in no amount. (Our own.)
use Rattle.std.specs.Prelude.{ℕ, nat_abs, ◌==◌, Bool, false, not, ◌&&◌, if◌then◌else◌, List, [], ◌∷◌, Option, Some, None}
use Rattle.std.specs.List.{list_any}
use Rattle.std.specs.Option.{option_map}
use Rattle.std.specs.Str.{bytes_eq}
use Rattle.hd_forms.specs.declared.names.NameAt.{NameAt}
use Rattle.hd_forms.specs.declared.word.ChangeWord.{ChangeWord}
use Rattle.hd_forms.specs.declared.word.ChangeWord.TheVariants.{Assign, ScaleUp, Increase, Decrease}
use Rattle.hd_terms.specs.declared.tree.Condition.{Condition}
use Rattle.hd_terms.specs.declared.tree.Condition.TheVariants as conditions
use Rattle.hd_terms.specs.declared.tree.Effect.{Effect}
use Rattle.hd_terms.specs.declared.tree.Effect.TheVariants as effects
use Rattle.hd_terms.specs.declared.tree.FluentChange.{FluentChange}
use Rattle.hd_terms.specs.declared.tree.Leaf.{Leaf}
use Rattle.hd_terms.specs.declared.tree.Leaf.TheVariants.{Number, Fluent}
use Rattle.hd_base.specs.Expression.{Expression, leaf, negate, binary}
use Rattle.hd_pddl.specs.declared.tree.Action.{Action}
use Rattle.hd_pddl.specs.declared.tree.DomainAst.{DomainAst}
use Rattle.hd_pddl.specs.declared.tree.ProblemAst.{ProblemAst}
use Rattle.hd_pddl.specs.declared.tree.Init.{Init}
use Rattle.hd_pddl.specs.declared.tree.Init.TheVariants as inits
use Rattle.hd_base.specs.Options.{◌or◌}
use Rattle.hd_metric.specs.declared.fault.BadMetric.{BadMetric}

-- ---- the first place where the function f is used as it may not be

-- where an expression reads it
abbrev pub read_in : List ℕ → Expression Leaf → Option ℕ
read_in f (leaf (Number at v)) = None
read_in f (leaf (Fluent a)) = if bytes_eq a.name.name f then Some a.name.at else None
read_in f (negate x) = read_in f x
read_in f (binary o x y) = read_in f x or read_in f y

-- where a part of a condition reads it
abbrev pub read_by_part : List ℕ → Condition → Option ℕ
read_by_part f (conditions.Atom a) = None
read_by_part f (conditions.NotAtom a) = None
read_by_part f (conditions.Equal t u) = None
read_by_part f (conditions.NotEqual t u) = None
read_by_part f (conditions.Compare c) = read_in f c.left or read_in f c.right

-- where a condition reads it
abbrev pub read_by_condition : List ℕ → List Condition → Option ℕ
read_by_condition f [] = None
read_by_condition f (c ∷ cs) = read_by_part f c or read_by_condition f cs

-- a change of it has to be an increase, else its name is reported, by an amount that does not read
-- it
abbrev pub change_of_metric : List ℕ → FluentChange → ChangeWord → Option ℕ
change_of_metric f c Increase = read_in f c.amount
change_of_metric f c Assign = Some c.fluent.name.at
change_of_metric f c ScaleUp = Some c.fluent.name.at
change_of_metric f c Decrease = Some c.fluent.name.at

-- where a change misuses it: one of another function may not read it
abbrev pub misused_by_change : List ℕ → FluentChange → Option ℕ
misused_by_change f c = if bytes_eq c.fluent.name.name f then change_of_metric f c c.change else read_in f c.amount

-- where a part of an effect misuses it
abbrev pub misused_by_part : List ℕ → Effect → Option ℕ
misused_by_part f (effects.Add a) = None
misused_by_part f (effects.Delete a) = None
misused_by_part f (effects.Change c) = misused_by_change f c

-- where an effect misuses it
abbrev pub misused_by_effect : List ℕ → List Effect → Option ℕ
misused_by_effect f [] = None
misused_by_effect f (e ∷ es) = misused_by_part f e or misused_by_effect f es

-- where an action misuses it: its precondition may not read it
abbrev pub misused_by_action : List ℕ → Action → Option ℕ
misused_by_action f a = read_by_condition f a.precondition or misused_by_effect f a.effect

-- where actions misuse it
abbrev pub misused_by_actions : List ℕ → List Action → Option ℕ
misused_by_actions f [] = None
misused_by_actions f (a ∷ as') = misused_by_action f a or misused_by_actions f as'

-- ---- its first value

-- whether this is its first value
abbrev pub is_value_of : List ℕ → Init → Bool
is_value_of f (inits.Atom a) = false
is_value_of f (inits.NotAtom a) = false
is_value_of f (inits.Value v) = bytes_eq v.fluent.name.name f

-- the place of its first value, if that is not 0
abbrev pub nonzero_at : List ℕ → Init → Option ℕ
nonzero_at f (inits.Atom a) = None
nonzero_at f (inits.NotAtom a) = None
nonzero_at f (inits.Value v) = if bytes_eq v.fluent.name.name f && not (nat_abs v.value == 0) then Some v.at else None

-- the first such place
abbrev pub nonzero_in : List ℕ → List Init → Option ℕ
nonzero_in f [] = None
nonzero_in f (i ∷ is) = nonzero_at f i or nonzero_in f is

-- the place of the metric's name, where the function has no first value
abbrev pub missing_in : NameAt → List Init → Option ℕ
missing_in m is = if list_any (is_value_of m.name) is then None else Some m.at

-- ---- the whole

-- the wrong use that is at this place
abbrev pub bad_metric : ℕ → BadMetric
bad_metric at = record { at = at }

-- the first place in a problem where the metric's function is misused: a first value that is not 0,
-- the goal, and the metric if there is no first value
abbrev pub misused_by_problem : NameAt → ProblemAst → Option ℕ
misused_by_problem m p = nonzero_in m.name p.init or read_by_condition m.name p.goal or missing_in m p.init

-- the first misuse of the metric's function in a domain
abbrev pub misused_in_domain : Option NameAt → DomainAst → Option BadMetric
misused_in_domain None d = None
misused_in_domain (Some m) d = option_map bad_metric (misused_by_actions m.name d.actions)

-- the first such misuse in a problem
abbrev pub misused_in_problem : Option NameAt → ProblemAst → Option BadMetric
misused_in_problem None p = None
misused_in_problem (Some m) p = option_map bad_metric (misused_by_problem m p)
