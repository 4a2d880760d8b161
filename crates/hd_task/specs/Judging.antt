-- The answers of what computes within the range: a value, or nothing where a number leaves the
-- range. (Our own.)
use Rattle.std.specs.Prelude.{◌≡◌, ℕ, Bool, true, false, ◌&&◌, List, Option, Some, is_some, MatchOption, ℤ, ◌+ℤ◌}
use Rattle.std.specs.List.{list_all, fold}
use Rattle.hd_base.specs.Answers.{Judges}
use Rattle.hd_task.specs.declared.state.State.{State}
use Rattle.hd_task.specs.declared.condition.Comparison.{Comparison}
use Rattle.hd_task.specs.declared.effect.SumPart.{SumPart}
use Rattle.hd_task.specs.declared.effect.Effect.{Effect}
use Rattle.hd_task.specs.declared.action.Action.{Action}
use Rattle.hd_task.specs.declared.task.Task.{Task}
use Rattle.hd_task.specs.Expressions.{Expr, value_of, stays_in_range}
use Rattle.hd_task.specs.Conditions.{comparison_stays, comparison_holds}
use Rattle.hd_task.specs.Effects.{with_term, new_value, fluents_after, sum_of_costs, step_cost, term_stays, effect_stays}

-- ---- expressions and comparisons

-- an expression's value
abbrev pub JudgesValue : List ℤ → Expr → Option ℤ → Type 0
JudgesValue f e answer = Judges answer (stays_in_range f e) (value_of f e)

-- whether a comparison holds
abbrev pub JudgesComparison : List ℤ → Comparison → Option Bool → Type 0
JudgesComparison f c answer = Judges answer (comparison_stays f c) (comparison_holds f c)

-- whether all comparisons hold
abbrev pub JudgesComparisons : List ℤ → List Comparison → Option Bool → Type 0
JudgesComparisons f cs answer = Judges answer (list_all (comparison_stays f) cs) (list_all (comparison_holds f) cs)

-- ---- sums

-- a sum with one more amount
abbrev pub JudgesSum : List ℤ → ℤ → Expr → Option ℤ → Type 0
JudgesSum f sum amount answer = Judges answer (stays_in_range f amount) (sum +ℤ value_of f amount)

-- a sum with one more term
abbrev pub JudgesTerm : List ℤ → ℤ → SumPart → Option ℤ → Type 0
JudgesTerm f sum term answer = Judges answer (term_stays f term) (with_term f sum term)

-- the sum of terms, onto a first value
abbrev pub JudgesTerms : List ℤ → ℤ → List SumPart → Option ℤ → Type 0
JudgesTerms f first terms answer = Judges answer (list_all (term_stays f) terms) (fold (with_term f) first terms)

-- the sum of an action's amounts
abbrev pub JudgesCosts : List ℤ → List Expr → Option ℤ → Type 0
JudgesCosts f amounts answer = Judges answer (list_all (stays_in_range f) amounts) (sum_of_costs f amounts)

-- ---- effects

-- the value that an effect gives its fluent
abbrev pub JudgesEffect : List ℤ → Effect → Option ℤ → Type 0
JudgesEffect f e answer = Judges answer (effect_stays f e) (new_value f e)

-- the values after an action
abbrev pub JudgesFluents : Task → State → Action → Option (List ℤ) → Type 0
JudgesFluents t s a answer = Judges answer (list_all (effect_stays s.fluents) a.effects) (fluents_after t s a)

-- the cost of a step, which may also be missing
abbrev pub JudgesStepCost : Task → State → Action → Option ℕ → Type 0
JudgesStepCost t s a answer =
    MatchOption answer ((list_all (stays_in_range s.fluents) a.costs && is_some (step_cost t s a)) ≡ false)
    (λ c. (list_all (stays_in_range s.fluents) a.costs ≡ true) × (step_cost t s a ≡ Some c))
