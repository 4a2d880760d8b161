-- No step of an action costs less than its price.
use Rattle.std.proofs.Common.{◌≡◌, ℕ, ◌≤◌, Bool, true, false, cond, List, [], ◌∷◌, Some, refl, sym, ap, ◌∙◌, arith, ℤ, pos, ◌+ℤ◌}
use Rattle.std.specs.List.{list_all, fold}
use Rattle.std.specs.Option.{unwrap_or}
use Rattle.std.proofs.lemmas.Bool.{and_parts, true≢false}
use Rattle.std.proofs.lemmas.Option.{same_Some}
use Rattle.hd_base.specs.declared.expression.Operand.TheVariants.{Number, Fluent}
use Rattle.hd_base.specs.Expression.{leaf, negate, binary}
use Rattle.hd_task.specs.declared.state.State.{State}
use Rattle.hd_task.specs.declared.action.Action.{Action}
use Rattle.hd_task.specs.declared.task.Task.{Task}
use Rattle.hd_task.specs.Expressions.{Expr, value_of}
use Rattle.hd_task.specs.Effects.{natural, sum_of_costs, step_cost}
use Rattle.hd_task.specs.WellFormed.{is_constant_amount, constant_sum}
use Rattle.hd_hmax.specs.Prices.{price}

-- a number has its value in each state
constant_value : (f : List ℤ) (e : Expr) → is_constant_amount e ≡ true → value_of f e ≡ value_of [] e
constant_value f (leaf (Number v)) is = refl
constant_value f (leaf (Fluent j)) is = absurd (true≢false (sym is))
constant_value f (negate x) is = absurd (true≢false (sym is))
constant_value f (binary o x y) is = absurd (true≢false (sym is))

constant_sum_from : (f : List ℤ) (costs : List Expr) (z : ℤ) → list_all is_constant_amount costs ≡ true
    → fold (λ sum e. sum +ℤ value_of f e) z costs ≡ fold (λ sum e. sum +ℤ value_of [] e) z costs
constant_sum_from f [] z are = refl
constant_sum_from f (e ∷ costs) z are =
    let both = and_parts (is_constant_amount e) (list_all is_constant_amount costs) are in
    ap (λ v. fold (λ sum e. sum +ℤ value_of f e) (z +ℤ v) costs) (constant_value f e both.0) ∙ constant_sum_from f costs (z +ℤ value_of [] e) both.1

at_most : (constant : Bool) (exact known : ℤ) (c : ℕ) → (constant ≡ true → exact ≡ known) → natural exact ≡ Some c → cond constant (unwrap_or (natural known) 0) 0 ≤ c
at_most false exact known c same is = omega arith
at_most true exact known c same is =
    let e : unwrap_or (natural known) 0 ≡ c = ap (λ z. unwrap_or (natural z) 0) (sym (same refl)) ∙ ap (λ o. unwrap_or o 0) is in
    omega arith

by_metric : (metric : Bool) (s : State) (a : Action) (c : ℕ) → natural (cond metric (sum_of_costs s.fluents a.costs) (pos 1)) ≡ Some c
    → cond metric (cond (list_all is_constant_amount a.costs) (unwrap_or (natural (constant_sum a.costs)) 0) 0) 1 ≤ c
by_metric true s a c is =
    at_most (list_all is_constant_amount a.costs) (sum_of_costs s.fluents a.costs) (constant_sum a.costs) c (λ are. constant_sum_from s.fluents a.costs (pos 0) are) is
by_metric false s a c is = let e : 1 ≡ c = same_Some 1 c is in omega arith

pub price-le : (t : Task) (s : State) (a : Action) (c : ℕ) → step_cost t s a ≡ Some c → price t a ≤ c
unfolding step_cost price
price-le t s a c is = by_metric t.metric s a c is
