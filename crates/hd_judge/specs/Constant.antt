-- Sums of constant amounts. (Our own.)
use Rattle.std.specs.Prelude.{ℕ, if◌then◌else◌, List, Option, None, ℤ, ◌+ℤ◌}
use Rattle.hd_base.specs.Values.{of_both}
use Rattle.hd_lifted.specs.declared.schema.NumericEffect.{NumericEffect}
use Rattle.hd_lifted.specs.declared.task.LiftedTask.{LiftedTask}
use Rattle.hd_lifted.specs.Expressions.{value_of}
use Rattle.hd_lifted.specs.States.{first_value}
use Rattle.hd_lifted.specs.Amounts.{is_constant}
use Rattle.hd_lifted.specs.Questions.{is_paid}

-- a sum with the amount of one more effect: none where that is dependent, or has no value
abbrev pub constant_cost : LiftedTask → List ℕ → Option ℤ → NumericEffect → Option ℤ
constant_cost t objects sum e =
    if is_paid e then (if is_constant t e.amount then of_both (λ x y. x +ℤ y) sum (value_of (first_value t.values) objects e.amount) else None)
    else sum
