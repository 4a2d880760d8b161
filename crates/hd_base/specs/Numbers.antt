-- What is done with numbers and how they compare, in exact integers; the range that a planner's
-- numbers have to stay in. (The range is our own: PDDL 2.1 has none.)
use Rattle.std.specs.Prelude.{◌≤ℤ◌, pos, ℕ, Bool, true, ◌&&◌, Option, Some, None, ℤ, ◌+ℤ◌, ◌-ℤ◌, ◌*ℤ◌, nat_abs, nat_le, int_lt, int_le}
use Rattle.hd_base.specs.declared.operation.Operation.{Operation}
use Rattle.hd_base.specs.declared.operation.Operation.TheVariants.{Add, Subtract, Multiply}
use Rattle.hd_base.specs.declared.relation.Relation.{Relation}
use Rattle.hd_base.specs.declared.relation.Relation.TheVariants.{Less, LessOrEqual, Equal, GreaterOrEqual, Greater}
use Rattle.hd_base.specs.declared.range.TheConstants.{RANGE_END}

-- what an operation makes of two integers
abbrev pub result_of : Operation → ℤ → ℤ → ℤ
result_of Add x y = x +ℤ y
result_of Subtract x y = x -ℤ y
result_of Multiply x y = x *ℤ y

-- how two integers compare
abbrev pub relation_holds : Relation → ℤ → ℤ → Bool
relation_holds Less x y = int_lt x y
relation_holds LessOrEqual x y = int_le x y
relation_holds Equal x y = int_le x y && int_le y x
relation_holds GreaterOrEqual x y = int_le y x
relation_holds Greater x y = int_lt y x

-- ---- the range

-- the range: from -10^15 to 10^15, both ends in it
abbrev pub in_range : ℤ → Bool
in_range v = nat_le (nat_abs v) RANGE_END

-- the same of a plan's cost, which is not negative
abbrev pub cost_in_range : ℕ → Bool
cost_in_range cost = nat_le cost RANGE_END

-- a value that may be missing is in the range, if it is there
abbrev pub fits : Option ℤ → Bool
fits None = true
fits (Some v) = in_range v

-- two integers differ by no more than this
pub record IsNear (distance : ℕ) (old new : ℤ) : Type 0 where
  pub low : old ≤ℤ (new +ℤ pos distance)
  pub high : new ≤ℤ (old +ℤ pos distance)
