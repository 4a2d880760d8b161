use Rattle.std.proofs.Common.{◌≡◌, true, take, pos, neg_ℤ, ◌≤ℤ◌, ◌*◌}
use Rattle.std.specs.List.{list_all}
use Rattle.hd_base.specs.declared.range.TheConstants.{RANGE_END}
use Rattle.hd_task.specs.Expressions.{stays_in_range}
use Rattle.hd_task.specs.Effects.{sum_of_costs}
use Rattle.hd_task.proofs.effect.sum_of_costs.Given as goal

-- the amounts so far stay in the range, and `sum` is their exact sum, which is far from the ends of
-- 128 bits
abbrev pub invariant-loop-amount : goal.invariant-loop-amount
invariant-loop-amount g l = record {
  stay : list_all (stays_in_range (g.R.Reads.seen l.state).fluents) (take l.amount-index l.amounts) ≡ true;
  sum : l.sum ≡ sum_of_costs (g.R.Reads.seen l.state).fluents (take l.amount-index l.amounts);
  low : neg_ℤ (pos (RANGE_END * l.amount-index)) ≤ℤ l.sum;
  high : l.sum ≤ℤ pos (RANGE_END * l.amount-index);
}
