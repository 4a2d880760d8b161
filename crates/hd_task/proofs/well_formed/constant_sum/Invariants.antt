use Rattle.std.proofs.Common.{◌≡◌, true, take, pos, neg_ℤ, ◌≤ℤ◌, ◌*◌, ◌^◌}
use Rattle.std.specs.List.{list_all}
use Rattle.hd_task.specs.WellFormed.{is_constant_amount, constant_sum}
use Rattle.hd_task.proofs.well_formed.constant_sum.Given as goal

-- the amounts so far are numbers, and `sum` is their exact sum, which 128 bits hold
abbrev pub invariant-loop-cost : goal.invariant-loop-cost
invariant-loop-cost l = record {
  numbers : list_all is_constant_amount (take l.cost-index l.costs) ≡ true;
  sum : l.sum ≡ constant_sum (take l.cost-index l.costs);
  low : neg_ℤ (pos (2 ^ 63 * l.cost-index)) ≤ℤ l.sum;
  high : l.sum ≤ℤ pos (2 ^ 63 * l.cost-index);
}
