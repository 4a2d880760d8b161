use Rattle.std.proofs.Common.{◌≡◌, true, take, pos, neg_ℤ, ◌≤ℤ◌, ◌*◌, ◌^◌}
use Rattle.std.specs.List.{list_all}
use Rattle.hd_task.specs.WellFormed.{is_constant_amount, constant_sum}
use Rattle.hd_hmax.proofs.prices.sum_of_constants.Given as goal

-- the amounts so far are constant, and `sum` is their exact sum, which 128 bits hold
abbrev pub invariant-loop-amount : goal.invariant-loop-amount
invariant-loop-amount l = record {
  constant : list_all is_constant_amount (take l.amount-index l.amounts) ≡ true;
  sum : l.sum ≡ constant_sum (take l.amount-index l.amounts);
  low : neg_ℤ (pos (2 ^ 63 * l.amount-index)) ≤ℤ l.sum;
  high : l.sum ≤ℤ pos (2 ^ 63 * l.amount-index);
}
