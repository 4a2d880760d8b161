use Rattle.std.proofs.Common.{◌∙◌, arith, SFits, rules}
use Rattle.std.specs.Int.{w128}
use Rattle.std.proofs.lemmas.Grind.{common_steps}
use Rattle.std.proofs.lemmas.Int.{ints, to_z-of_z}
use Rattle.hd_base.proofs.Lists.{fold_more_read}
use Rattle.hd_hmax.proofs.prices.sum_of_constants.Goals as goal

pub loop-amount-preserved : goal.loop-amount-preserved
loop-amount-preserved c =
    let fits : SFits w128 c.in_ok-sum.sum = search rules in
    record {
      constant = grind (arith, common_steps, c.in_ok-sum.ensures);
      sum = to_z-of_z w128 _ fits ∙ fold_more_read _ _ _ _ _ _ _ c.loop-amount-test.true c.amount-item.is c.loop-amount.invariant.sum (c.in_ok-sum.ensures.value.1 ∙ rw c.loop-amount.sum-is);
      low = rw to_z-of_z (omega (arith, ints, c.in_ok-sum.ensures.near.low, c.loop-amount.sum-is));
      high = rw to_z-of_z (omega (arith, ints, c.in_ok-sum.ensures.near.high, c.loop-amount.sum-is));
    }
