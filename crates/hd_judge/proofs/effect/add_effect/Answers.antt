use Rattle.std.proofs.Common.{◌+◌, SFits, arith, rules}
use Rattle.std.specs.Int.{w128}
use Rattle.std.proofs.lemmas.Int.{ints, to_z-of_z}
use Rattle.hd_base.specs.declared.range.TheConstants.{RANGE_END}
use Rattle.hd_judge.specs.Effects.{new_value_in}
use Rattle.hd_judge.proofs.Changing.{some_wider}
use Rattle.hd_judge.proofs.effect.add_effect.Goals as goal

pub returns-then-is_cost-clause-near : goal.returns-then-is_cost-clause-near
returns-then-is_cost-clause-near c = λ n big near.
    let old = c.args.changes.now.cost in
    let new = c.plus-changes.result in
    let fits_old : SFits w128 old = search rules in
    let fits_new : SFits w128 new = search rules in
    let of_old = to_z-of_z w128 old fits_old in
    let of_new = to_z-of_z w128 new fits_new in
    record {
      values = λ g. some_wider n (n + RANGE_END) (new_value_in c.args.changes.now g) (omega arith) (near.values g);
      cost = record {
        low = omega (arith, ints, near.cost.low, c.plus-changes.ensures.near.low, of_old, of_new);
        high = omega (arith, ints, near.cost.high, c.plus-changes.ensures.near.high, of_old, of_new);
      };
    }
