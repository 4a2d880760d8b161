use Rattle.std.proofs.Common.{◌<◌, ◌≤◌, length, get_or, refl, arith, ◌∙◌, length-set}
use Rattle.hd_turns.specs.Calls.{outcome_numbered}
use Rattle.hd_worker.proofs.Mapping.{mapped_more, mapped_all}
use Rattle.hd_worker.proofs.batching.number_all.Goals as goal

pub loop-outcome-preserved : goal.loop-outcome-preserved
loop-outcome-preserved c =
    let now = c.loop-outcome.outcomes in
    let place = c.loop-outcome.outcome-index in
    let item = get_or now place c.outcome-item.result in
    let named = c.number_one.new.outcome in
    let lt : place < length c.args.outcomes.now = omega (arith, c.loop-outcome.invariant.as_many) in
    record {
      as_many = length-set now place named ∙ c.loop-outcome.invariant.as_many;
      named =
          mapped_more (outcome_numbered c.args.first c.args.given.now) c.args.outcomes.now now place item named c.outcome-item.result c.loop-outcome.invariant.named lt refl c.number_one.ensures;
    }

pub returns : goal.returns
returns c =
    let le : length c.args.outcomes.now ≤ c.loop-outcome.outcome-index = omega (arith, c.loop-outcome.invariant.as_many) in
    c.loop-outcome.invariant.named ∙ mapped_all (outcome_numbered c.args.first c.args.given.now) c.args.outcomes.now c.loop-outcome.outcome-index le
