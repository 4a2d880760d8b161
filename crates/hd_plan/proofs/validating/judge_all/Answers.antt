use Rattle.hd_judge.specs.Tables.{reached_in}
use Rattle.hd_plan.proofs.Stepping.{tells_first}
use Rattle.hd_plan.proofs.validating.judge_all.Goals as goal

pub returns-in-Err-clause-tells : goal.returns-in-Err-clause-tells
returns-in-Err-clause-tells c =
    tells_first c.args.lookups.now (reached_in c.loop-rest.place) (reached_in c.args.place.now) c.loop-rest.number c.loop-rest.rest.now c.args.steps.now
    c.first-item.result _ c.in-Err.stop c.in-len1-up.len_at_least c.first-item.is c.loop-rest.invariant.tells c.in-Err.ensures.tells
