use Rattle.std.proofs.Common.{rules, subst}
use Rattle.std.specs.Prelude.{IfNone}
use Rattle.hd_judge.specs.Tables.{reached_in}
use Rattle.hd_judge.specs.Way.{IsOnWay}
use Rattle.hd_plan.specs.Plans.{PassesBy}
use Rattle.hd_explain.proofs.Named.{halts_next}
use Rattle.hd_explain.proofs.plan.explain_all.Goals as goal

pub loop-rest-preserved : goal.loop-rest-preserved
loop-rest-preserved c =
    let t = c.args.lookups.now in
    let r = reached_in c.loop-rest.place in
    let to = reached_in c.explain_next.new.place in
    let n = c.loop-rest.number in
    let s = c.first-item.result in record {
      numbered = search rules;
      way = subst (λ o. IfNone o (IsOnWay t to)) c.in_default-2.is c.in_ok-halt.ensures.way;
      halts = halts_next t r to (reached_in c.args.place.now) n c.loop-rest.rest.now c.args.steps.now s _ c.in-len1-up.len_at_least c.first-item.is
          (subst (λ o. IfNone o (PassesBy t r n s to)) c.in_default-2.is c.in_ok-halt.ensures.passes) c.loop-rest.invariant.halts;
    }
