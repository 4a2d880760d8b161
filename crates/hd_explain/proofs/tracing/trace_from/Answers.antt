use Rattle.std.proofs.Common.{string_bytes, subst}
use Rattle.std.specs.Prelude.{IfNone}
use Rattle.hd_judge.specs.Tables.{reached_in}
use Rattle.hd_explain.specs.Traces.{FailsAtStep}
use Rattle.hd_explain.proofs.Traced.{trace_ended, trace_stopped}
use Rattle.hd_explain.proofs.tracing.trace_from.Goals as goal

pub returns-in_default-2 : goal.returns-in_default-2
returns-in_default-2 c =
    let t = c.args.lookups.now in
    let r = reached_in c.loop-rest.place in
    let n = c.loop-rest.number in
    let s = c.first-item.result in
    trace_stopped t r (reached_in c.args.place.now) n c.loop-rest.rest.now c.args.steps.now s _ (string_bytes c.loop-rest.text) c.in-len1-up.len_at_least
    c.first-item.is c.loop-rest.invariant.traces (subst (λ o. IfNone o (FailsAtStep t r n s)) c.in_default-2.is c.in_ok-lines.ensures.fails)

pub returns : goal.returns
returns c =
    trace_ended c.args.lookups.now (reached_in c.loop-rest.place) (reached_in c.args.place.now) c.loop-rest.number c.loop-rest.rest.now c.args.steps.now
    (string_bytes c.loop-rest.text) c.in_default.len_below c.loop-rest.invariant.traces
