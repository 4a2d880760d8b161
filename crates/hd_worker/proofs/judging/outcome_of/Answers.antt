use Rattle.std.proofs.Common.{refl, sym, ap, ◌∙◌}
use Rattle.std.proofs.lemmas.Option.{slice_get_within}
use Rattle.hd_task.specs.declared.plan.Kid.{Kid}
use Rattle.hd_node.specs.declared.batch.Outcome.TheVariants.{Expanded, Duplicate, Bounded}
use Rattle.hd_entries.specs.Holding.{Released}
use Rattle.hd_closed.specs.Closed.{state_at}
use Rattle.hd_worker.specs.Nodes.{released_of}
use Rattle.hd_worker.proofs.Settled.{again, beyond, anew}
use Rattle.hd_worker.proofs.judging.outcome_of.Goals as goal

pub returns-in-Some-clause-outcome : goal.returns-in-Some-clause-outcome
returns-in-Some-clause-outcome c =
    let n = c.args.node.now in
    let v = c.args.known.now in
    again c.args.task.now v.closed c.args.seen (released_of v.states n) v.states n.state c.requires.is_node.there (Duplicate c.kid.result c.in-Some.by) c.in-Some.by
    c.in-Some.ensures.named
    (ap (λ (k : Kid). Duplicate k c.in-Some.by) c.kid.ensures)

pub estimate-value-requires-clause-place : goal.estimate-value-requires-clause-place
estimate-value-requires-clause-place c =
    let n = c.args.node.now in
    let v = c.args.known.now in
    slice_get_within v.states n.state (state_at v.states n.state) c.requires.is_node.there

pub returns-then-is_reached-clause-outcome : goal.returns-then-is_reached-clause-outcome
returns-then-is_reached-clause-outcome c =
    let n = c.args.node.now in
    let v = c.args.known.now in
    let e = c.of-estimate.result in
    let r = released_of v.states n in
    let is = c.in_ok-parcel.ensures.released in
    beyond c.args.task.now v.closed c.args.seen r v.states n.state c.requires.is_node.there (Bounded c.into_parts-state.result.0 e) e c.total.result
    c.in_default.ensures.none
    (c.total.ensures ∙ c.requires.is_node.total_is)
    c.is_reached.ensures.small
    (sym c.is_reached.ensures.reached ∙ c.if-is_reached.true)
    (ap (λ (k : Kid). Bounded k e) (c.into_parts-state.ensures.kid ∙ ap (λ (x : Released). x.kid) is))
    c.of-estimate.ensures.task
    (c.of-estimate.ensures.state ∙ (c.into_state.ensures ∙ (c.into_parts-state.ensures.state ∙ ap (λ (x : Released). x.state) is)))

pub returns-in-Ok-clause-outcome : goal.returns-in-Ok-clause-outcome
returns-in-Ok-clause-outcome c =
    let n = c.args.node.now in
    let v = c.args.known.now in
    let e = c.in-Ok.expansion in
    let r = released_of v.states n in
    let is = c.in_ok-parcel.ensures.released in
    anew c.args.task.now v.closed c.args.seen r v.states n.state c.requires.is_node.there (Expanded e) e c.total.result
    c.in_default.ensures.none
    (c.total.ensures ∙ c.requires.is_node.total_is)
    c.is_reached.ensures.small
    (sym c.is_reached.ensures.reached ∙ c.if-is_reached.false)
    refl
    c.in-Ok.ensures.task
    (c.in-Ok.ensures.kid ∙ ap (λ (x : Released). x.kid) is)
    (c.in-Ok.ensures.state ∙ ap (λ (x : Released). x.state) is)
    (c.in-Ok.ensures.cost ∙ ap (λ (x : Released). x.cost) is)
