use Rattle.std.proofs.Common.{◌≡◌, List, None, ◌<◌, slice_get, get_or, IfSome, length, sym, ap, subst, ◌∙◌}
use Rattle.std.specs.List.{AllByRecursion}
use Rattle.std.proofs.lemmas.Option.{slice_get-get_or}
use Rattle.hd_task.specs.declared.state.State.{State}
use Rattle.hd_task.specs.declared.task.Task.{Task}
use Rattle.hd_task.specs.Plans.{IsStateOf}
use Rattle.hd_hmax.specs.Rounds.{hmax}
use Rattle.hd_hmax.specs.Value.{estimated}
use Rattle.hd_hmax.specs.Lanes.{IsValueOf}
use Rattle.hd_closed.specs.Closed.{ClosedView}
use Rattle.hd_closed.specs.Picked.{states_at}
use Rattle.hd_closed.proofs.Picking.{value_at_lane, all_picked}
use Rattle.hd_closed.proofs.closed.ClosedList.estimate_group.Goals as goal

pub estimates-values-requires-clause-of_task : goal.estimates-values-requires-clause-of_task
estimates-values-requires-clause-of_task c =
    let i = c.self.inside in
    let places = c.args.places.now in
    let within = subst (λ (x : ClosedView). AllByRecursion (λ k. k < length x.states) places) (sym c.self.view_is) c.requires.within in
    let task = ap (λ (x : ClosedView). x.task) c.self.view_is ∙ sym c.requires.of_task in
    subst (λ (xs : List State). AllByRecursion (IsStateOf c.args.estimates.now.task) xs) (sym c.of.ensures)
    (subst (λ (t : Task). AllByRecursion (IsStateOf t) (states_at i.rows.states places)) task
    (all_picked i.task.now i.rows.states places c.self.invariant.0.of_task within))

pub note_estimate-requires-clause-value : goal.note_estimate-requires-clause-value
note_estimate-requires-clause-value c =
    let v = c.args.self.now in
    let places = c.args.places.now in
    let lane = c.loop-lane.lane in
    let place = get_or places lane 0 in
    let told = get_or c.estimates-values.result lane None in
    let states = c.of.ensures ∙ ap (λ (x : ClosedView). states_at x.states places) c.self.view_is in
    subst (λ (x : ClosedView). IfSome (slice_get x.states place) (λ s. estimated c.in-Some.value ≡ hmax x.task s)) (sym c.loop-lane.invariant.self)
    (value_at_lane v.task v.states places lane place told c.in-Some.value c.requires.within (slice_get-get_or places lane 0 c.loop-lane-test.true)
    (λ s at.
    subst (λ (t : Task). IsValueOf t s told) c.requires.of_task
    (c.estimates-values.ensures.values lane s (ap (λ (xs : List State). slice_get xs lane) states ∙ at)))
    c.in-Some.is)
