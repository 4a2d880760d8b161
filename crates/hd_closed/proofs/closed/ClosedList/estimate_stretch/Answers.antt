use Rattle.std.proofs.Common.{◌≡◌, ◌-◌, List, None, slice_get, get_or, IfSome, sym, ap, subst, ◌∙◌}
use Rattle.std.specs.Prelude.{slice_range}
use Rattle.hd_task.specs.declared.state.State.{State}
use Rattle.hd_task.specs.declared.task.Task.{Task}
use Rattle.hd_hmax.specs.Rounds.{hmax}
use Rattle.hd_hmax.specs.Value.{estimated}
use Rattle.hd_hmax.specs.Lanes.{IsValueOf}
use Rattle.hd_closed.specs.Closed.{ClosedView}
use Rattle.hd_closed.proofs.Stretches.{value_at_place}
use Rattle.hd_closed.proofs.closed.ClosedList.estimate_stretch.Goals as goal

pub note_estimate-requires-clause-value : goal.note_estimate-requires-clause-value
note_estimate-requires-clause-value c =
    let v = c.args.self.now in
    let first = c.args.first in
    let end = c.args.end in
    let place = c.loop-place.place in
    let lane = place - first in
    let told = get_or c.estimates-values.result lane None in
    let states = c.of.ensures ∙ ap (λ (x : ClosedView). slice_range x.states first end) c.self.view_is in
    subst (λ (x : ClosedView). IfSome (slice_get x.states place) (λ s. estimated c.in-Some.value ≡ hmax x.task s)) (sym c.loop-place.invariant.self)
    (value_at_place v.task v.states first end place told c.in-Some.value c.loop-place.auto.place c.loop-place-test.true c.requires.within
    (λ s at.
    subst (λ (t : Task). IsValueOf t s told) c.requires.of_task
    (c.estimates-values.ensures.values lane s (ap (λ (xs : List State). slice_get xs lane) states ∙ at)))
    c.in-Some.is)
