use Rattle.std.proofs.Common.{◌≡◌, IfSome, length, slice_get, sym, ap, subst, ◌∙◌}
use Rattle.hd_task.specs.declared.task.Task.{Task}
use Rattle.hd_task.specs.Plans.{IsStateOf}
use Rattle.hd_hmax.specs.Rounds.{hmax}
use Rattle.hd_hmax.specs.Value.{estimated}
use Rattle.hd_closed.specs.Closed.{ClosedView}
use Rattle.hd_closed.proofs.Keeping.{note_there, value_known, state_of_task}
use Rattle.hd_closed.proofs.closed.ClosedList.estimate.Goals as goal

pub returns-in-Some-clause-value : goal.returns-in-Some-clause-value
returns-in-Some-clause-value c =
    let i = c.self.inside in
    let n = c.index.result.now in
    let place = c.args.place in
    let k = c.self.invariant.0 in
    let many = k.as_many ∙ ap (λ (x : ClosedView). length x.states) c.self.view_is in
    let at = note_there i.notes.items (length c.args.self.now.states) place n many c.requires.place c.index.ensures in
    subst (λ (x : ClosedView). IfSome (slice_get x.states place) (λ s. estimated c.in-Some.value ≡ hmax x.task s)) c.self.view_is
    (value_known i.task.now i.rows.states i.notes.items i.heads.items i.shuts.items i.entered k place n c.in-Some.value at (sym c.get-known.ensures ∙ c.in-Some.is))

pub value-value-requires : goal.value-value-requires
value-value-requires c =
    let i = c.self.inside in
    let task = c.requires.of_task ∙ sym (ap (λ (x : ClosedView). x.task) c.self.view_is) in
    record {
      of_task = subst (λ (t : Task). IsStateOf t c.at.result) (sym task)
          (state_of_task i.task.now i.rows.states i.notes.items i.heads.items i.shuts.items i.entered c.self.invariant.0 c.args.place c.at.result c.at.ensures);
    }
