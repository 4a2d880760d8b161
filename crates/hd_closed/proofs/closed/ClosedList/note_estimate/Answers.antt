use Rattle.std.proofs.Common.{◌≡◌, Option, IfSome, length, slice_get, refl, sym, ap, subst, ◌∙◌}
use Rattle.hd_task.specs.declared.state.State.{State}
use Rattle.hd_hmax.specs.Rounds.{hmax}
use Rattle.hd_hmax.specs.Value.{estimated}
use Rattle.hd_closed.specs.Closed.{ClosedView}
use Rattle.hd_closed.proofs.Keeping.{note_there, state_there, kept_valued}
use Rattle.hd_closed.proofs.closed.ClosedList.note_estimate.Goals as goal

pub invariant_of-self : goal.invariant_of-self
invariant_of-self c =
    let i = c.self.inside in
    let n = c.index_mut.result.now in
    let place = c.args.place in
    let value = c.args.value in
    let k = c.self.invariant.0 in
    let many = k.as_many ∙ ap (λ (x : ClosedView). length x.states) c.self.view_is in
    let at = note_there i.notes.items (length c.args.self.now.states) place n many c.requires.place c.index_mut.ensures.value in
    let its = state_there i.task.now i.rows.states i.notes.items i.heads.items i.shuts.items i.entered k place n at in
    let told : IfSome (slice_get i.rows.states place) (λ s. estimated value ≡ hmax i.task.now s) =
    subst (λ (x : ClosedView). IfSome (slice_get x.states place) (λ s. estimated value ≡ hmax x.task s)) (sym c.self.view_is) c.requires.value in
    let is : estimated value ≡ hmax i.task.now its.0 = subst (λ (o : Option State). IfSome o (λ s. estimated value ≡ hmax i.task.now s)) its.1 told in (
      kept_valued i.task.now i.rows.states i.notes.items i.heads.items i.shuts.items i.entered k place its.0 n (record n { value = c.of.result }) value its.1 at refl refl refl c.of.ensures is,
      c.self.invariant.1,
      c.self.invariant.2,
      c.self.invariant.3,
      c.self.invariant.4,
    )
