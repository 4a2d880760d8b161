use Rattle.std.proofs.Common.{length, IfSome, IfNone, slice_get, sym, ap, subst, ◌∙◌}
use Rattle.hd_closed.specs.Closed.{ClosedView, IsNamedBy, IsDearer}
use Rattle.hd_closed.specs.Shut.{no_dearer}
use Rattle.hd_closed.proofs.Keeping.{note_there, told_by, told_of_none}
use Rattle.hd_closed.proofs.closed.ClosedList.dominating.Goals as goal

pub returns-clause-named : goal.returns-clause-named
returns-clause-named c =
    let i = c.self.inside in
    let n = c.index.result.now in
    let place = c.args.place in
    let cost = c.args.cost in
    let v = c.args.self.now in
    let k = c.self.invariant.0 in
    let many = k.as_many in
    let at = note_there i.notes.items (length v.states) place n (many ∙ ap (λ (x : ClosedView). length x.states) c.self.view_is) c.requires c.index.ensures in
    subst (λ o. IfSome o (λ by. IfSome (slice_get v.states place) (λ s. IsNamedBy v.closed s cost by)))
    (sym (c.no_dearer.ensures ∙ (ap (λ o. no_dearer c.as_slice.result.now o cost) c.get.ensures ∙ ap (λ xs. no_dearer xs n.least cost) c.as_slice.ensures.value)))
    (subst (λ (x : ClosedView). IfSome (no_dearer i.shuts.items n.least cost) (λ by. IfSome (slice_get x.states place) (λ s. IsNamedBy x.closed s cost by))) c.self.view_is
    (told_by i.task.now i.rows.states i.notes.items i.heads.items i.shuts.items i.entered c.self.invariant.0 place n cost at))

pub returns-clause-none : goal.returns-clause-none
returns-clause-none c =
    let i = c.self.inside in
    let n = c.index.result.now in
    let place = c.args.place in
    let cost = c.args.cost in
    let v = c.args.self.now in
    let k = c.self.invariant.0 in
    let many = k.as_many in
    let at = note_there i.notes.items (length v.states) place n (many ∙ ap (λ (x : ClosedView). length x.states) c.self.view_is) c.requires c.index.ensures in
    subst (λ o. IfNone o (IfSome (slice_get v.states place) (λ s. IsDearer v.closed s cost)))
    (sym (c.no_dearer.ensures ∙ (ap (λ o. no_dearer c.as_slice.result.now o cost) c.get.ensures ∙ ap (λ xs. no_dearer xs n.least cost) c.as_slice.ensures.value)))
    (subst (λ (x : ClosedView). IfNone (no_dearer i.shuts.items n.least cost) (IfSome (slice_get x.states place) (λ s. IsDearer x.closed s cost))) c.self.view_is
    (told_of_none i.task.now i.rows.states i.notes.items i.heads.items i.shuts.items i.entered c.self.invariant.0 place n cost at))
