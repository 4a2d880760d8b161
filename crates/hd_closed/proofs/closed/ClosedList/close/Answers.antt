use Rattle.std.proofs.Common.{◌≡◌, Some, List, ◌∷◌, [], ◌++◌, map, length, slice_set, refl, sym, ap, ap₂, subst, ◌∙◌, arith}
use Rattle.std.proofs.lemmas.Option.{same_Some}
use Rattle.std.proofs.lemmas.List.{map-append}
use Rattle.hd_closed.specs.declared.notes.Note.{Note}
use Rattle.hd_closed.specs.declared.closed.Shut.{Shut}
use Rattle.hd_closed.specs.Closed.{ClosedView, closed_at}
use Rattle.hd_closed.specs.Shut.{closed_of, is_cheaper, IsClosedListKept}
use Rattle.hd_closed.proofs.Keeping.{note_there, closed_cheaper, closed_dearer}
use Rattle.hd_closed.proofs.closed.ClosedList.close.Goals as goal

pub invariant_of-self : goal.invariant_of-self
invariant_of-self c =
    let i = c.self.inside in
    let n = c.index_mut.result.now in
    let read = c.index.result.now in
    let place = c.args.place in
    let k = c.self.invariant.0 in
    let many = k.as_many ∙ ap (λ (x : ClosedView). length x.states) c.self.view_is in
    let at = note_there i.notes.items (length c.args.self.now.states) place n many c.requires.place c.index_mut.ensures.value in
    let at_read = note_there i.notes.items (length c.args.self.now.states) place read many c.requires.place c.index.ensures in
    let same : read ≡ n = same_Some read n (sym at_read ∙ at) in
    let x : Shut = record { by = c.args.by; state = place; cost = c.args.cost } in
    let n' : Note = record n { least = c.of.result } in
    let added : c.len-added.result ≡ length i.shuts.items = omega arith in
    let test =
    ap₂ (λ (xs : List Shut) (m : Note). is_cheaper xs m.least c.args.cost) (sym c.as_slice.ensures.value) (sym same) ∙ (ap (λ o. is_cheaper c.as_slice.result.now o c.args.cost) (sym c.get-least.ensures) ∙ (sym c.is_cheaper-cheaper.ensures ∙ c.if-cheaper.true))
    in (
      subst (λ (xs : List Shut). IsClosedListKept i.task.now i.rows.states (slice_set i.notes.items place n') i.heads.items xs i.entered) (sym c.push_shut.ensures)
          (closed_cheaper i.task.now i.rows.states i.notes.items i.heads.items i.shuts.items i.entered c.self.invariant.0 place x n n' refl at refl refl refl (c.of.ensures ∙ ap Some added) test),
      c.self.invariant.1,
      c.self.invariant.2,
      λ e. absurd (cc),
      λ e. absurd (cc),
    )

pub invariant_of-self-else-cheaper : goal.invariant_of-self-else-cheaper
invariant_of-self-else-cheaper c =
    let i = c.self.inside in
    let read = c.index.result.now in
    let place = c.args.place in
    let k = c.self.invariant.0 in
    let many = k.as_many ∙ ap (λ (x : ClosedView). length x.states) c.self.view_is in
    let at_read = note_there i.notes.items (length c.args.self.now.states) place read many c.requires.place c.index.ensures in
    let x : Shut = record { by = c.args.by; state = place; cost = c.args.cost } in
    let test =
    ap (λ (xs : List Shut). is_cheaper xs read.least c.args.cost) (sym c.as_slice.ensures.value) ∙ (ap (λ o. is_cheaper c.as_slice.result.now o c.args.cost) (sym c.get-least.ensures) ∙ (sym c.is_cheaper-cheaper.ensures ∙ c.if-cheaper.false))
    in (
      subst (λ (xs : List Shut). IsClosedListKept i.task.now i.rows.states i.notes.items i.heads.items xs i.entered) (sym c.push_shut.ensures)
          (closed_dearer i.task.now i.rows.states i.notes.items i.heads.items i.shuts.items i.entered c.self.invariant.0 place x read refl at_read test),
      c.self.invariant.1,
      c.self.invariant.2,
      λ e. absurd (cc),
      λ e. absurd (cc),
    )

pub returns-then-cheaper-clause-closed : goal.returns-then-cheaper-clause-closed
returns-then-cheaper-clause-closed c =
    let i = c.self.inside in
    let x : Shut = record { by = c.args.by; state = c.args.place; cost = c.args.cost } in
    ap (map (closed_of i.rows.states)) c.push_shut.ensures
    ∙ (map-append (closed_of i.rows.states) i.shuts.items (x ∷ [])
    ∙ ap (λ (v : ClosedView). v.closed ++ closed_at v.states c.args.place c.args.by c.args.cost ∷ []) c.self.view_is)
