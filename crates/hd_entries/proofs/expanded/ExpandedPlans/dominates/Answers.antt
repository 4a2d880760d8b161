use Rattle.std.proofs.Common.{◌∙◌, sym, ap, ap₂, refl, length, Some}
use Rattle.std.proofs.lemmas.Bool.{ltb-true, ltb-false}
use Rattle.std.proofs.lemmas.Option.{slice_get_past, slice_get_read}
use Rattle.hd_task.specs.Plans.{node}
use Rattle.hd_entries.specs.Settling.{node_by, dominates, expanded_node}
use Rattle.hd_entries.specs.Holding.{unmarked}
use Rattle.hd_entries.proofs.Held.{entry_found, entry_missing}
use Rattle.hd_entries.proofs.expanded.ExpandedPlans.dominates.Goals as goal

pub returns-in-Some : goal.returns-in-Some
returns-in-Some c =
    let n = c.in-Entry.number in
    let e = c.in-Some.entry in
    let to = Some (node c.args.reached.now.state c.args.reached.now.cost) in
    c.is_no_dearer.ensures
    ∙ ap (λ o. dominates o to)
    (sym (ap (node_by (unmarked c.args.self.now) c.args.earlier.now) c.in-Entry.is
    ∙ entry_found c.args.self.now c.requires.held n e (sym c.in-Some.ensures)))

pub returns-in-None : goal.returns-in-None
returns-in-None c =
    let n = c.in-Entry.number in
    ap (λ o. dominates o (Some (node c.args.reached.now.state c.args.reached.now.cost)))
    (sym (ap (node_by (unmarked c.args.self.now) c.args.earlier.now) c.in-Entry.is ∙ entry_missing c.args.self.now c.requires.held n (sym c.in-None.ensures)))

pub returns-in-Some-Expanded : goal.returns-in-Some-Expanded
returns-in-Some-Expanded c =
    let n = c.in-Here.place in
    let o = c.in-Some-Expanded.field-0.now in
    let found = c.in-Some-Expanded.ensures.lookup.1 in
    c.is_no_dearer-in-Some-Expanded.ensures
    ∙ ap₂ (λ s k. dominates (Some (node s k)) (Some (node c.args.reached.now.state c.args.reached.now.cost))) c.state.ensures c.cost.ensures
    ∙ ap (λ o. dominates o (Some (node c.args.reached.now.state c.args.reached.now.cost)))
    (sym (ap (node_by (unmarked c.args.self.now) c.args.earlier.now) c.in-Here.is
    ∙ (ap expanded_node (slice_get_read c.args.earlier.now _ n o refl (ltb-true n (length c.args.earlier.now) (sym c.in-Some-Expanded.ensures.lookup.0)) found)
    ∙ ap (λ x. expanded_node (Some x)) c.in-Some-Expanded.field-0-is)))

pub returns-in-Some-Duplicate : goal.returns-in-Some-Duplicate
returns-in-Some-Duplicate c =
    let n = c.in-Here.place in
    let found = c.in-Some-Duplicate.ensures.lookup.1 in
    ap (λ o. dominates o (Some (node c.args.reached.now.state c.args.reached.now.cost)))
    (sym (ap (node_by (unmarked c.args.self.now) c.args.earlier.now) c.in-Here.is
    ∙ (ap expanded_node (slice_get_read c.args.earlier.now _ n c.in-Some-Duplicate.field-0.now refl (ltb-true n (length c.args.earlier.now) (sym c.in-Some-Duplicate.ensures.lookup.0)) found)
    ∙ ap (λ x. expanded_node (Some x)) c.in-Some-Duplicate.field-0-is)))

pub returns-in-Some-Bounded : goal.returns-in-Some-Bounded
returns-in-Some-Bounded c =
    let n = c.in-Here.place in
    let found = c.in-Some-Bounded.ensures.lookup.1 in
    ap (λ o. dominates o (Some (node c.args.reached.now.state c.args.reached.now.cost)))
    (sym (ap (node_by (unmarked c.args.self.now) c.args.earlier.now) c.in-Here.is
    ∙ (ap expanded_node (slice_get_read c.args.earlier.now _ n c.in-Some-Bounded.field-0.now refl (ltb-true n (length c.args.earlier.now) (sym c.in-Some-Bounded.ensures.lookup.0)) found)
    ∙ ap (λ x. expanded_node (Some x)) c.in-Some-Bounded.field-0-is)))

pub returns-in-None-get : goal.returns-in-None-get
returns-in-None-get c =
    let n = c.in-Here.place in
    ap (λ o. dominates o (Some (node c.args.reached.now.state c.args.reached.now.cost)))
    (sym (ap (node_by (unmarked c.args.self.now) c.args.earlier.now) c.in-Here.is
    ∙ ap expanded_node (slice_get_past c.args.earlier.now n (ltb-false n (length c.args.earlier.now) (sym c.in-None-get.ensures.lookup.0)))))
