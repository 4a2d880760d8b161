use Rattle.std.proofs.Common.{◌≡◌, Some, sym, ap, subst, ◌∙◌}
use Rattle.std.proofs.lemmas.Option.{get_or_from_slice_get}
use Rattle.hd_open.specs.Live.{HoldsNode, nodes_before}
use Rattle.hd_open.proofs.Places.{get_of_view}
use Rattle.hd_open.proofs.open.OpenList.get.Goals as goal

pub returns : goal.returns
returns g c =
    let slots = c.self.inside.slots.items in
    let i = c.arrival_by-arrival.result in
    let filled = subst (λ xs. HoldsNode xs i) c.as_slice.ensures.value c.arrival_by-arrival.ensures.filled in
    let stands = subst (λ xs. nodes_before xs i ≡ c.args.place) c.as_slice.ensures.value c.arrival_by-arrival.ensures.place in
    c.as_ref.ensures.value
    ∙ (c.index.ensures
    ∙ (get_or_from_slice_get slots i (Some filled.0) c.index.result.now filled.1
    ∙ sym (get_of_view slots c.args.self.now.nodes i c.args.place filled.0 (ap (λ o. o.nodes) c.self.view_is) filled.1 stands)))
