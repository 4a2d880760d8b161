use Rattle.std.proofs.Common.{ap, subst, ◌∙◌}
use Rattle.hd_open.specs.Live.{nodes_before, IsBestArrival}
use Rattle.hd_open.proofs.Places.{best_of_view}
use Rattle.hd_open.proofs.open.OpenList.best.Goals as goal

pub returns-clause-best : goal.returns-clause-best
returns-clause-best g c =
    best_of_view g.T.Waits.total c.self.inside.slots.items c.args.self.now.nodes c.in_ok-arrival.arrival c.place_of-place.result (ap (λ o. o.nodes) c.self.view_is)
    (subst (λ xs. IsBestArrival g.T.Waits.total xs c.in_ok-arrival.arrival) c.as_slice.ensures.value c.in_ok-arrival.ensures.best)
    (c.place_of-place.ensures ∙ ap (λ xs. nodes_before xs c.in_ok-arrival.arrival) c.as_slice-2.ensures.value)
