use Rattle.std.proofs.Common.{◌∙◌, ◌++◌, ℕ, List, [], ◌∷◌, Some, map, ap, ap₂}
use Rattle.std.proofs.lemmas.List.{map-append}
use Rattle.std.proofs.lemmas.Option.{get_or_from_slice_get}
use Rattle.hd_task.specs.declared.state.State.{State}
use Rattle.hd_task.specs.Plans.{node}
use Rattle.hd_node.specs.declared.batch.By.TheVariants.{Entry}
use Rattle.hd_closed.specs.Closed.{Closed, closed_at, nothing}
use Rattle.hd_certify.specs.Covering.{node_in}
use Rattle.hd_certify.proofs.gathering.close_entry.Goals as goal

pub returns-clause-closed : goal.returns-clause-closed
returns-clause-closed c =
    let states = c.place_of.new.self.states in
    let before = c.place_of.new.self.closed in
    let here = get_or_from_slice_get states c.in_ok-place.place c.hashed.result.now nothing c.in_ok-place.ensures.place ∙ c.hashed.ensures in
    ap (map node_in) c.close.ensures.closed
    ∙ (map-append node_in before (closed_at states c.in_ok-place.place (Entry c.args.number) c.cost.result ∷ [])
    ∙ (ap (λ (cs : List Closed). map node_in cs ++ node_in (closed_at states c.in_ok-place.place (Entry c.args.number) c.cost.result) ∷ []) (c.place_of.ensures.closed ∙ c.reserve.ensures.closed)
    ∙ ap₂ (λ (s : State) (n : ℕ). map node_in c.args.closed.now.closed ++ Some (node s n) ∷ []) here c.cost.ensures))
