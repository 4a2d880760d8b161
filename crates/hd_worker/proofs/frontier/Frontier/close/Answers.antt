use Rattle.std.proofs.Common.{◌++◌, ◌∷◌, [], List, refl, ap, ap₂, ◌∙◌}
use Rattle.hd_task.specs.declared.state.State.{State}
use Rattle.hd_node.specs.declared.batch.By.TheVariants.{Entry}
use Rattle.hd_entries.specs.Holding.{Released}
use Rattle.hd_closed.specs.Closed.{Closed}
use Rattle.hd_base.specs.Lists.{BeginsWith}
use Rattle.hd_worker.specs.Frontier.{FrontierView, closed_too}
use Rattle.hd_worker.proofs.Settled.{nodes_stay, waiting_stays, state_found}
use Rattle.hd_worker.proofs.frontier.Frontier.close.Goals as goal

pub invariant_of-self-2 : goal.invariant_of-self-2
invariant_of-self-2 c =
    let i = c.self.inside in
    let states = c.close.new.self.states in
    let more = c.place_of.ensures.begins in
    let begins : BeginsWith states i.known.states = (more.0, c.close.ensures.states ∙ (more.1 ∙ ap (λ (ss : List State). ss ++ more.0) c.reserve.ensures.states)) in
    record {
      of_task = c.close.ensures.task ∙ (c.place_of.ensures.task ∙ (c.reserve.ensures.task ∙ c.self.invariant.of_task));
      nodes_of = nodes_stay i.task.now i.known.states states i.nodes.nodes begins c.self.invariant.nodes_of;
      parcels_of = c.self.invariant.parcels_of;
      room_for = c.self.invariant.room_for;
    }

pub returns-clause-ok : goal.returns-clause-ok
returns-clause-ok c =
    let i = c.self.inside in
    let s = c.args.state.now in
    let states = c.close.new.self.states in
    let more = c.place_of.ensures.begins in
    let begins : BeginsWith states i.known.states = (more.0, c.close.ensures.states ∙ (more.1 ∙ ap (λ (ss : List State). ss ++ more.0) c.reserve.ensures.states)) in
    let found = state_found c.place_of.new.self.states c.in_ok-place.place c.in_ok-place.place s c.in_ok-place.ensures.place refl in
    let shut = c.close.ensures.closed
    ∙ ap₂ (λ (cs : List Closed) (u : State). let x : Closed = record { by = Entry c.args.entry; state = u; cost = c.args.cost } in cs ++ x ∷ []) (c.place_of.ensures.closed ∙ c.reserve.ensures.closed) found in
    ap₂ (λ (w : List Released) (cs : List Closed). let x : FrontierView = record { task = i.task.now; waiting = w; closed = cs; room = i.room } in x)
    (waiting_stays i.task.now i.known.states states i.nodes.nodes i.fresh.items begins c.self.invariant.nodes_of) shut
    ∙ ap (closed_too c.args.entry s c.args.cost) c.self.view_is
