use Rattle.std.proofs.Common.{◌++◌, List, ◌∙◌, ap, ap₂, subst}
use Rattle.std.specs.List.{AllByRecursion, remove}
use Rattle.hd_task.specs.declared.state.State.{State}
use Rattle.hd_task.specs.declared.task.Task.{Task}
use Rattle.hd_hmax.specs.Rounds.{hmax}
use Rattle.hd_entries.specs.Holding.{IsParcelOf}
use Rattle.hd_closed.specs.Closed.{Closed, ClosedView}
use Rattle.hd_turns.specs.Settling.{IsOutcomeOf, closed_by}
use Rattle.hd_worker.specs.declared.node.WaitingNode.{WaitingNode}
use Rattle.hd_worker.specs.Nodes.{released_of, waiting_by, IsNodeOf}
use Rattle.hd_worker.specs.Frontier.{FrontierView}
use Rattle.hd_worker.proofs.Settled.{nodes_remove, pick_there, pick_gone, best_there}
use Rattle.hd_worker.proofs.Taken.{always_err, all_waiting, nodes_again, nodes_back, same_frontier, settled_frontier, outcome_again}
use Rattle.hd_worker.proofs.frontier.Frontier.settle_best.Goals as goal

pub invariant_of-self-in_err-outcome : goal.invariant_of-self-in_err-outcome
invariant_of-self-in_err-outcome c =
    let i = c.self.inside in
    let nodes = c.open_all.new.nodes.nodes in
    let taken = c.in-Some.ensures.taken.taken in
    let after = c.settle_taken.new in
    record {
      of_task = c.settle_taken.ensures.task ∙ (c.reserve.ensures.task ∙ (c.open_all.ensures.task ∙ c.self.invariant.of_task));
      nodes_of =
          nodes_again i.known.task i.task.now c.open_all.new.known.states after.known.states nodes after.nodes.nodes c.self.invariant.of_task (c.settle_taken.ensures.states ∙ c.reserve.ensures.states)
          (nodes_back nodes c.take_best.new.self.nodes after.nodes.nodes c.in-Some.ensures.taken.place c.in-Some.node c.in-Some.node.total c.take_best.new.self.gap taken.node_is taken.rest taken.gap c.in_err-outcome.ensures.back)
          c.open_all.ensures.nodes;
      parcels_of = subst (λ (t : Task). AllByRecursion (IsParcelOf t) c.open_all.new.fresh.items) c.self.invariant.of_task c.open_all.ensures.parcels;
      room_for = c.open_all.ensures.room;
    }

pub returns-in_err-outcome-clause-err : goal.returns-in_err-outcome-clause-err
returns-in_err-outcome-clause-err c =
    let i = c.self.inside in
    let nodes = c.open_all.new.nodes.nodes in
    let fresh = c.open_all.new.fresh.items in
    let taken = c.in-Some.ensures.taken.taken in
    let after = c.settle_taken.new in
    always_err c.from_residual-in_err-outcome.result _
    (same_frontier c.args.self.now i.task.now (waiting_by i.known.states i.nodes.nodes i.fresh.items) (waiting_by after.known.states after.nodes.nodes fresh) i.known.closed after.known.closed i.room c.self.view_is
    (ap₂ (λ (ss : List State) (ns : List WaitingNode). waiting_by ss ns fresh) (c.settle_taken.ensures.states ∙ c.reserve.ensures.states)
    (nodes_back nodes c.take_best.new.self.nodes after.nodes.nodes c.in-Some.ensures.taken.place c.in-Some.node c.in-Some.node.total c.take_best.new.self.gap taken.node_is taken.rest taken.gap c.in_err-outcome.ensures.back)
    ∙ c.open_all.ensures.waiting)
    (ap (λ (x : ClosedView). x.closed) c.in_err-outcome.ensures.err ∙ (c.reserve.ensures.closed ∙ c.open_all.ensures.closed)))

pub invariant_of-self-2 : goal.invariant_of-self-2
invariant_of-self-2 c =
    let i = c.self.inside in
    let nodes = c.open_all.new.nodes.nodes in
    let taken = c.in-Some.ensures.taken.taken in
    let after = c.settle_taken.new in
    record {
      of_task = c.settle_taken.ensures.task ∙ (c.reserve.ensures.task ∙ (c.open_all.ensures.task ∙ c.self.invariant.of_task));
      nodes_of =
          nodes_again i.known.task i.task.now c.open_all.new.known.states after.known.states (remove nodes c.in-Some.ensures.taken.place) after.nodes.nodes c.self.invariant.of_task (c.settle_taken.ensures.states ∙ c.reserve.ensures.states)
          (c.in_ok-outcome.ensures.nodes ∙ taken.rest) (nodes_remove i.known.task c.open_all.new.known.states nodes c.in-Some.ensures.taken.place c.open_all.ensures.nodes);
      parcels_of = subst (λ (t : Task). AllByRecursion (IsParcelOf t) c.open_all.new.fresh.items) c.self.invariant.of_task c.open_all.ensures.parcels;
      room_for = c.open_all.ensures.room;
    }

pub returns-clause-settles : goal.returns-clause-settles
returns-clause-settles c =
    let i = c.self.inside in
    let f = c.args.self.now in
    let n = c.in-Some.node in
    let nodes = c.open_all.new.nodes.nodes in
    let fresh = c.open_all.new.fresh.items in
    let taken = c.in-Some.ensures.taken.taken in
    let after = c.settle_taken.new in
    let o = c.in_ok-outcome.outcome in
    let own = ap (λ (x : FrontierView). x.task) c.self.view_is in
    let states = c.open_all.new.known.states in
    let here = c.reserve.ensures.states in
    let shut = c.reserve.ensures.closed ∙ (c.open_all.ensures.closed ∙ ap (λ (x : FrontierView). x.closed) c.self.view_is) in
    let are = all_waiting f i.known.states states i.nodes.nodes nodes i.fresh.items fresh (ap (λ (x : FrontierView). x.waiting) c.self.view_is) c.open_all.ensures.waiting c.in_ok-open_all.ensures.all in (
      c.in-Some.ensures.taken.place,
      best_there states nodes f.waiting are f.task c.in-Some.ensures.taken.place (subst (λ (t : Task). AllByRecursion (IsNodeOf t c.open_all.new.known.states) nodes) (c.self.invariant.of_task ∙ own) c.open_all.ensures.nodes) c.in-Some.ensures.taken.best,
      (
        released_of states n,
        pick_there states nodes f.waiting are c.in-Some.ensures.taken.place n taken.node_is,
        outcome_again i.task.now f.task c.reserve.new.self.closed f.closed c.args.seen (released_of states n) o own shut
            (subst (λ (ss : List State). IsOutcomeOf i.task.now (hmax i.task.now) c.reserve.new.self.closed c.args.seen (released_of ss n) o) here c.in_ok-outcome.ensures.outcome),
        settled_frontier f i.task.now (waiting_by i.known.states i.nodes.nodes i.fresh.items) (waiting_by after.known.states after.nodes.nodes fresh) i.known.closed after.known.closed i.room c.args.place c.in-Some.ensures.taken.place o c.self.view_is
            (ap (λ (ss : List State). waiting_by ss after.nodes.nodes fresh) (c.settle_taken.ensures.states ∙ here) ∙ pick_gone states nodes f.waiting are after.nodes.nodes fresh c.in-Some.ensures.taken.place (c.in_ok-outcome.ensures.nodes ∙ taken.rest) c.in_ok-open_all.ensures.all)
            (c.in_ok-outcome.ensures.closed ∙ ap (λ (cs : List Closed). cs ++ closed_by c.args.place o) shut),
      ),
    )
