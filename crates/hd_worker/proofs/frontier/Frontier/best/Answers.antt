use Rattle.std.proofs.Common.{◌∙◌, ap, subst}
use Rattle.std.specs.List.{AllByRecursion}
use Rattle.hd_task.specs.declared.task.Task.{Task}
use Rattle.hd_entries.specs.Holding.{Released}
use Rattle.hd_open.specs.Totals.{IsBest}
use Rattle.hd_turns.specs.Totals.{total_at}
use Rattle.hd_worker.specs.declared.node.WaitingNode.{WaitingNode}
use Rattle.hd_worker.specs.Nodes.{IsNodeOf}
use Rattle.hd_worker.specs.Frontier.{FrontierView}
use Rattle.hd_worker.proofs.Settled.{best_there}
use Rattle.hd_worker.proofs.Taken.{if_some, all_waiting}
use Rattle.hd_worker.proofs.frontier.Frontier.best.Goals as goal

pub returns-clause-best : goal.returns-clause-best
returns-clause-best c =
    let i = c.self.inside in
    let f = c.args.self.now in
    let nodes = c.open_all.new.nodes.nodes in
    let states = c.open_all.new.known.states in
    let own = c.self.invariant.of_task ∙ ap (λ (x : FrontierView). x.task) c.self.view_is in
    if_some c.best.result (IsBest (λ (n : WaitingNode). n.total) nodes) (IsBest {A = Released} (total_at f.task) f.waiting)
    (λ k best.
    best_there states nodes f.waiting
    (all_waiting f i.known.states states i.nodes.nodes nodes i.fresh.items c.open_all.new.fresh.items (ap (λ (x : FrontierView). x.waiting) c.self.view_is) c.open_all.ensures.waiting c.in_ok-open_all.ensures.all)
    f.task k (subst (λ (t : Task). AllByRecursion (IsNodeOf t states) nodes) own c.open_all.ensures.nodes) best)
    c.best.ensures.best
