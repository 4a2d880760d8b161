use Rattle.std.proofs.Common.{ℕ, Option, ◌∙◌, ap, sym, subst}
use Rattle.std.specs.List.{AllByRecursion}
use Rattle.hd_task.specs.declared.task.Task.{Task}
use Rattle.hd_worker.specs.Nodes.{IsNodeOf}
use Rattle.hd_turns.specs.Totals.{total_at}
use Rattle.hd_worker.specs.Least.{IsLeastTotal}
use Rattle.hd_worker.specs.Frontier.{FrontierView}
use Rattle.hd_worker.proofs.Taken.{all_waiting}
use Rattle.hd_worker.proofs.Least.{least_there}
use Rattle.hd_worker.proofs.frontier.Frontier.least.Goals as goal

pub returns-clause-least : goal.returns-clause-least
returns-clause-least c =
    let i = c.self.inside in
    let f = c.args.self.now in
    let nodes = c.open_all.new.nodes.nodes in
    let states = c.open_all.new.known.states in
    let own = c.self.invariant.of_task ∙ ap (λ (x : FrontierView). x.task) c.self.view_is in
    subst (λ (o : Option ℕ). IsLeastTotal (total_at f.task) f.waiting o) (sym c.total.ensures)
    (least_there f.task states nodes c.best.new.self.nodes f.waiting c.in-Some.place c.in-Some-get.node.now
    (all_waiting f i.known.states states i.nodes.nodes nodes i.fresh.items c.open_all.new.fresh.items (ap (λ (x : FrontierView). x.waiting) c.self.view_is) c.open_all.ensures.waiting c.in_ok-open_all.ensures.all)
    (subst (λ (t : Task). AllByRecursion (IsNodeOf t states) nodes) own c.open_all.ensures.nodes) c.in-Some.ensures.best c.best.ensures.nodes (sym c.in-Some-get.ensures))
