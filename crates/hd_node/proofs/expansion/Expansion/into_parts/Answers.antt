use Rattle.std.proofs.Common.{sym, ap, subst}
use Rattle.std.specs.List.{AllByRecursion}
use Rattle.hd_task.specs.Plans.{IsStateOf}
use Rattle.hd_node.specs.Children.{ChildView}
use Rattle.hd_node.specs.Expansion.{ExpansionView}
use Rattle.hd_node.proofs.Steps.{children_states}
use Rattle.hd_node.proofs.expansion.Expansion.into_parts.Goals as goal

pub returns-clause-of_task : goal.returns-clause-of_task
returns-clause-of_task c =
    let e = c.args.self in
    subst (λ cs. AllByRecursion (λ (x : ChildView). IsStateOf e.task x.state) cs) (ap (λ (x : ExpansionView). x.children) (sym c.self.view_is)) (children_states e)
