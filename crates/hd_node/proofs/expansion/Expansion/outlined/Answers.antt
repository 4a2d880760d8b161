use Rattle.std.proofs.Common.{map, sym, ap, subst, ◌∙◌}
use Rattle.std.specs.List.{AllByRecursion}
use Rattle.hd_task.specs.Plans.{IsStateOf, node}
use Rattle.hd_node.specs.Children.{ChildView}
use Rattle.hd_node.specs.Expansion.{ExpansionView}
use Rattle.hd_node.proofs.Steps.{action_of, children-actions, children_states}
use Rattle.hd_node.proofs.expansion.Expansion.outlined.Goals as goal

pub invariant_of-outline-inside : goal.invariant_of-outline-inside
invariant_of-outline-inside c =
    let e = c.self.inside in
    let these = c.as_slice.ensures ∙ e.all_children in
    let actions = c.from_vec.ensures ∙ (c.in_ok-actions.ensures ∙ (ap (map action_of) these ∙ children-actions e.task.now (node e.state e.cost))) in
    (e.of_task, (actions, (e.all_departures, (e.is_goal, tt))))

pub returns-clause-of_task : goal.returns-clause-of_task
returns-clause-of_task c =
    let e = c.args.self in
    subst (λ cs. AllByRecursion (λ (x : ChildView). IsStateOf e.task x.state) cs) (ap (λ (x : ExpansionView). x.children) (sym c.self.view_is)) (children_states e)
