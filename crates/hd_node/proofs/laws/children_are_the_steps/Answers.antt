use Rattle.hd_task.specs.Plans.{node}
use Rattle.hd_node.proofs.Steps.{children-actions, children_step, step_in_range}
use Rattle.hd_node.proofs.laws.children_are_the_steps.Goals as goal

pub returns : goal.returns
returns c = record {
  actions = children-actions;
  leads = λ t r child among. (children_step t r child among).leads;
  in_range = λ t r child among. let s = children_step t r child among in step_in_range t r child.action (node child.state child.cost) s.leads s.applies;
}
