use Rattle.std.proofs.Common.{◌≡◌, ℕ, ◌-◌, ◌≤◌, map, length}
use Rattle.hd_task.specs.Plans.{node}
use Rattle.hd_node.proofs.Finding.{children_below, found_below}
use Rattle.hd_node.proofs.Steps.{action_of}
use Rattle.hd_node.proofs.outline.list_actions.Given as goal

-- the applicable actions and the departures of the actions so far
abbrev pub invariant-loop-action : goal.invariant-loop-action
invariant-loop-action l = record {
  actions : l.actions.items ≡ map action_of (children_below l.task (node l.state l.cost) l.from);
  departures : l.departures.items ≡ found_below l.task (node l.state l.cost) l.from;
  within : l.from ≤ length l.task.actions;
}

-- the actions that are left
abbrev pub decreases-loop-action : goal.decreases-loop-action
decreases-loop-action l = length l.task.actions - l.from
