use Rattle.std.proofs.Common.{◌≡◌, ◌-◌, ◌≤◌, length}
use Rattle.hd_task.specs.Plans.{node}
use Rattle.hd_node.proofs.Finding.{children_below, found_below}
use Rattle.hd_node.proofs.exploring.walk.Given as goal

-- the children and departures of the actions so far
abbrev pub invariant-loop-action : goal.invariant-loop-action
invariant-loop-action l = record {
  children : l.children ≡ children_below l.task (node l.state l.cost) l.from;
  departures : l.departures.items ≡ found_below l.task (node l.state l.cost) l.from;
  within : l.from ≤ length l.task.actions;
}

-- the actions that are left
abbrev pub decreases-loop-action : goal.decreases-loop-action
decreases-loop-action l = length l.task.actions - l.from
