use Rattle.std.proofs.Common.{◌≡◌, ◌++◌, map, take}
use Rattle.std.specs.List.{AllByRecursion}
use Rattle.hd_entries.specs.Resuming.{child_node}
use Rattle.hd_certify.specs.Gathering.{IsMet, nodes_met}
use Rattle.hd_certify.proofs.gathering.meet_all.Given as goal

-- the nodes of the children so far
abbrev pub invariant-loop-child : goal.invariant-loop-child
invariant-loop-child l = record {
  task : l.closed.task ≡ l.fn.closed.task;
  closed : l.closed.closed ≡ l.fn.closed.closed;
  met : AllByRecursion (IsMet l.closed.states) l.nodes.items;
  nodes : nodes_met l.closed.states l.nodes.items ≡ nodes_met l.fn.closed.states l.fn.nodes.items ++ map child_node (take l.child-index l.children);
}
