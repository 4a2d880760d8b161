use Rattle.std.proofs.Common.{◌≡◌, ◌++◌, drop, map}
use Rattle.hd_node.proofs.Steps.{action_of}
use Rattle.hd_node.proofs.expansion.actions_of.Given as goal

-- the actions so far, and those that are left
abbrev pub invariant-loop-child : goal.invariant-loop-child
invariant-loop-child l = record {
  actions : l.actions.items ++ map action_of (drop l.child-index l.children) ≡ map action_of l.fn.children;
}
