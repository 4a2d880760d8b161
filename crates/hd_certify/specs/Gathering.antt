-- Entries that are made again, with the nodes that they generate. (Our own.)
use Rattle.std.specs.Prelude.{◌≡◌, ◌<◌, List, map, length, Option, Some}
use Rattle.std.specs.List.{AllByRecursion}
use Rattle.hd_task.specs.declared.state.State.{State}
use Rattle.hd_task.specs.Plans.{Node, node}
use Rattle.hd_closed.specs.Closed.{state_at}
use Rattle.hd_entries.specs.Settling.{IsBookKept}
use Rattle.hd_entries.specs.Resuming.{posted_nodes}
use Rattle.hd_certify.specs.declared.gathering.Gathered.{Gathered}
use Rattle.hd_certify.specs.declared.gathering.MetNode.{MetNode}
use Rattle.hd_certify.specs.Covering.{AreAllClosed}

-- the state of a generated node is among those that were met
abbrev pub IsMet : List State → MetNode → Type 0
IsMet states m = m.state < length states

-- the node, by the states that were met
abbrev pub node_met : List State → MetNode → Node
node_met states m = node (state_at states m.state) m.cost

-- some nodes, each as where a plan leads
abbrev pub nodes_met : List State → List MetNode → List (Option Node)
nodes_met states ms = map (λ (m : MetNode). Some (node_met states m)) ms

-- the parts agree: the closed list has the expansions of all entries, and the nodes are those of
-- all posted successors, in posting order
pub record AreGathered (g : Gathered) : Type 0 where
  pub task : g.closed.task ≡ g.entries.state.task
  pub kept : IsBookKept g.entries.state
  pub closed : AreAllClosed g.entries.state g.closed.closed
  pub met : AllByRecursion (IsMet g.closed.states) g.nodes.items
  pub nodes : nodes_met g.closed.states g.nodes.items ≡ posted_nodes g.entries.state
