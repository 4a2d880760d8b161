use Rattle.std.proofs.Common.{◌≡◌, ◌+◌, ◌++◌, ◌≤◌, length, map}
use Rattle.std.specs.List.{AllByRecursion}
use Rattle.hd_entries.specs.Settling.{node_of}
use Rattle.hd_entries.specs.Resuming.{open_before}
use Rattle.hd_certify.specs.Gathering.{IsMet, nodes_met}
use Rattle.hd_certify.proofs.covering.open_between.Given as goal

-- the nodes of the places so far
abbrev pub invariant-loop-place : goal.invariant-loop-place
invariant-loop-place l = record {
  nodes : map (node_of l.gathered.entries.state) (open_before l.gathered.entries.state l.fn.from) ++ nodes_met l.gathered.closed.states l.open.items
      ≡ map (node_of l.gathered.entries.state) (open_before l.gathered.entries.state l.place);
  met : AllByRecursion (IsMet l.gathered.closed.states) l.open.items;
  few : l.fn.from + length l.open.items ≤ l.place;
}
