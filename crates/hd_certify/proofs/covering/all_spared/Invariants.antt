use Rattle.std.proofs.Common.{◌≡◌, map, take}
use Rattle.std.specs.List.{AllByRecursion}
use Rattle.hd_certify.specs.Covering.{IsSpared}
use Rattle.hd_certify.specs.Gathering.{node_met}
use Rattle.hd_certify.proofs.covering.all_spared.Given as goal

-- the nodes so far
abbrev pub invariant-loop-met : goal.invariant-loop-met
invariant-loop-met l = record {
  same : l.closed ≡ l.fn.closed;
  estimates_task : l.estimates.task ≡ l.fn.estimates.task;
  spared : AllByRecursion (IsSpared l.entries.state) (map (node_met l.fn.closed.states) (take l.met-index l.nodes));
}
