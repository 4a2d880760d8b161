use Rattle.std.proofs.Common.{◌≡◌, ◌≤◌, map, take}
use Rattle.hd_certify.specs.Covering.{IsSpared}
use Rattle.hd_certify.specs.Gathering.{node_met}
use Rattle.hd_certify.specs.Survey.{Tallies}
use Rattle.hd_certify.proofs.surveying.spared_of.Given as goal

-- how many are spared of the nodes so far
abbrev pub invariant-loop-met : goal.invariant-loop-met
invariant-loop-met l = record {
  same : l.closed ≡ l.fn.closed;
  estimates_task : l.estimates.task ≡ l.fn.estimates.task;
  tally : Tallies (IsSpared l.entries.state) (map (node_met l.fn.closed.states) (take l.met-index l.nodes)) 0 l.spared;
  few : l.spared ≤ l.met-index;
}
