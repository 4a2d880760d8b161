use Rattle.std.proofs.Common.{◌≡◌, map, take, None}
use Rattle.hd_certify.specs.Covering.{IsSpared}
use Rattle.hd_certify.specs.Gathering.{node_met}
use Rattle.hd_certify.specs.Survey.{Lessens}
use Rattle.hd_certify.proofs.surveying.least_of.Given as goal

-- the least of the nodes so far
abbrev pub invariant-loop-met : goal.invariant-loop-met
invariant-loop-met l = record {
  same : l.closed ≡ l.fn.closed;
  estimates_task : l.estimates.task ≡ l.fn.estimates.task;
  lessens : Lessens l.entries.state.task (IsSpared l.entries.state) (map (node_met l.fn.closed.states) (take l.met-index l.nodes)) None l.least;
}
