use Rattle.std.proofs.Common.{◌≡◌, ◌+◌, ◌-◌, ◌≤◌, length}
use Rattle.hd_certify.specs.Gathering.{AreGathered}
use Rattle.hd_certify.proofs.Surveys.{IsSettledBefore}
use Rattle.hd_certify.proofs.surveying.reach_by.Given as goal

-- how far the search is by the successors at the places so far
abbrev pub invariant-loop-from : goal.invariant-loop-from
invariant-loop-from l = record {
  same : l.gathered.entries ≡ l.fn.gathered.entries;
  gathered : AreGathered l.gathered;
  estimates_task : l.estimates.task ≡ l.gathered.entries.state.task;
  settled : IsSettledBefore l.gathered.entries.state l.from l.settled l.least;
  few : l.settled ≤ length l.gathered.entries.state.entries + l.from;
  order : l.from ≤ l.posted;
}

abbrev pub decreases-loop-from : goal.decreases-loop-from
decreases-loop-from l = l.posted - l.from
