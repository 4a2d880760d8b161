use Rattle.std.proofs.Common.{◌≡◌, ◌-◌, ◌≤◌}
use Rattle.hd_certify.proofs.Justified.{IsSparedBefore}
use Rattle.hd_certify.proofs.covering.are_spared_by.Given as goal

-- the successors at the places so far are spared
abbrev pub invariant-loop-from : goal.invariant-loop-from
invariant-loop-from l = record {
  same : l.gathered ≡ l.fn.gathered;
  estimates_task : l.estimates.task ≡ l.gathered.entries.state.task;
  spared : IsSparedBefore l.gathered.entries.state l.from;
  order : l.from ≤ l.posted;
}

abbrev pub decreases-loop-from : goal.decreases-loop-from
decreases-loop-from l = l.posted - l.from
