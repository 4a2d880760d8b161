use Rattle.std.proofs.Common.{◌≡◌, ◌-◌}
use Rattle.hd_closed.proofs.closed.ClosedList.estimate_from.Given as goal

abbrev pub invariant-loop-end : goal.invariant-loop-end
invariant-loop-end l = record { same : l.self ≡ l.fn.self; task : l.estimates.task ≡ l.fn.estimates.task }

abbrev pub decreases-loop-end : goal.decreases-loop-end
decreases-loop-end l = l.len - l.first
