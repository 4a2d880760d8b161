use Rattle.std.proofs.Common.{◌≡◌, ◌-◌, length}
use Rattle.hd_closed.proofs.closed.ClosedList.estimate_at.Given as goal

abbrev pub invariant-loop-unknown : goal.invariant-loop-unknown
invariant-loop-unknown l = record { same : l.self ≡ l.fn.self; task : l.estimates.task ≡ l.fn.estimates.task }

abbrev pub decreases-loop-unknown : goal.decreases-loop-unknown
decreases-loop-unknown l = length l.unknown.items - l.first
