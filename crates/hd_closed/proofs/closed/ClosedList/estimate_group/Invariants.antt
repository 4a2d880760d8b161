use Rattle.std.proofs.Common.{◌≡◌}
use Rattle.hd_closed.proofs.closed.ClosedList.estimate_group.Given as goal

abbrev pub invariant-loop-lane : goal.invariant-loop-lane
invariant-loop-lane l = record { self : l.self ≡ l.fn.self }
