use Rattle.std.proofs.Common.{◌≡◌}
use Rattle.hd_closed.proofs.closed.ClosedList.estimate_stretch.Given as goal

abbrev pub invariant-loop-place : goal.invariant-loop-place
invariant-loop-place l = record { self : l.self ≡ l.fn.self }
