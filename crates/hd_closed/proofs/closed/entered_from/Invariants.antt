use Rattle.std.proofs.Common.{◌≤◌, ◌-◌, length}
use Rattle.hd_closed.specs.Shut.{HasNumbered}
use Rattle.hd_closed.proofs.closed.entered_from.Given as goal

abbrev pub invariant-loop-entered : goal.invariant-loop-entered
invariant-loop-entered l = record { numbered : HasNumbered l.shuts l.entered; bounded : l.entered ≤ length l.shuts }

abbrev pub decreases-loop-entered : goal.decreases-loop-entered
decreases-loop-entered l = length l.shuts - l.entered
