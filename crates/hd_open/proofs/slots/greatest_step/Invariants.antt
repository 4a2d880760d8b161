use Rattle.std.proofs.Common.{◌<◌, ◌-◌}
use Rattle.hd_open.proofs.slots.greatest_step.Given as goal

abbrev pub invariant-loop-step : goal.invariant-loop-step
invariant-loop-step l = 0 < l.step

abbrev pub decreases-loop-step : goal.decreases-loop-step
decreases-loop-step l = l.groups - l.step
