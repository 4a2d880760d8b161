use Rattle.std.proofs.Common.{length}
use Rattle.hd_open.specs.Queue.{AreCleared}
use Rattle.hd_open.proofs.queue.first_waiting.Given as goal

abbrev pub invariant-loop-arrival : goal.invariant-loop-arrival
invariant-loop-arrival l = AreCleared l.words l.initial.arrivals l.arrivals

abbrev pub decreases-loop-arrival : goal.decreases-loop-arrival
decreases-loop-arrival l = length l.arrivals
