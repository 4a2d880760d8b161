use Rattle.std.specs.VecDeque.{deque_len}
use Rattle.hd_threads.specs.Outside.{IsOutsideAgain}
use Rattle.hd_threads.proofs.progress.end.Given as goal

-- the pass is outside, and has seen no less
abbrev pub invariant-loop-oldest : goal.invariant-loop-oldest
invariant-loop-oldest g l = IsOutsideAgain l.lock.place l.fn.pass l.pass

-- a ticket less with each
abbrev pub decreases-loop-oldest : goal.decreases-loop-oldest
decreases-loop-oldest g l = deque_len l.held
