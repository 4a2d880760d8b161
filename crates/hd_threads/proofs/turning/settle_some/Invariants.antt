use Rattle.std.proofs.Common.{◌≡◌}
use Rattle.hd_threads.specs.Placing.{StaysAt}
use Rattle.hd_threads.proofs.turning.settle_some.Given as goal

-- the worker is at the desk, what it keeps outside the lock is as before, and so are its tickets
abbrev pub invariant-loop-settled : goal.invariant-loop-settled
invariant-loop-settled g l = record {
  stays : StaysAt l.desk l.fn.place l.place;
  tickets : l.progress.held ≡ l.fn.progress.held;
}
