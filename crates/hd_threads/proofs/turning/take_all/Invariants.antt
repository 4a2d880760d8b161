use Rattle.hd_threads.specs.Placing.{StaysAt}
use Rattle.hd_threads.proofs.turning.take_all.Given as goal

-- the worker is at the desk, and what it keeps outside the lock is as before
abbrev pub invariant-loop-parcel : goal.invariant-loop-parcel
invariant-loop-parcel g l = StaysAt l.desk l.fn.place l.place
