use Rattle.hd_desk.specs.Passes.{IsOutside}
use Rattle.threads_tests.proofs.together.write_all.Given as goal

-- the pass stays outside
abbrev pub invariant-loop-entry : goal.invariant-loop-entry
invariant-loop-entry g l = IsOutside l.lock.place l.pass
