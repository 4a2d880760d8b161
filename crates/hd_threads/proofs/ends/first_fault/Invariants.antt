use Rattle.std.proofs.Common.{◌≡◌, length}
use Rattle.hd_threads.specs.Ends.{first_fault}
use Rattle.hd_threads.proofs.ends.first_fault.Given as goal

-- no end so far has a fault
abbrev pub invariant-loop-rest : goal.invariant-loop-rest
invariant-loop-rest l = first_fault l.fn.ends ≡ first_fault l.rest

-- an end less with each
abbrev pub decreases-loop-rest : goal.decreases-loop-rest
decreases-loop-rest l = length l.rest
