use Rattle.std.proofs.Common.{◌<◌, length}
use Rattle.std.specs.List.{AllByRecursion}
use Rattle.hd_closed.proofs.closed.ClosedList.unknown_of.Given as goal

-- the places so far are places of states
abbrev pub invariant-loop-number : goal.invariant-loop-number
invariant-loop-number l = record { within : AllByRecursion (λ k. k < length l.fn.self.states) l.unknown.items }
