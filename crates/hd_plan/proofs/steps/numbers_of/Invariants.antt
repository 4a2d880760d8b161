use Rattle.std.proofs.Common.{◌≡◌, length}
use Rattle.hd_plan.specs.Tables.{numbers_of, behind}
use Rattle.hd_plan.proofs.steps.numbers_of.Given as goal

-- the numbers so far, and then those of the rest
abbrev pub invariant-loop-rest : goal.invariant-loop-rest
invariant-loop-rest l = numbers_of l.table l.names ≡ behind l.numbers.items (numbers_of l.table l.rest)

abbrev pub decreases-loop-rest : goal.decreases-loop-rest
decreases-loop-rest l = length l.rest
