use Rattle.std.specs.List.{AllByRecursion}
use Rattle.hd_entries.specs.Settling.{IsOutcomeOfTask}
use Rattle.probes.proofs.outcomes.batch_of.Given as goal

-- the outcomes so far are of the task
abbrev pub invariant-loop-part : goal.invariant-loop-part
invariant-loop-part l = AllByRecursion (IsOutcomeOfTask l.task) l.outcomes.items
