use Rattle.std.proofs.Common.{◌≡◌, ◌≤◌, ◌++◌, drop, length}
use Rattle.std.specs.List.{AllByRecursion}
use Rattle.hd_entries.specs.Settling.{IsOutcomeOfTask}
use Rattle.hd_entries.specs.Table.{AreWidthsOf}
use Rattle.hd_entries.specs.Growing.{entered_by}
use Rattle.hd_entries.proofs.settling.enter.Given as goal

-- what is left to enter, and room for it
abbrev pub invariant-loop-outcome : goal.invariant-loop-outcome
invariant-loop-outcome l = record {
  fits : AreWidthsOf l.task l.entries.widths;
  of_task : AllByRecursion (IsOutcomeOfTask l.task) (drop l.outcome-index l.outcomes);
  room : length (entered_by (drop l.outcome-index l.outcomes)) ≤ l.entries.room;
  left : l.entries.items ++ entered_by (drop l.outcome-index l.outcomes) ≡ l.fn.entries.items ++ entered_by l.outcomes;
}
