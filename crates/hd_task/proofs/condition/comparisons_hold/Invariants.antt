use Rattle.std.proofs.Common.{◌≡◌, true, take}
use Rattle.std.specs.List.{list_all}
use Rattle.hd_task.specs.Conditions.{comparison_stays, comparison_holds}
use Rattle.hd_task.proofs.condition.comparisons_hold.Given as goal

-- the comparisons so far stay in the range, and `all` says whether they hold
abbrev pub invariant-loop-comparison : goal.invariant-loop-comparison
invariant-loop-comparison g l = record {
  stay : list_all (comparison_stays (g.R.Reads.seen l.state).fluents) (take l.comparison-index l.comparisons) ≡ true;
  hold : l.all ≡ list_all (comparison_holds (g.R.Reads.seen l.state).fluents) (take l.comparison-index l.comparisons);
}
