use Rattle.std.proofs.Common.{◌+◌}
use Rattle.hd_lifted.specs.Walks.{AreVisited}
use Rattle.hd_lifted.proofs.hierarchy.walk_all.Given as goal

abbrev pub invariant-loop-before : goal.invariant-loop-before
invariant-loop-before l = AreVisited l.parents l.stamps (l.before + 1) l.found
