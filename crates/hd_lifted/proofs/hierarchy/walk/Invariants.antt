use Rattle.hd_lifted.specs.Walks.{unvisited}
use Rattle.hd_lifted.proofs.Walks.{IsWalk}
use Rattle.hd_lifted.proofs.hierarchy.walk.Given as goal

abbrev pub invariant-loop-stamps : goal.invariant-loop-stamps
invariant-loop-stamps l = IsWalk l.parents l.fn.stamps l.stamps l.start l.kind

abbrev pub decreases-loop-stamps : goal.decreases-loop-stamps
decreases-loop-stamps l = unvisited l.stamps
