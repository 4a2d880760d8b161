use Rattle.std.proofs.Common.{take}
use Rattle.hd_successors.specs.Watching.{IsWatchedBy}
use Rattle.hd_successors.proofs.watching.each_rarest.Given as goal

abbrev pub invariant-loop-action : goal.invariant-loop-action
invariant-loop-action l = IsWatchedBy (take l.action-index l.actions) l.watched.items
