use Rattle.std.proofs.Common.{length}
use Rattle.hd_closed.proofs.Chains.{IsSearch, left}
use Rattle.hd_closed.proofs.notes.find.Given as goal

abbrev pub invariant-loop-next : goal.invariant-loop-next
invariant-loop-next l = IsSearch l.rows.states (length l.heads) l.state l.next

abbrev pub decreases-loop-next : goal.decreases-loop-next
decreases-loop-next l = left l.next
