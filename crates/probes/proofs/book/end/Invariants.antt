use Rattle.std.proofs.Common.{◌≡◌, true, vec_len}
use Rattle.probes.proofs.book.end.Given as goal

-- the book stays halted
abbrev pub invariant-loop-ticket : goal.invariant-loop-ticket
invariant-loop-ticket g l = l.book.batches.halted ≡ true

abbrev pub decreases-loop-ticket : goal.decreases-loop-ticket
decreases-loop-ticket g l = vec_len l.held
