use Rattle.std.proofs.Common.{◌≡◌, true}
use Rattle.std.specs.VecDeque.{deque_len}
use Rattle.hd_replay.proofs.seat.Seat.end.Given as goal

-- the book stays halted
abbrev pub invariant-loop-ticket : goal.invariant-loop-ticket
invariant-loop-ticket g l = record { halted : l.book.batches.halted ≡ true }

-- each turn takes a ticket out
abbrev pub decreases-loop-ticket : goal.decreases-loop-ticket
decreases-loop-ticket g l = deque_len l.tickets
