use Rattle.std.proofs.Common.{◌≡◌, true, vec_len}
use Rattle.hd_replay.proofs.ending.end_seats.Given as goal

-- the book stays halted
abbrev pub invariant-loop-seat : goal.invariant-loop-seat
invariant-loop-seat g l = record { halted : l.book.batches.halted ≡ true }

-- each turn takes a place out
abbrev pub decreases-loop-seat : goal.decreases-loop-seat
decreases-loop-seat g l = vec_len l.seats
