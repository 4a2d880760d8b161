use Rattle.std.proofs.Common.{◌≡◌}
use Rattle.probes.proofs.shared.offer_all.Given as goal

-- the seat stays one of the word
abbrev pub invariant-loop-offer : goal.invariant-loop-offer
invariant-loop-offer l = l.seat.of ≡ l.word.of
