use Rattle.hd_closed.proofs.Keeping.{IsNumbering}
use Rattle.hd_closed.proofs.closed.number_from.Given as goal

abbrev pub invariant-loop-place : goal.invariant-loop-place
invariant-loop-place l = IsNumbering l.first l.given l.initial.shuts l.shuts l.place
