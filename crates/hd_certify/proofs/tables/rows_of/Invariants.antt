use Rattle.hd_certify.proofs.Rows.{AreRows}
use Rattle.hd_certify.proofs.tables.rows_of.Given as goal

-- the rows so far, and the one that is being counted
abbrev pub invariant-loop-place : goal.invariant-loop-place
invariant-loop-place l = record { rows : AreRows l.values l.place l.rows.items l.last }
