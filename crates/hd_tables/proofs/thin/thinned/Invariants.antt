use Rattle.hd_tables.proofs.thin.thinned.Given as goal

-- nothing is known of the cells that differ
abbrev pub invariant-loop : goal.invariant-loop
invariant-loop l = Unit {0}
