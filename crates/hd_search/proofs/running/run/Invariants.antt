use Rattle.hd_search.proofs.running.run.Given as goal

abbrev pub ghosts-run_as-L-Ledger : goal.ghosts-run_as-L-Ledger
ghosts-run_as-L-Ledger g a = record { name = a.commits.name; parts = a.commits.parts }

abbrev pub ghosts-run_as-A-Ledger : goal.ghosts-run_as-A-Ledger
ghosts-run_as-A-Ledger g a = record { name = a.flushes.name; parts = a.flushes.parts }
