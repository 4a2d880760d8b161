use Rattle.threads_tests.proofs.gathered.gathered_of_two.Given as goal

abbrev pub ghosts-gathered-L-Ledger : goal.ghosts-gathered-L-Ledger
ghosts-gathered-L-Ledger g a = record { name = a.commits.name; parts = a.commits.parts }

abbrev pub ghosts-gathered-A-Ledger : goal.ghosts-gathered-A-Ledger
ghosts-gathered-A-Ledger g a = record { name = a.flushes.name; parts = a.flushes.parts }
