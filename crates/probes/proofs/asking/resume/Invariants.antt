use Rattle.probes.proofs.asking.resume.Given as goal

abbrev pub ghosts-resumed : goal.ghosts-resumed
ghosts-resumed a = record { name = a.blank.name; parts = a.blank.parts }
