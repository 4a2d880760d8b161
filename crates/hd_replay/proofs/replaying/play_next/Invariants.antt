use Rattle.hd_replay.proofs.replaying.play_next.Given as goal

abbrev pub ghosts-play_from : goal.ghosts-play_from
ghosts-play_from a = record { name = a.blank.name; parts = a.blank.parts }
