use Rattle.hd_replay.proofs.playing.ended.Goals as goal

pub returns-in-Ok : goal.returns-in-Ok
returns-in-Ok g c = λ t digest f x. c.in-Ok.ensures t digest f x
