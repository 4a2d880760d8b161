use Rattle.hd_replay.proofs.ending.stop_within.Goals as goal

pub returns-in-Ok : goal.returns-in-Ok
returns-in-Ok c = λ f s.
    c.append_until.ensures c.args.digest.now f c.args.at.call c.requires.some c.requires.few (c.in-Ok.ensures f s)
