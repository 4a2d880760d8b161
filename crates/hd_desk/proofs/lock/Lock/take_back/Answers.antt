use Rattle.hd_desk.proofs.Moves.{enters, there}
use Rattle.hd_desk.proofs.lock.Lock.take_back.Goals as goal

pub pop_as-requires-clause-rule : goal.pop_as-requires-clause-rule
pop_as-requires-clause-rule g c =
    let out = c.requires.pass in
    (enters g.B.Locked.task g.B.Locked.log _ _ out.1, there g.B.Locked.task g.B.Locked.log _ _ c.requires.parts out.2)
