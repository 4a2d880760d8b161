use Rattle.hd_desk.proofs.Moves.{enters}
use Rattle.hd_desk.proofs.lock.Lock.try_enter.Goals as goal

pub pop_as-requires-clause-rule : goal.pop_as-requires-clause-rule
pop_as-requires-clause-rule g c = (enters g.B.Locked.task g.B.Locked.log _ _ c.requires.1, λ items views k at. tt)
