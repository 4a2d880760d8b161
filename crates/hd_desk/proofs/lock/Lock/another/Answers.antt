use Rattle.hd_desk.proofs.Moves.{forks}
use Rattle.hd_desk.proofs.lock.Lock.another.Goals as goal

pub another-requires-clause-rule : goal.another-requires-clause-rule
another-requires-clause-rule g c = forks g.B.Locked.task g.B.Locked.log _ _ c.requires.parts c.requires.pass.2
