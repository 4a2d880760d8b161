use Rattle.hd_desk.proofs.Moves.{there_alone}
use Rattle.hd_desk.proofs.lock.Lock.is_taken.Goals as goal

pub is_empty_as-requires-clause-rule : goal.is_empty_as-requires-clause-rule
is_empty_as-requires-clause-rule g c = there_alone g.B.Locked.task g.B.Locked.log _ _ c.requires.2
