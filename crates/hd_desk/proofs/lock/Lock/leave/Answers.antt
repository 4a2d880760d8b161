use Rattle.hd_desk.proofs.Moves.{leaves, gone}
use Rattle.hd_desk.proofs.lock.Lock.leave.Goals as goal

pub push_as-requires-clause-rule : goal.push_as-requires-clause-rule
push_as-requires-clause-rule g c =
    let inside = c.requires.pass in (
      leaves g.B.Locked.task g.B.Locked.log _ _ _ _ inside.1 inside.2 c.requires.task c.requires.begins,
      gone g.B.Locked.task g.B.Locked.log _ _ inside.2,
    )
