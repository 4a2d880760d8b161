use Rattle.hd_desk.proofs.Moves.{begins, opens, gone, first_inside}
use Rattle.hd_desk.proofs.lock.Lock.open.Goals as goal

pub ruled-requires-clause-rule : goal.ruled-requires-clause-rule
ruled-requires-clause-rule g c = begins g.B.Locked.task g.B.Locked.log

pub push_as-requires-clause-rule : goal.push_as-requires-clause-rule
push_as-requires-clause-rule g c =
    let is = c.in_ok-place.ensures.3 in (
      opens g.B.Locked.task g.B.Locked.log _ _ _ _ is,
      gone g.B.Locked.task g.B.Locked.log _ _ (first_inside _ is),
    )
