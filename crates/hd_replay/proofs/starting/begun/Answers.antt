use Rattle.hd_replay.proofs.Begins.{run_parts, boxes_seen}
use Rattle.hd_replay.proofs.starting.begun.Goals as goal

pub returns-in-Ok-seats_of : goal.returns-in-Ok-seats_of
returns-in-Ok-seats_of g c =
    run_parts c.args.recovered.book _ _ _ _ _ _ c.in-Ok-seats_of.ensures
    (boxes_seen _ c.in-Ok.beside.1.items c.args.workers c.in-Ok.ensures.mailboxes) c.bound-bound.ensures
