use Rattle.hd_threads.proofs.Parcels.{taken_true}
use Rattle.hd_threads.proofs.posting.take_next.Goals as goal

pub returns-clause-taken : goal.returns-clause-taken
returns-clause-taken c =
    taken_true c.args.from c.args.hands.now c.args.worker.now c.pop.new.hands c.take.new.self c.into_parcel.result c.in-Some.letter c.in-Some.ensures.taken c.into_parcel.ensures c.in_default-take.ensures.ok
