use Rattle.std.proofs.Common.{arith}
use Rattle.hd_replay.proofs.Standing.{read_at}
use Rattle.hd_replay.proofs.Turning.{take_turns}
use Rattle.hd_replay.proofs.run.Run.take.Goals as goal

pub returns-clause-ok : goal.returns-clause-ok
returns-clause-ok g c =
    let v = c.self.inside in
    let e = read_at v.seats.items c.args.number c.index_mut.result.now (omega arith) c.index_mut.ensures.value in
    take_turns c.args.number _ c.args.self.now c.self.view_is _ e c.take.new.self c.in_ok-take.ensures.ok
