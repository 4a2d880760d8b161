use Rattle.std.proofs.Common.{arith}
use Rattle.hd_replay.proofs.Standing.{read_at}
use Rattle.hd_replay.proofs.Turning.{redeem_turns}
use Rattle.hd_replay.proofs.run.Run.redeem.Goals as goal

pub returns : goal.returns
returns g c =
    let e = read_at c.self.inside.seats.items c.args.number c.index_mut.result.now (omega arith) c.index_mut.ensures.value in
    redeem_turns c.args.number _ c.args.self.now c.self.view_is _ e c.redeem.new.book c.redeem.new.self c.redeem.ensures.seat c.redeem.ensures.book
