use Rattle.std.proofs.Common.{arith}
use Rattle.hd_replay.proofs.Standing.{read_at}
use Rattle.hd_replay.proofs.Turning.{commit_turns}
use Rattle.hd_replay.proofs.run.Run.commit.Goals as goal

pub returns-clause-ok : goal.returns-clause-ok
returns-clause-ok g c =
    let e = read_at c.self.inside.seats.items c.args.number c.index_mut.result.now (omega arith) c.index_mut.ensures.value in
    commit_turns c.args.number _ c.args.self.now c.self.view_is _ e c.commit.new.book c.commit.new.self c.in_ok-commit.ensures.ok
