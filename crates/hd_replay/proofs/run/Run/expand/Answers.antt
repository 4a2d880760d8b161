use Rattle.std.proofs.Common.{arith}
use Rattle.hd_replay.proofs.Standing.{read_at, seat_of_task}
use Rattle.hd_replay.proofs.Turning.{expand_turns}
use Rattle.hd_replay.proofs.run.Run.expand.Goals as goal

pub returns-clause-ok : goal.returns-clause-ok
returns-clause-ok g c =
    let k = c.args.number in
    let e = read_at c.self.inside.seats.items k c.index_mut.result.now (omega arith) c.index_mut.ensures.value in
    expand_turns k _ c.args.self.now c.self.view_is _ e c.args.place c.expand.new.self
    (seat_of_task _ c.args.self.now c.self.view_is c.requires.sound k _ e) c.in_ok-expand.ensures.rest c.in_ok-expand.ensures.expands
