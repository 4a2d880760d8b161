use Rattle.std.proofs.Common.{sym}
use Rattle.hd_replay.proofs.Steps.{flush_turns}
use Rattle.hd_replay.proofs.run.Run.flush.Goals as goal

pub returns-in-Ok : goal.returns-in-Ok
returns-in-Ok g c = record {
  flushed = λ digest f s.
      flush_turns digest f c.args.self.now c.take_out.new.self c.put_out.new.self c.args.journal.now c.append.new.self c.in-Pulled.group c.in-Ok.flushed s
      (sym c.in-Pulled.ensures.group) c.take_out.ensures.rest c.in-Ok.ensures.flushed c.put_out.ensures c.in-Ok.ensures.appended
      (c.in-Ok.ensures.whole digest f.groups s.is_of) c.in-Ok.ensures.settled;
}
