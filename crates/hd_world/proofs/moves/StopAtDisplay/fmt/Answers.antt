use Rattle.std.proofs.Common.{List, ℕ, Option, subst, arith}
use Rattle.std.specs.Fmt.{DisplaysOnOk}
use Rattle.hd_world.proofs.ScheduleBytes.{stop_written}
use Rattle.hd_world.proofs.moves.StopAtDisplay.fmt.Goals as goal

pub returns-clause-writes : goal.returns-clause-writes
returns-clause-writes g c =
    subst (λ (o : Option (List ℕ)). DisplaysOnOk g.W.Write.write_str_gives c.args.f.now c.write.result o c.write.new.self)
    (stop_written c.args.self.now.call c.args.self.now.byte c.in_radix.result c.laid_out.result (omega arith) c.in_radix.ensures c.laid_out.ensures)
    c.write.ensures.writes
