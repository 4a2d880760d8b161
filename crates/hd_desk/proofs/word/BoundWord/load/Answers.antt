use Rattle.std.proofs.Common.{rules}
use Rattle.hd_desk.proofs.Steps.{loads}
use Rattle.hd_desk.proofs.word.BoundWord.load.Goals as goal

pub load-requires : goal.load-requires
load-requires c = (search rules, search rules, loads _ _ _ _ c.seat.invariant.part)
