use Rattle.std.proofs.Common.{rules}
use Rattle.hd_desk.proofs.Steps.{offers}
use Rattle.hd_desk.proofs.word.BoundWord.offer.Goals as goal

pub fetch_min-requires : goal.fetch_min-requires
fetch_min-requires c = (search rules, search rules, offers _ _ _ _ _ c.seat.invariant.part)
