use Rattle.std.proofs.Common.{arith}
use Rattle.hd_closed.proofs.Keeping.{numbering_ends}
use Rattle.hd_closed.proofs.closed.number_from.Goals as goal

pub returns : goal.returns
returns c = numbering_ends c.args.first c.args.given.now c.args.shuts.now c.loop-place.shuts c.loop-place.place c.loop-place.invariant (omega arith)
