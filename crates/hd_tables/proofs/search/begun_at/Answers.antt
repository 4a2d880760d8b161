use Rattle.std.proofs.Common.{sym, arith}
use Rattle.hd_tables.proofs.Placing.{begun_is}
use Rattle.hd_tables.proofs.search.begun_at.Goals as goal

pub returns : goal.returns
returns c = sym (begun_is c.args.firsts.now.items c.args.place c.loop-from.from (omega (arith, c.loop-from.invariant.order, c.loop-from.invariant.end)) c.loop-from.invariant.before (λ lt. c.loop-from.invariant.behind c.loop-from.from (omega (arith, c.loop-from-test.false)) lt))
