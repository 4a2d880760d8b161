use Rattle.std.proofs.Common.{◌+◌, length-set, arith}
use Rattle.std.proofs.lemmas.Nat.{le_or_r}
use Rattle.hd_open.proofs.Raising.{raised_read}
use Rattle.hd_open.proofs.counts.raise_parts.Goals as goal

pub loop-at-preserved : goal.loop-at-preserved
loop-at-preserved c =
    raised_read c.args.parts.now.items c.loop-at.parts.items c.args.group c.loop-at.at c.index_mut.result.now c.loop-at.invariant (omega arith) c.index_mut.ensures.value

pub loop-at-smaller : goal.loop-at-smaller
loop-at-smaller c =
    let more = le_or_r c.loop-at.at (c.loop-at.at + 1) in
    let len = length-set c.loop-at.parts.items c.loop-at.at (c.index_mut.result.now + 1) in
    omega arith
