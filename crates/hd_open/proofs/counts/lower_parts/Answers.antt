use Rattle.std.proofs.Common.{◌+◌, ◌-◌, length-set, arith}
use Rattle.std.proofs.lemmas.Nat.{le_or_r}
use Rattle.hd_open.proofs.Raising.{lowered_read, has_next, some_next}
use Rattle.hd_open.proofs.counts.lower_parts.Goals as goal

pub loop-at-preserved : goal.loop-at-preserved
loop-at-preserved c =
    lowered_read c.loop-at.parts.items c.args.parts.now.items c.args.group c.loop-at.at c.index_mut.result.now c.loop-at.invariant (omega arith)
    c.index_mut.ensures.value (some_next c.loop-at.parts.items c.args.parts.now.items c.args.group (c.loop-at.at + 1) c.loop-at.invariant (omega arith)
    (c.requires.some (c.loop-at.at + 1) (let len = c.loop-at.invariant.len in omega arith)
    (has_next c.loop-at.parts.items c.args.parts.now.items c.args.group (c.loop-at.at + 1) c.loop-at.invariant)))

pub loop-at-smaller : goal.loop-at-smaller
loop-at-smaller c =
    let more = le_or_r c.loop-at.at (c.loop-at.at + 1) in
    let len = length-set c.loop-at.parts.items c.loop-at.at (c.index_mut.result.now - 1) in
    omega arith
