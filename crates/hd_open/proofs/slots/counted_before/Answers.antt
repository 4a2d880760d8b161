use Rattle.std.proofs.Common.{◌*◌, refl, arith}
use Rattle.hd_open.specs.Live.{nodes_before}
use Rattle.hd_open.specs.Counts.{start_of}
use Rattle.hd_open.proofs.Places.{place_at-le-all, length-live-le}
use Rattle.hd_open.proofs.Counting.{place_more}
use Rattle.hd_open.proofs.slots.counted_before.Goals as goal

pub overflow_add-place : goal.overflow_add-place
overflow_add-place g c =
    let slots = c.args.slots.now in
    let more =
    place_more slots c.args.counts.now c.loop-end.end (start_of c.loop-end.end) c.index.result.now c.loop-end.place (nodes_before slots (64 * c.args.group))
    c.requires.counted (omega arith) c.loop-end.invariant.1 refl c.index.ensures c.loop-end.invariant.0
    in
    let few = place_at-le-all slots (64 * c.args.group) in
    let fewer = length-live-le slots in
    omega arith
