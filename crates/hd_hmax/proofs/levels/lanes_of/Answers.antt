use Rattle.std.proofs.Common.{◌*◌, ◌+◌, sym, ◌∙◌, subst}
use Rattle.hd_hmax.proofs.Leveling.{AreLanesOf, byte_is, lane_next}
use Rattle.hd_hmax.proofs.levels.lanes_of.Goals as goal

pub loop-done-preserved : goal.loop-done-preserved
loop-done-preserved g c =
    let states = g.G.Group.states c.args.group.now in
    let count = c.count-count.result in
    let done = c.loop-done.done in
    let lanes = c.loop-done.lanes in
    subst (λ x. AreLanesOf states c.args.atom (2 * lanes + x) count (done + 1)) (sym (c.from.ensures ∙ byte_is c.has_atom-is_true.result))
    (lane_next states c.args.atom lanes count done c.has_atom-is_true.result c.loop-done-test.true c.has_atom-is_true.ensures c.loop-done.invariant)
