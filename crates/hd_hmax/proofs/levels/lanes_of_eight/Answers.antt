use Rattle.std.proofs.Common.{◌+◌, ◌-◌, ◌*◌, ◌==◌, get_or, slice_get, sym, ap, ◌∙◌, subst}
use Rattle.std.specs.Int.{bit_at}
use Rattle.hd_hmax.proofs.Leveling.{AreLanesOf, lane_next, bit_value, told_at}
use Rattle.hd_hmax.proofs.levels.lanes_of_eight.Goals as goal

pub loop-done-preserved : goal.loop-done-preserved
loop-done-preserved g c k h =
    let states = g.G.Group.states c.args.group.now in
    let count = c.count-count.result in
    let done = c.loop-done.done in
    let byte = c.eight_atoms.result in
    let word = get_or c.loop-done.words k 0 in
    subst (λ x. AreLanesOf states (8 * c.args.number + k) x count (done + 1)) (sym (c.put_eight.ensures k h ∙ ap (λ x. 2 * word + x) (bit_value byte k)))
    (lane_next states (8 * c.args.number + k) word count done (bit_at byte k == 1) c.loop-done-test.true
    (told_at (slice_get states (count - 1 - done)) byte k (8 * c.args.number) h c.eight_atoms.ensures)
    (c.loop-done.invariant k h))
