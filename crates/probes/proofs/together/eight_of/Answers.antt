use Rattle.std.proofs.Common.{◌+◌, ◌-◌, ◌*◌, Bool, false, List, get_or, sym, ap, subst}
use Rattle.probes.proofs.Eights.{IsRead, read_next}
use Rattle.probes.proofs.together.eight_of.Goals as goal

pub loop-done-preserved : goal.loop-done-preserved
loop-done-preserved c =
    let s = c.args.state.now in
    let from = 8 * c.args.number in
    let byte = c.loop-done.byte in
    let done = c.loop-done.done in
    subst (λ x. IsRead s from (2 * byte + x) (done + 1)) (sym c.from.ensures)
    (read_next s from byte done (get_or c.as_slice.result.now (from + (7 - done)) false) c.loop-done-test.true
    (ap (λ (xs : List Bool). get_or xs (from + (7 - done)) false) c.as_slice.ensures) c.loop-done.invariant)
