use Rattle.std.proofs.Common.{◌&&◌, get_or, sym, ap, ◌∙◌}
use Rattle.std.proofs.lemmas.List.Folds.{list_all_more}
use Rattle.hd_hmax.specs.Lanes.{is_set}
use Rattle.hd_hmax.proofs.Bits.{bit-and, bit-ones}
use Rattle.hd_hmax.proofs.words.ready.Goals as goal

pub loop-place-init : goal.loop-place-init
loop-place-init c = bit-ones

pub loop-place-preserved : goal.loop-place-preserved
loop-place-preserved c j h =
    let i = c.loop-place.place-index in
    let t = c.args.table.now in
    let ps = c.args.places.now in
    bit-and c.loop-place.lanes (get_or t (get_or ps i 0) 0) j
    ∙ (ap (λ b. b && is_set t (get_or ps i 0) j) (c.loop-place.invariant j h)
    ∙ sym (list_all_more (λ p. is_set t p j) ps i 0 c.loop-place-test.true))
