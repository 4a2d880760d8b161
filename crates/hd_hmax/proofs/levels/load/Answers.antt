use Rattle.std.proofs.Common.{◌≡◌, ◌+◌, ◌*◌, get_or, set, subst, arith}
use Rattle.std.specs.Int.{w64, bit_not}
use Rattle.std.proofs.lemmas.Option.{slice_get_within}
use Rattle.hd_hmax.proofs.Leveling.{AreLoaded, loaded_next}
use Rattle.hd_hmax.proofs.levels.load.Goals as goal

pub loop-index-preserved : goal.loop-index-preserved
loop-index-preserved g c =
    let states = g.G.Group.states c.args.group.now in
    let few = c.requires.few in
    let n = c.args.atoms in
    let number = c.loop-number.number in
    let index = c.loop-index.index in
    let word = get_or c.lanes_of_eight-words.result index 0 in
    let inside = c.loop-index-test.true in
    let below = c.loop-number-test.true in
    let fits = c.loop-index-test.element_fits.fits in
    let first = c.loop-index.first.items in
    let at = 8 * number + index in
    let next : at + 1 ≡ 8 * number + (index + 1) = omega arith in
    subst (λ x. AreLoaded states n x (set (set first at word) (n + 1 + at) (bit_not w64 word))) next
    (loaded_next states n at word c.loop-index.first.items c.loop-index.invariant (omega (arith, inside, below)) (omega (arith, fits))
    (λ j s is. let within = slice_get_within states j s is in omega (arith, within, few)) (λ j s is. c.lanes_of_eight-words.ensures index j s inside is))

pub loop-atom-preserved : goal.loop-atom-preserved
loop-atom-preserved g c =
    let states = g.G.Group.states c.args.group.now in
    let few = c.requires.few in
    let fits = c.lanes_of-lanes.type_inv in
    loaded_next states c.args.atoms c.loop-atom.atom c.lanes_of-lanes.result c.loop-atom.first.items c.loop-atom.invariant (let h = c.loop-atom-test.true in omega (arith, h)) (omega (arith, fits))
    (λ j s is. let inside = slice_get_within states j s is in omega (arith, inside, few)) c.lanes_of-lanes.ensures
