use Rattle.std.proofs.Common.{◌<◌, length, arith}
use Rattle.std.proofs.lemmas.List.Elements.{All-get_or}
use Rattle.hd_hmax.proofs.Giving.{given_next}
use Rattle.hd_hmax.proofs.words.give.Goals as goal

pub loop-place-preserved : goal.loop-place-preserved
loop-place-preserved c =
    let n = length c.args.table.now in
    let i = c.loop-place.place-index in
    let lt = c.loop-place-test.true in
    let within = All-get_or (λ p. p < n) c.args.places.now i 0 lt c.requires in
    let same = c.loop-place.auto.table in
    given_next c.args.table.now c.loop-place.table c.args.places.now i c.args.lanes lt (omega (arith, within, same)) c.loop-place.invariant
