use Rattle.std.proofs.Common.{inl, inr}
use Rattle.hd_judge.specs.Tables.{reached_in}
use Rattle.hd_judge.proofs.Leaving.{departs_left, departs_right}
use Rattle.hd_judge.proofs.comparison.compare.Goals as goal

pub returns-in-Departs : goal.returns-in-Departs
returns-in-Departs c =
    let d = rw c.in-Departs.is at c.in_ok-value.ensures in
    (departs_left (reached_in c.args.place.now).state.values c.args.objects.now c.args.said.now c.in-Departs.departure.part.now c.in-Departs.departure.value d, inl d)

pub returns-in-Departs-2 : goal.returns-in-Departs-2
returns-in-Departs-2 c =
    let left = rw c.in-Value.is at c.in_ok-value.ensures in
    let d = rw c.in-Departs-2.is at c.in_ok-value-2.ensures in
    (departs_right (reached_in c.args.place.now).state.values c.args.objects.now c.args.said.now c.in-Departs-2.departure.part.now c.in-Departs-2.departure.value d, inr (left.0, d))
