use Rattle.std.proofs.Common.{◌+◌, length, Some, sym, ap, subst, arith, length-set}
use Rattle.hd_hmax.proofs.Bits.{bit-test, bit-test_fails}
use Rattle.hd_hmax.proofs.Giving.{Noted, noted, not_noted}
use Rattle.hd_hmax.proofs.words.note.Goals as goal
use Rattle.hd_hmax.proofs.words.note.Goals.{then-lanes-lane-eq1, else-lanes-lane-eq1}

pub loop-lane-preserved : goal.loop-lane-preserved
loop-lane-preserved c =
    let start = c.args.values.now in
    let lane = c.loop-lane.lane in
    let old = c.loop-lane.values in
    elim c.if-lanes-lane-eq1.branch [
      | then-lanes-lane-eq1 w ↦
          let long = c.if-lanes-lane-eq1.array_long in
          let same = ap length w.values-is in
          let kept = length-set old lane (Some c.args.value) in
          subst (Noted start c.args.lanes c.args.value (lane + 1)) (sym w.values-is)
          (noted start old c.args.lanes lane c.args.value (omega (arith, long, same, kept)) (bit-test c.args.lanes lane w.if-lanes-lane-eq1.true) c.loop-lane.invariant)
      | else-lanes-lane-eq1 w ↦
          subst (Noted start c.args.lanes c.args.value (lane + 1)) (sym w.values-is)
          (not_noted start old c.args.lanes lane c.args.value (bit-test_fails c.args.lanes lane w.if-lanes-lane-eq1.false) c.loop-lane.invariant)
    ]
