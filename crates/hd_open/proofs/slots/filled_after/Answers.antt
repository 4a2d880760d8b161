use Rattle.std.proofs.Common.{arith}
use Rattle.hd_open.proofs.Marking.{place_tested, place_failed}
use Rattle.hd_open.proofs.slots.filled_after.Goals as goal
use Rattle.hd_open.proofs.slots.filled_after.Goals.{then-is_marked+else-left-eq0, else-is_marked}

pub loop-at-preserved : goal.loop-at-preserved
loop-at-preserved g c =
    elim c.if-is_marked.branch [
      | then-is_marked+else-left-eq0 w ↦
          let more = place_tested c.args.slots.now c.args.counts.now.marks.items c.as_slice.result.now c.loop-at.at c.is_marked.result c.requires.marked
          c.as_slice.ensures.value c.is_marked.ensures w.if-is_marked.true in
          omega arith
      | else-is_marked w ↦
          let same = place_failed c.args.slots.now c.args.counts.now.marks.items c.as_slice.result.now c.loop-at.at c.is_marked.result c.requires.marked
          c.as_slice.ensures.value c.is_marked.ensures w.if-is_marked.false in
          omega arith
    ]
