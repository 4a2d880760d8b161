use Rattle.std.proofs.Common.{refl, arith}
use Rattle.std.proofs.Math.Facts.{Fits-lt-pow}
use Rattle.hd_successors.proofs.Bits.{first_in_row, none_more, none_left}
use Rattle.hd_successors.proofs.marks.first_mark_in.Goals as goal

pub returns-then-word-ne0 : goal.returns-then-word-ne0
returns-then-word-ne0 c =
    first_in_row c.args.marks.now c.args.place c.loop-at.at _ refl (Fits-lt-pow (c.type_inv.marks c.loop-at.at)) (omega arith) c.loop-at.invariant.behind c.loop-at.invariant.none

pub loop-at-preserved : goal.loop-at-preserved
loop-at-preserved c = record {
  behind = omega arith;
  none = none_more c.args.marks.now c.args.place c.loop-at.at (omega arith) c.loop-at.invariant.none;
}

pub returns : goal.returns
returns c = none_left c.args.marks.now c.args.place c.loop-at.at (omega arith) c.loop-at.invariant.none
