use Rattle.std.proofs.Common.{refl, arith}
use Rattle.std.proofs.Math.Facts.{Fits-lt-pow}
use Rattle.hd_successors.proofs.Bits.{first_in_word, none_past, first_behind}
use Rattle.hd_successors.proofs.marks.first_mark.Goals as goal

pub returns-then-place-marks : goal.returns-then-place-marks
returns-then-place-marks c = λ m far. none_past c.args.marks.now m (omega (arith, far))

pub returns-then-word-ne0 : goal.returns-then-word-ne0
returns-then-word-ne0 c = first_in_word c.args.marks.now c.args.from _ refl (Fits-lt-pow (c.type_inv.marks _)) (omega arith)

pub returns : goal.returns
returns c = first_behind c.args.marks.now c.args.from _ c.first_mark_in.result refl (omega arith) c.first_mark_in.ensures
