use Rattle.std.proofs.Common.{arith}
use Rattle.hd_open.proofs.Marking.{ones_before}
use Rattle.hd_open.proofs.marks.marked_before.Goals as goal

pub returns-in-Some : goal.returns-in-Some
returns-in-Some c =
    ones_before c.args.words.now c.args.at c.in-Some.word.now (grind (arith, c.in-Some.ensures.lookup.0)) c.in-Some.ensures.lookup.1
