use Rattle.std.proofs.Common.{sym, arith}
use Rattle.hd_successors.specs.Marks.{IsFirstMark}
use Rattle.hd_base.specs.Bits.{bit_in}
use Rattle.hd_successors.proofs.Tests.{find_first, find_none}
use Rattle.hd_successors.proofs.marks.first_mark_below.Goals as goal

pub returns-in-None : goal.returns-in-None
returns-in-None c = sym (find_none (bit_in c.args.marks.now) c.args.count 0 c.args.from (λ m far lt. c.in-None.ensures m far))

pub returns-then-found-count : goal.returns-then-found-count
returns-then-found-count c =
    let first : IsFirstMark c.args.marks.now c.args.from c.in-Some.found = c.in-Some.ensures in
    sym (find_first (bit_in c.args.marks.now) c.args.count 0 c.args.from c.in-Some.found (omega arith) (omega arith) first.from_there first.is_marked_there first.none_before)

pub returns-else-found-count : goal.returns-else-found-count
returns-else-found-count c =
    let first : IsFirstMark c.args.marks.now c.args.from c.in-Some.found = c.in-Some.ensures in
    sym (find_none (bit_in c.args.marks.now) c.args.count 0 c.args.from (λ m far lt. first.none_before m far (omega (arith, lt))))
