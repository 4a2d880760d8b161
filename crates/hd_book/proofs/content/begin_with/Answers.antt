use Rattle.std.proofs.Common.{◌∙◌, sym, arith}
use Rattle.hd_book.proofs.Between.{begins_at, begins_at_not, begins_past}
use Rattle.hd_book.proofs.content.begin_with.Goals as goal

pub returns-then-number-count-clause-begins : goal.returns-then-number-count-clause-begins
returns-then-number-count-clause-begins c =
    let l = c.loop-kid in
    let past = c.if-number-count.true in
    let count = c.len-count.ensures.len in
    sym (l.invariant.begins ∙ begins_past c.args.kids.now c.args.entries.now.state.entries l.kid-index l.number c.loop-kid-test.true (omega (arith, past, count)))

pub returns-then-not-is_entry-clause-begins : goal.returns-then-not-is_entry-clause-begins
returns-then-not-is_entry-clause-begins c =
    let l = c.loop-kid in
    sym (l.invariant.begins ∙ begins_at_not c.args.kids.now c.args.entries.now.state.entries l.kid-index l.number _ c.loop-kid-test.true (sym c.is_entry.ensures.is_kid ∙ c.if-not-is_entry.true))

pub loop-kid-preserved : goal.loop-kid-preserved
loop-kid-preserved c =
    let l = c.loop-kid in
    let number = l.invariant.number in
    record {
      number = omega (arith, number);
      begins = l.invariant.begins ∙ begins_at c.args.kids.now c.args.entries.now.state.entries l.kid-index l.number _ c.loop-kid-test.true (sym c.is_entry.ensures.is_kid ∙ c.if-not-is_entry.false);
    }
