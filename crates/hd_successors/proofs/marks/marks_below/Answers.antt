use Rattle.std.proofs.Common.{◌∙◌, ◌+◌, sym, ap, arith}
use Rattle.std.proofs.Math.Facts.{Fits-of_lt}
use Rattle.hd_base.specs.Bits.{bit_in}
use Rattle.hd_successors.proofs.Tests.{found_within, left_from, left_all, left_next, left_none}
use Rattle.hd_successors.proofs.marks.marks_below.Goals as goal

pub loop-number-init : goal.loop-number-init
loop-number-init c = record {
  all = let all = left_all (bit_in c.args.marks.now) c.args.count 0 0 (omega arith) in omega (arith, all);
  few = omega arith;
  within = omega arith;
}

pub loop-number-smaller : goal.loop-number-smaller
loop-number-smaller c =
    let h = found_within (bit_in c.args.marks.now) c.args.count 0 c.loop-number.from c.in-Some.number (sym c.in-Some.ensures) in
    let far = h.0 in
    let lt = h.1 in
    omega (arith, far, lt)

pub overflow_add-from : goal.overflow_add-from
overflow_add-from c =
    let h = found_within (bit_in c.args.marks.now) c.args.count 0 c.loop-number.from c.in-Some.number (sym c.in-Some.ensures) in
    let lt = h.1 in
    let few = c.requires.few in
    Fits-of_lt (omega (arith, lt, few))

pub loop-number-preserved : goal.loop-number-preserved
loop-number-preserved c =
    let h = found_within (bit_in c.args.marks.now) c.args.count 0 c.loop-number.from c.in-Some.number (sym c.in-Some.ensures) in
    let far = h.0 in
    let lt = h.1 in
    let i = c.loop-number.invariant in
    let few = i.few in
    record {
      all =
          let next = left_next (bit_in c.args.marks.now) c.args.count 0 c.loop-number.from c.in-Some.number (sym c.in-Some.ensures) in
          let all = i.all in
          omega (arith, next, all);
      few = omega (arith, far, few);
      within = omega (arith, lt);
    }

pub returns : goal.returns
returns c =
    let none = left_none (bit_in c.args.marks.now) c.args.count 0 c.loop-number.from (sym c.in_default.ensures) in
    let all = c.loop-number.invariant.all in
    omega (arith, none, all)
