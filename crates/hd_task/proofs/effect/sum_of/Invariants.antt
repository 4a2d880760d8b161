use Rattle.std.proofs.Common.{◌≡◌, true, take, fold, pos, neg_ℤ, ◌≤ℤ◌, ◌+◌, ◌*◌, ◌^◌}
use Rattle.std.specs.List.{list_all}
use Rattle.hd_base.specs.declared.range.TheConstants.{RANGE_END}
use Rattle.hd_task.specs.Effects.{term_stays, with_term}
use Rattle.hd_task.proofs.effect.sum_of.Given as goal

-- the terms so far stay in the range, and `sum` is their exact sum, which is far from the ends of
-- 128 bits
abbrev pub invariant-loop-term : goal.invariant-loop-term
invariant-loop-term g l = record {
  stay : list_all (term_stays (g.R.Reads.seen l.state).fluents) (take l.term-index l.terms) ≡ true;
  sum : l.sum ≡ fold (with_term (g.R.Reads.seen l.state).fluents) l.first (take l.term-index l.terms);
  low : neg_ℤ (pos (2 ^ 63 + RANGE_END * l.term-index)) ≤ℤ l.sum;
  high : l.sum ≤ℤ pos (2 ^ 63 + RANGE_END * l.term-index);
}
