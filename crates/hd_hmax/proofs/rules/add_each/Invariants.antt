use Rattle.std.proofs.Common.{◌≡◌, ℕ, ◌+◌, ◌<◌, ◌==◌, cond, map, take, length}
use Rattle.hd_hmax.specs.Rules.{places, place, row, times}
use Rattle.hd_hmax.proofs.rules.add_each.Given as goal

-- the rule stands in the lists of the places so far
abbrev pub invariant-loop-literal : goal.invariant-loop-literal
invariant-loop-literal l = record {
  count : length l.lists.items ≡ length l.fn.lists.items;
  more : (p q : ℕ) → p < places l.atoms → times q (row l.lists.items p)
      ≡ times q (row l.fn.lists.items p) + cond (l.rule == q) (times p (map (place l.atoms) (take l.literal-index l.literals))) 0;
}
