use Rattle.std.proofs.Common.{◌≡◌, ◌+◌, ◌-◌, ◌≤◌, length, filter}
use Rattle.std.specs.List.{range_with_len}
use Rattle.hd_base.specs.Bits.{bit_in}
use Rattle.hd_successors.proofs.Tests.{left_from}
use Rattle.hd_successors.proofs.marks.marks_below.Given as goal

-- what is found, and what is left, are all
abbrev pub invariant-loop-number : goal.invariant-loop-number
invariant-loop-number l = record {
  all : l.found + left_from (bit_in l.marks) l.count 0 l.from ≡ length (filter (bit_in l.marks) (range_with_len 0 l.count));
  few : l.found ≤ l.from;
  within : l.from ≤ l.count;
}

-- the numbers that are left
abbrev pub decreases-loop-number : goal.decreases-loop-number
decreases-loop-number l = l.count - l.from
