use Rattle.std.proofs.Common.{◌≡◌, ◌≤◌, [], length, take, drop}
use Rattle.hd_entries.specs.Admitting.{first_wrong, marks_after, with_marks}
use Rattle.hd_entries.specs.Undoing.{MarksAll}
use Rattle.hd_entries.specs.Holding.{state_with, HasKids}
use Rattle.hd_entries.proofs.expanded.ExpandedPlans.settle_all.Given as goal

-- the successors of the outcomes so far are settled
abbrev pub invariant-loop-number : goal.invariant-loop-number
invariant-loop-number l = record {
  posts : HasKids l.self.task.now l.self.entries.items l.kids;
  first : first_wrong (state_with l.self l.fn.kids.marks) [] l.outcomes ≡ first_wrong (state_with l.self l.kids.marks) (take l.number l.outcomes) (drop l.number l.outcomes);
  marks : marks_after (state_with l.self l.fn.kids.marks) l.outcomes ≡ marks_after (state_with l.self l.kids.marks) (drop l.number l.outcomes);
  same : l.kids ≡ with_marks l.fn.kids l.kids.marks;
  all : MarksAll l.self l.fn.kids l.outcomes l.number l.kids;
}

-- those of the outcomes that are left are settled
abbrev pub invariant-loop-left : goal.invariant-loop-left
invariant-loop-left l = record {
  posts : HasKids l.self.task.now l.self.entries.items l.kids;
  within : l.left ≤ length l.outcomes;
  all : MarksAll l.self l.fn.kids l.outcomes l.left l.kids;
}

abbrev pub decreases-loop-left : goal.decreases-loop-left
decreases-loop-left l = l.left
