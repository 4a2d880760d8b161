use Rattle.std.proofs.Common.{◌≡◌, ◌+◌, ◌-◌, ◌≤◌, ◌++◌, vec_len, vec_capacity}
use Rattle.hd_book.specs.Groups.{entries_between}
use Rattle.hd_book.proofs.content.push_entries.Given as goal

-- the successors pushed so far, and room for those that are left
abbrev pub invariant-loop-number : goal.invariant-loop-number
invariant-loop-number l = record {
  kids : l.kids.items ≡ l.fn.kids.items ++ entries_between l.entries.state.entries l.first l.number;
  room : vec_len l.kids + (l.end - l.number) ≤ vec_capacity l.kids;
}
