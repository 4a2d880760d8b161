use Rattle.std.proofs.Common.{◌≡◌, ◌+◌, drop}
use Rattle.hd_book.specs.Groups.{begins_with}
use Rattle.hd_book.proofs.content.begin_with.Given as goal

-- the successors that are left, and where they are to stand
abbrev pub invariant-loop-kid : goal.invariant-loop-kid
invariant-loop-kid l = record {
  number : l.number ≡ l.first + l.kid-index;
  begins : begins_with l.kids (drop l.first l.entries.state.entries) ≡ begins_with (drop l.kid-index l.kids) (drop l.number l.entries.state.entries);
}
