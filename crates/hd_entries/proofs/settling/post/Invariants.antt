use Rattle.std.proofs.Common.{◌≡◌, ℕ, ◌+◌, ◌<◌, ◌≤◌, drop, length, get_or}
use Rattle.std.specs.List.{fold}
use Rattle.hd_tables.specs.Kids.{ComesAfter, with_kid}
use Rattle.hd_entries.specs.Growing.{actions_of, with_kids}
use Rattle.hd_entries.proofs.settling.post.Given as goal

-- what is left to post, room for it, and that it may be posted
abbrev pub invariant-loop-child : goal.invariant-loop-child
invariant-loop-child l = record {
  left : fold with_kid l.kids (actions_of (drop l.child-index l.children)) ≡ with_kids l.fn.kids (actions_of l.children);
  room : length l.children ≤ l.kids.kid_room + l.child-index;
  entered : l.kids.entries ≡ l.fn.kids.entries + 1;
  after : (j : ℕ) → l.child-index ≤ j → j < length l.children → ComesAfter l.kids.kids l.fn.kids.entries (get_or (actions_of l.children) j 0);
}
