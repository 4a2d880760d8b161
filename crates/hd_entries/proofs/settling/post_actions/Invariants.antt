use Rattle.std.proofs.Common.{◌≡◌, ℕ, ◌+◌, ◌<◌, ◌≤◌, drop, length, get_or}
use Rattle.std.specs.List.{fold}
use Rattle.hd_tables.specs.Kids.{ComesAfter, with_kid}
use Rattle.hd_entries.specs.Growing.{with_kids}
use Rattle.hd_entries.proofs.settling.post_actions.Given as goal

-- what is left to post, room for it, and that it may be posted
abbrev pub invariant-loop-number : goal.invariant-loop-number
invariant-loop-number l = record {
  left : fold with_kid l.kids (drop l.number l.actions) ≡ with_kids l.fn.kids l.actions;
  room : length l.actions ≤ l.kids.kid_room + l.number;
  entered : l.kids.entries ≡ l.fn.kids.entries + 1;
  after : (j : ℕ) → l.number ≤ j → j < length l.actions → ComesAfter l.kids.kids l.fn.kids.entries (get_or l.actions j 0);
}
