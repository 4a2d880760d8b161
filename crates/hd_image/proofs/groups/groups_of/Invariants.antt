use Rattle.std.proofs.Common.{◌≡◌, ◌+◌, ◌≤◌, drop, None}
use Rattle.hd_image.specs.Groups.{count_groups}
use Rattle.hd_image.proofs.groups.groups_of.Given as goal

-- the groups so far, and those of the entries that are left
abbrev pub invariant-loop-entry : goal.invariant-loop-entry
invariant-loop-entry l = record {
  few : l.groups ≤ l.entry-index;
  count : count_groups l.width None l.entries ≡ l.groups + count_groups l.width l.last (drop l.entry-index l.entries);
}
