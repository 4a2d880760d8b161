use Rattle.std.proofs.Common.{◌≡◌, ◌+◌, ◌*◌, ◌<◌, ◌≤◌, ◌^◌, ◌++◌, length, vec_len, vec_capacity}
use Rattle.hd_image.specs.Image.{entries_of, entry_width}
use Rattle.hd_journal.proofs.append.push_entries.Given as goal

-- the entries pushed so far and those that are left, and room for these
abbrev pub invariant-loop-rest : goal.invariant-loop-rest
invariant-loop-rest l = record {
  room : vec_len l.entries + length l.rest ≤ vec_capacity l.entries;
  width : l.width ≡ entry_width l.fn.version;
  narrow : l.width ≤ 9;
  places : l.at + 9 * length l.rest < 2 ^ 64;
  entries : l.entries.items ++ entries_of l.fn.version l.at l.rest ≡ l.fn.entries.items ++ entries_of l.fn.version l.first l.kids;
}

abbrev pub decreases-loop-rest : goal.decreases-loop-rest
decreases-loop-rest l = length l.rest
