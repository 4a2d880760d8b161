use Rattle.std.proofs.Common.{◌≡◌, ◌+◌, ◌≤◌, [], map, replicate, length, vec_len, vec_capacity}
use Rattle.hd_replay.proofs.starting.mailboxes_of.Given as goal

-- so many empty mailboxes, and room for the others
abbrev pub invariant-loop-worker : goal.invariant-loop-worker
invariant-loop-worker l = record {
  count : vec_len l.mailboxes ≡ l._worker;
  room : l.workers ≤ vec_capacity l.mailboxes;
  boxes : map (λ box. box.items) l.mailboxes.items ≡ replicate l._worker [];
}
