use Rattle.std.proofs.Common.{◌≡◌, ◌+◌, ◌≤◌, drop, length}
use Rattle.std.specs.Prelude.{flat_map}
use Rattle.hd_task.specs.declared.plan.TheConstants.{ROOT_PARENT}
use Rattle.hd_entries.specs.Settling.{entry_of}
use Rattle.hd_entries.specs.Growing.{successor_count, posted_all}
use Rattle.hd_entries.proofs.settling.post_all.Given as goal

-- what is left to post, and room for it
abbrev pub invariant-loop-outcome : goal.invariant-loop-outcome
invariant-loop-outcome l = record {
  left : posted_all l.kids (drop l.outcome-index l.outcomes) ≡ posted_all l.fn.kids l.outcomes;
  entry_room : length (flat_map entry_of (drop l.outcome-index l.outcomes)) ≤ l.kids.entry_room;
  kid_room : successor_count (drop l.outcome-index l.outcomes) ≤ l.kids.kid_room;
  few : l.kids.entries + length (flat_map entry_of (drop l.outcome-index l.outcomes)) ≤ ROOT_PARENT;
}
