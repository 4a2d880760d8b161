use Rattle.std.proofs.Common.{ℕ, ◌-◌, ◌≤◌, List, length}
use Rattle.hd_store.specs.MemoryDisk.{IsStarted}
use Rattle.hd_replay.proofs.Plays.{IsRestingAt}
use Rattle.hd_replay.proofs.replaying.play_all.Given as goal

-- nothing runs, and the disk is at this place of the moves
abbrev pub invariant-loop-at : goal.invariant-loop-at
invariant-loop-at l = record {
  starts : (content : List ℕ) × IsStarted l.held content;
  at : (first : List ℕ) → IsStarted l.fn.disk first → IsRestingAt l.task l.digest first l.moves l.at l.held;
  within : l.at ≤ length l.moves;
}

-- each turn makes a move at least
abbrev pub decreases-loop-at : goal.decreases-loop-at
decreases-loop-at l = length l.moves - l.at

abbrev pub ghosts-play_last : goal.ghosts-play_last
ghosts-play_last a = record { name = a.blank.name; parts = a.blank.parts }
