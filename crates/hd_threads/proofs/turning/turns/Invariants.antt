use Rattle.std.proofs.Common.{◌≤◌}
use Rattle.hd_threads.specs.Placing.{IsBackAt}
use Rattle.hd_threads.specs.Turning.{kids_held}
use Rattle.hd_threads.proofs.turning.turns.Given as goal

-- the worker is at the desk, with room for what its tickets release
abbrev pub invariant-loop-turn : goal.invariant-loop-turn
invariant-loop-turn g l = record {
  back : IsBackAt l.desk l.fn.place l.place;
  room : kids_held l.progress ≤ l.place.worker.room;
}
