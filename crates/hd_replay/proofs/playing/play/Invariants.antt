use Rattle.hd_task.specs.declared.task.Task.{Task}
use Rattle.hd_world.specs.Stops.{File}
use Rattle.hd_world.specs.World.{Running}
use Rattle.hd_replay.specs.Journals.{Runs}
use Rattle.hd_replay.proofs.Plays.{IsAt}
use Rattle.hd_replay.proofs.playing.play.Given as goal

-- a run goes on, which is at this place of the moves
abbrev pub invariant-loop-number : goal.invariant-loop-number
invariant-loop-number g l = record {
  runs : (t : Task) × (f : File) × Runs t l.digest f l.journal l.run;
  at :
      (t : Task) (f : File) → Runs t l.digest f l.fn.journal l.fn.run
      → (now : File) × Runs t l.digest now l.journal l.run × IsAt t l.digest (Running f l.fn.run) l.moves l.number (Running now l.run);
}
