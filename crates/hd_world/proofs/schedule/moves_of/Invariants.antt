use Rattle.std.proofs.Common.{◌≡◌, length}
use Rattle.hd_world.specs.Schedule.{all_said}
use Rattle.hd_world.proofs.ScheduleLines.{IsReadTo}
use Rattle.hd_world.proofs.schedule.moves_of.Given as goal

abbrev pub invariant-loop-line : goal.invariant-loop-line
invariant-loop-line l = record {
  counted : l.number ≡ length l.yielded;
  read : IsReadTo (all_said l.text) (length l.yielded) l.moves.items;
}
