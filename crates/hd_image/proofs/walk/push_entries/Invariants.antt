use Rattle.std.proofs.Common.{◌≤◌, ◌-◌, length}
use Rattle.hd_image.specs.Walking.{AreWhole, HasAdded}
use Rattle.hd_image.proofs.walk.push_entries.Given as goal

abbrev pub invariant-loop-rest : goal.invariant-loop-rest
invariant-loop-rest l = record {
  whole : AreWhole l.version l.rest;
  within : length l.rest ≤ length l.bytes;
  added : HasAdded l.version (l.end - length l.bytes) l.bytes l.rest l.fn.entries.items l.entries.items;
}

abbrev pub decreases-loop-rest : goal.decreases-loop-rest
decreases-loop-rest l = length l.rest
