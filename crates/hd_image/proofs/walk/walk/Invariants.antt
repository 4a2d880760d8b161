use Rattle.std.proofs.Common.{◌≤◌, length, drop}
use Rattle.hd_image.specs.declared.header.TheConstants.{FIRST_GATE}
use Rattle.hd_image.specs.Walking.{HasWalked}
use Rattle.hd_image.proofs.walk.walk.Given as goal

abbrev pub invariant-loop-rest : goal.invariant-loop-rest
invariant-loop-rest l = record {
  within : length l.rest ≤ length l.content;
  walked : HasWalked l.version (drop FIRST_GATE l.content) l.rest l.entries.items;
}

abbrev pub decreases-loop-rest : goal.decreases-loop-rest
decreases-loop-rest l = length l.rest
