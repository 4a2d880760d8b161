use Rattle.std.proofs.Common.{◌+◌}
use Rattle.hd_lifted.specs.Jumps.{AreFilling}
use Rattle.hd_lifted.proofs.Jumps.{AreFilledBelow}
use Rattle.hd_lifted.proofs.shortcuts.Shortcuts.new.Given as goal

abbrev pub invariant-loop-before : goal.invariant-loop-before
invariant-loop-before l = record {
  filling : AreFilling l.parents l.depths.items l.jumps.items;
  filled : AreFilledBelow l.parents l.depths.items (l.before + 1);
}
