use Rattle.std.proofs.Common.{◌≡◌, length}
use Rattle.hd_lifted.specs.Types.{ancestor}
use Rattle.hd_lifted.specs.Jumps.{depth_in, depth_of, AreFilling, StaysRight}
use Rattle.hd_lifted.proofs.Jumps.{IsPath}
use Rattle.hd_lifted.proofs.shortcuts.fill_from.Given as goal

-- the types that wait lead from the first one to the one so far
abbrev pub invariant-loop-kind : goal.invariant-loop-kind
invariant-loop-kind l = record {
  path : IsPath l.parents l.waiting.items l.start;
  leads : l.kind ≡ ancestor l.parents (length l.waiting.items) l.start;
}

abbrev pub decreases-loop-kind : goal.decreases-loop-kind
decreases-loop-kind l = depth_in l.parents l.kind

-- the type to which those that still wait lead has its depth
abbrev pub invariant-loop-lower : goal.invariant-loop-lower
invariant-loop-lower l = record {
  path : IsPath l.parents l.waiting.items l.start;
  filling : AreFilling l.parents l.depths l.jumps;
  filled : depth_of l.depths (ancestor l.parents (length l.waiting.items) l.start) ≡ depth_in l.parents (ancestor l.parents (length l.waiting.items) l.start);
  kept : StaysRight l.parents l.fn.depths l.depths;
}

abbrev pub decreases-loop-lower : goal.decreases-loop-lower
decreases-loop-lower l = goal.left-loop-lower l
