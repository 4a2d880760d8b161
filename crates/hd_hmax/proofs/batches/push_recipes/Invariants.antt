use Rattle.std.proofs.Common.{◌-◌, length}
use Rattle.hd_hmax.specs.Batches.{HasAdded}
use Rattle.hd_hmax.proofs.batches.push_recipes.Given as goal

-- the places so far
abbrev pub invariant-loop-index : goal.invariant-loop-index
invariant-loop-index l = HasAdded l.needs l.brings l.index l.fn.recipes.items l.recipes.items

abbrev pub decreases-loop-index : goal.decreases-loop-index
decreases-loop-index l = length l.brings - l.index
