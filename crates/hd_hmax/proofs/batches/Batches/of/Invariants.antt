use Rattle.std.proofs.Common.{◌≡◌, length}
use Rattle.hd_hmax.specs.Batches.{AreBatches}
use Rattle.hd_hmax.proofs.batches.Batches.of.Given as goal

-- the actions so far
abbrev pub invariant-loop-action : goal.invariant-loop-action
invariant-loop-action l = record {
  many : length l.recipes.items ≡ l.most;
  are : AreBatches l.needs l.brings l.prices l.action l.recipes.items l.rest.items;
}
