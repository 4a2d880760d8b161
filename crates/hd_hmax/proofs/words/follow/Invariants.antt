use Rattle.std.proofs.Common.{◌≡◌, ℕ, ◌<◌, ◌||◌, take}
use Rattle.hd_hmax.specs.Lanes.{is_set}
use Rattle.hd_hmax.specs.Batches.{is_given}
use Rattle.hd_hmax.proofs.words.follow.Given as goal

-- the recipes so far are followed
abbrev pub invariant-loop-recipe : goal.invariant-loop-recipe
invariant-loop-recipe l = (p j : ℕ) → j < 64 → is_set l.table p j ≡ (is_set l.fn.table p j || is_given (take l.recipe-index l.recipes) l.old p j)
