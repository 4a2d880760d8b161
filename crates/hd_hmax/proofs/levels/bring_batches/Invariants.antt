use Rattle.hd_hmax.proofs.Following.{IsFollowed}
use Rattle.hd_hmax.proofs.levels.bring_batches.Given as goal

-- the prices so far
abbrev pub invariant-loop-price : goal.invariant-loop-price
invariant-loop-price l = IsFollowed l.rules.task.now l.rules.batches.recipes.items l.tables l.level l.fn.room.items l.price l.room.items
