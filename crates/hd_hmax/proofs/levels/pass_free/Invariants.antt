use Rattle.hd_hmax.proofs.Leveling.{IsFreed}
use Rattle.hd_hmax.proofs.levels.pass_free.Given as goal

-- the actions so far
abbrev pub invariant-loop-action : goal.invariant-loop-action
invariant-loop-action l = IsFreed l.rules.task.now l.rules.brings l.fn.room.items l.action l.room.items l.still
