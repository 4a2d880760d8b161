use Rattle.hd_hmax.proofs.Leveling.{IsPaid}
use Rattle.hd_hmax.proofs.levels.bring_rest.Given as goal

-- the actions so far
abbrev pub invariant-loop-action : goal.invariant-loop-action
invariant-loop-action l = IsPaid l.rules.task.now l.rules.brings l.tables l.level l.fn.room.items l.rules.batches.rest.items l.action-index l.room.items
