use Rattle.std.proofs.Common.{ℕ, ◌<◌}
use Rattle.hd_hmax.specs.Lanes.{IsShut}
use Rattle.hd_hmax.proofs.levels.is_stuck.Given as goal

-- the actions so far bring nothing more about
abbrev pub invariant-loop-action : goal.invariant-loop-action
invariant-loop-action l = (q j : ℕ) → j < 64 → q < l.action → IsShut l.rules.task.now l.rules.brings q l.table l.table j
