use Rattle.std.proofs.Common.{ℕ, ◌<◌, get_or}
use Rattle.hd_hmax.proofs.rules.some_free.Given as goal

-- none of the actions so far costs nothing
abbrev pub invariant-loop-action : goal.invariant-loop-action
invariant-loop-action l = (q : ℕ) → q < l.action → 0 < get_or l.prices q 0
