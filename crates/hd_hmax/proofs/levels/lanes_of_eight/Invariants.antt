use Rattle.std.proofs.Common.{ℕ, ◌<◌, ◌+◌, ◌*◌, get_or}
use Rattle.hd_hmax.proofs.Leveling.{AreLanesOf}
use Rattle.hd_hmax.proofs.levels.lanes_of_eight.Given as goal

-- the lanes of the states so far, from the last one back
abbrev pub invariant-loop-done : goal.invariant-loop-done
invariant-loop-done g l = (k : ℕ) → k < 8 → AreLanesOf (g.G.Group.states l.group) (8 * l.number + k) (get_or l.words k 0) l.count l.done
