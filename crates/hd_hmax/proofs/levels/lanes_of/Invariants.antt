use Rattle.hd_hmax.proofs.Leveling.{AreLanesOf}
use Rattle.hd_hmax.proofs.levels.lanes_of.Given as goal

-- the lanes of the states so far, from the last one back
abbrev pub invariant-loop-done : goal.invariant-loop-done
invariant-loop-done g l = AreLanesOf (g.G.Group.states l.group) l.atom l.lanes l.count l.done
