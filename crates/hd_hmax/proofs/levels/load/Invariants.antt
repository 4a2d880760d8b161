use Rattle.std.proofs.Common.{◌*◌, ◌+◌}
use Rattle.hd_hmax.proofs.Leveling.{AreLoaded}
use Rattle.hd_hmax.proofs.levels.load.Given as goal

-- the atoms so far
abbrev pub invariant-loop-number : goal.invariant-loop-number
invariant-loop-number g l = AreLoaded (g.G.Group.states l.group) l.atoms (8 * l.number) l.first.items

abbrev pub invariant-loop-index : goal.invariant-loop-index
invariant-loop-index g l = AreLoaded (g.G.Group.states l.group) l.atoms (8 * l.number + l.index) l.first.items

abbrev pub invariant-loop-atom : goal.invariant-loop-atom
invariant-loop-atom g l = AreLoaded (g.G.Group.states l.group) l.atoms l.atom l.first.items
