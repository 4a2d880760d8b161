use Rattle.std.proofs.Common.{◌≡◌, true, take}
use Rattle.hd_successors.specs.Watching.{asks_for}
use Rattle.hd_successors.proofs.watching.rarest.Given as goal

abbrev pub invariant-loop-literal : goal.invariant-loop-literal
invariant-loop-literal l = asks_for (take l.literal-index l.literals) l.watch ≡ true
