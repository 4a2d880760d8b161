use Rattle.std.proofs.Common.{◌≡◌, ◌++◌, take}
use Rattle.hd_hmax.specs.Rules.{added_places}
use Rattle.hd_hmax.proofs.rules.push_added.Given as goal

-- the places so far
abbrev pub invariant-loop-atom : goal.invariant-loop-atom
invariant-loop-atom l = l.row.items ≡ l.fn.row.items ++ added_places l.atoms l.askers (take l.atom-index l.adds)
