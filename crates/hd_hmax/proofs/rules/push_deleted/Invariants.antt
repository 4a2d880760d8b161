use Rattle.std.proofs.Common.{◌≡◌, ◌++◌, take}
use Rattle.hd_hmax.specs.Rules.{deleted_places}
use Rattle.hd_hmax.proofs.rules.push_deleted.Given as goal

-- the places of the negations so far
abbrev pub invariant-loop-atom : goal.invariant-loop-atom
invariant-loop-atom l = l.row.items ≡ l.fn.row.items ++ deleted_places l.atoms l.askers l.adds (take l.atom-index l.deletes)
