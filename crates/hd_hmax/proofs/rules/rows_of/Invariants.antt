use Rattle.std.proofs.Common.{◌≡◌, take}
use Rattle.hd_hmax.proofs.rules.rows_of.Given as goal

-- the rows so far
abbrev pub invariant-loop-list : goal.invariant-loop-list
invariant-loop-list l = l.rows ≡ take l.list-index l.lists
