use Rattle.std.proofs.Common.{◌≡◌, ◌++◌, map, take}
use Rattle.hd_hmax.specs.Rules.{place}
use Rattle.hd_hmax.proofs.rules.push_places.Given as goal

-- the places of the literals so far
abbrev pub invariant-loop-literal : goal.invariant-loop-literal
invariant-loop-literal l = l.row.items ≡ l.fn.row.items ++ map (place l.atoms) (take l.literal-index l.literals)
