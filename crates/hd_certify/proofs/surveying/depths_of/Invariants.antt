use Rattle.std.proofs.Common.{◌≡◌, length, map, take}
use Rattle.hd_entries.specs.Settling.{expansions}
use Rattle.hd_certify.proofs.surveying.depths_of.Given as goal

-- the lengths so far
abbrev pub invariant-loop-number : goal.invariant-loop-number
invariant-loop-number l = record { depths : l.depths.items ≡ map length (take l.number (expansions l.entries.state)) }
