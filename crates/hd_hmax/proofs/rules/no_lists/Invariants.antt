use Rattle.std.proofs.Common.{◌≡◌, [], replicate}
use Rattle.hd_hmax.proofs.rules.no_lists.Given as goal

-- the lists so far
abbrev pub invariant-loop : goal.invariant-loop
invariant-loop l = l.lists.items ≡ replicate l.counter []
