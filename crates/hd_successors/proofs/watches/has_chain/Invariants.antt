use Rattle.std.proofs.Common.{◌≡◌, ℕ, ◌<◌, ◌≤◌, get_or}
use Rattle.hd_successors.proofs.watches.has_chain.Given as goal

-- no chain begins at the atoms so far
abbrev pub invariant-loop-atom : goal.invariant-loop-atom
invariant-loop-atom l = (k : ℕ) → l.first ≤ k → k < l.atom → get_or l.last k 0 ≡ 0
