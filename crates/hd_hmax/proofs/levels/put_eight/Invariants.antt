use Rattle.std.proofs.Common.{◌≡◌, ℕ, ◌<◌, ◌≤◌, ◌+◌, ◌*◌, get_or}
use Rattle.std.specs.Int.{bit_at}
use Rattle.hd_hmax.proofs.levels.put_eight.Given as goal

-- the words so far have a bit more
abbrev pub invariant-loop-index : goal.invariant-loop-index
invariant-loop-index l = record {
  done : (k : ℕ) → k < 8 → k < l.index → get_or l.words k 0 ≡ 2 * get_or l.fn.words k 0 + bit_at l.byte k;
  rest : (k : ℕ) → k < 8 → l.index ≤ k → get_or l.words k 0 ≡ get_or l.fn.words k 0;
}
