use Rattle.std.proofs.Common.{◌≡◌, ℕ, ◌<◌, ◌≤◌, length, get_or, max, false}
use Rattle.std.specs.Prelude.{◌&&◌, ◌||◌, nat_le, nat_lt}
use Rattle.hd_store.proofs.platter.mark.Given as goal

abbrev pub invariant-loop-place : goal.invariant-loop-place
invariant-loop-place l = record {
  reached : l.place ≤ max l.from l.to;
  marked : (k : ℕ) → k < length l.marks → get_or l.marks k false ≡ ((nat_le l.from k && nat_lt k l.place) || get_or l.initial.marks k false);
}
