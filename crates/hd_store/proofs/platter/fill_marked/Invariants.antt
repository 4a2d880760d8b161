use Rattle.std.proofs.Common.{◌≡◌, ℕ, ◌<◌, length, get_or, false}
use Rattle.std.specs.Prelude.{◌&&◌, nat_lt, if◌then◌else◌}
use Rattle.hd_store.proofs.platter.fill_marked.Given as goal

abbrev pub invariant-loop-place : goal.invariant-loop-place
invariant-loop-place l =
    (k : ℕ) → k < length l.bytes
    → get_or l.bytes k 0 ≡ (if nat_lt k l.place && get_or l.marks k false then l.fill else get_or l.initial.bytes k 0)
