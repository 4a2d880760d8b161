use Rattle.std.proofs.Common.{◌≡◌, ℕ, ◌<◌, take}
use Rattle.hd_hmax.specs.Lanes.{bit, has_all}
use Rattle.hd_hmax.proofs.words.ready.Given as goal

-- the lanes that have the places so far
abbrev pub invariant-loop-place : goal.invariant-loop-place
invariant-loop-place l = (j : ℕ) → j < 64 → bit l.lanes j ≡ has_all l.table j (take l.place-index l.places)
