use Rattle.std.proofs.Common.{◌≡◌, ℕ, ◌||◌, ◌&&◌, take}
use Rattle.hd_hmax.specs.Lanes.{bit, is_set, is_among}
use Rattle.hd_hmax.proofs.words.give.Given as goal

-- the places so far are given
abbrev pub invariant-loop-place : goal.invariant-loop-place
invariant-loop-place l = (p j : ℕ) → is_set l.table p j ≡ (is_set l.fn.table p j || (is_among (take l.place-index l.places) p && bit l.lanes j))
