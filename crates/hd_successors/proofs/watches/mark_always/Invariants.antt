use Rattle.std.proofs.Common.{◌≡◌, ℕ, ◌&&◌, nat_lt, slice_get}
use Rattle.hd_successors.specs.Seeing.{is_always}
use Rattle.hd_base.specs.Bits.{bit_in}
use Rattle.hd_successors.proofs.watches.mark_always.Given as goal

abbrev pub invariant-loop-action : goal.invariant-loop-action
invariant-loop-action l = (i : ℕ) → bit_in l.marks i ≡ (is_always (slice_get l.watched i) && nat_lt i l.action)
