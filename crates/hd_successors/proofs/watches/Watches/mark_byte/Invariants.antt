use Rattle.std.proofs.Common.{◌≡◌, ℕ, ◌+◌, ◌-◌, ◌≤◌, ◌||◌, ◌&&◌, length, slice_get}
use Rattle.hd_task.specs.Conditions.{has_atom}
use Rattle.hd_successors.specs.Seeing.{watches_one, other_passes, is_in_byte}
use Rattle.hd_base.specs.Bits.{bit_in}
use Rattle.hd_successors.proofs.Rows.{passing_below}
use Rattle.hd_successors.proofs.watches.Watches.mark_byte.Given as goal

-- the watchers of the byte's first atoms are marked, where they see the other one
abbrev pub invariant-loop-bit : goal.invariant-loop-bit
invariant-loop-bit l = record {
  within : l.from ≤ 8;
  marks : (i : ℕ) → bit_in l.marks i
      ≡ ((watches_one (passing_below (length l.self.last) (is_in_byte l.byte l.base) (l.base + l.from)) (slice_get l.self.watched i)
      && other_passes (has_atom l.state) (slice_get l.self.watched i))
      || bit_in l.initial.marks i);
}

abbrev pub decreases-loop-bit : goal.decreases-loop-bit
decreases-loop-bit l = 8 - l.from
