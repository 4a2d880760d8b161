use Rattle.std.proofs.Common.{◌≡◌, ℕ, ◌*◌, ◌||◌, ◌&&◌, length, slice_get}
use Rattle.hd_task.specs.Conditions.{has_atom}
use Rattle.hd_successors.specs.Seeing.{watches_one, other_passes}
use Rattle.hd_base.specs.Bits.{bit_in}
use Rattle.hd_successors.proofs.Rows.{passing_below}
use Rattle.hd_successors.proofs.watches.Watches.mark_seen.Given as goal

-- the watchers of the true atoms in the bytes so far are marked, where they see the other one
abbrev pub invariant-loop-place : goal.invariant-loop-place
invariant-loop-place l = (i : ℕ) → bit_in l.marks i
    ≡ ((watches_one (passing_below (length l.self.last) (has_atom l.state) (8 * l.place)) (slice_get l.self.watched i)
    && other_passes (has_atom l.state) (slice_get l.self.watched i))
    || bit_in l.initial.marks i)
