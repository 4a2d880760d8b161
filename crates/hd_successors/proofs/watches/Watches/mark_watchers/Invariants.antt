use Rattle.std.proofs.Common.{◌≡◌, ℕ, ◌≤◌, length, slice_get}
use Rattle.hd_task.specs.Conditions.{has_atom}
use Rattle.hd_successors.specs.Chains.{last_watcher}
use Rattle.hd_successors.specs.Seeing.{other_passes}
use Rattle.hd_base.specs.Bits.{bit_in}
use Rattle.hd_successors.proofs.Chaining.{marked_from}
use Rattle.hd_successors.proofs.watches.Watches.mark_watchers.Given as goal

-- the watchers from `left` on are marked where they see the other atom, and none below it
abbrev pub invariant-loop-left : goal.invariant-loop-left
invariant-loop-left l = record {
  end : l.left ≡ last_watcher l.self.watched l.atom l.left;
  within : l.left ≤ length l.self.watched;
  marks : (i : ℕ) → bit_in l.marks i
      ≡ marked_from l.self.watched l.atom l.left (λ k. other_passes (has_atom l.state) (slice_get l.self.watched k)) (bit_in l.initial.marks i) i;
}

abbrev pub decreases-loop-left : goal.decreases-loop-left
decreases-loop-left l = l.left
