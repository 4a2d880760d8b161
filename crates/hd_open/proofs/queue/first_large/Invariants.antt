use Rattle.std.proofs.Common.{◌≡◌, ℕ, true, length}
use Rattle.std.specs.BTreeSet.{contains}
use Rattle.hd_open.specs.Marks.{slot_bit}
use Rattle.hd_open.specs.Queue.{entry_cmp}
use Rattle.hd_open.proofs.queue.first_large.Given as goal

abbrev pub invariant-loop-total : goal.invariant-loop-total
invariant-loop-total l =
    ((t k : ℕ) → slot_bit l.words k ≡ 1 → contains entry_cmp l.initial.large (t, k) ≡ true → contains entry_cmp l.large (t, k) ≡ true)
    × ((t k : ℕ) → contains entry_cmp l.large (t, k) ≡ true → contains entry_cmp l.initial.large (t, k) ≡ true)

abbrev pub decreases-loop-total : goal.decreases-loop-total
decreases-loop-total l = length l.large.keys
