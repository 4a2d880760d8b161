use Rattle.std.proofs.Common.{◌≡◌, ℕ, ◌*◌, ◌-◌, ◌<◌, ◌≤◌, false, length}
use Rattle.hd_base.specs.Bits.{bit_in}
use Rattle.hd_successors.proofs.marks.first_mark_in.Given as goal

-- nothing is marked in the words before
abbrev pub invariant-loop-at : goal.invariant-loop-at
invariant-loop-at l = record {
  behind : l.place ≤ l.at;
  none : (m : ℕ) → 64 * l.place ≤ m → m < 64 * l.at → bit_in l.marks m ≡ false;
}

abbrev pub decreases-loop-at : goal.decreases-loop-at
decreases-loop-at l = length l.marks - l.at
