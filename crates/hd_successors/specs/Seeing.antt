-- Actions by what they watch. (Our own.)
use Rattle.std.specs.Prelude.{ℕ, ◌-◌, ◌==◌, ◌&&◌, Bool, true, false, Option, Some, None, nat_le}
use Rattle.std.specs.Int.{bit_at}
use Rattle.hd_successors.specs.declared.watching.WatchedAtoms.{WatchedAtoms}
use Rattle.hd_successors.specs.declared.watching.WatchedAtoms.TheVariants.{Always, Atoms}

-- nothing is watched
abbrev pub is_always : Option WatchedAtoms → Bool
is_always None = false
is_always (Some Always) = true
is_always (Some (Atoms i j)) = false

-- atoms are watched of which the first passes a test
abbrev pub watches_one : (ℕ → Bool) → Option WatchedAtoms → Bool
watches_one p None = false
watches_one p (Some Always) = false
watches_one p (Some (Atoms i j)) = p i

-- if atoms are watched, the other one passes a test
abbrev pub other_passes : (ℕ → Bool) → Option WatchedAtoms → Bool
other_passes p None = true
other_passes p (Some Always) = true
other_passes p (Some (Atoms i j)) = p j

-- an atom is true by a byte in which the bits of the atoms from `base` on stand, the least first
abbrev pub is_in_byte : ℕ → ℕ → ℕ → Bool
is_in_byte byte base i = nat_le base i && (bit_at byte (i - base) == 1)
