-- What a stop of the machine may leave of a disk. (Our own.)
use Rattle.std.specs.Prelude.{◌≡◌, ℕ, ◌<◌, ◌≤◌, Bool, false, not, ◌&&◌, nat_lt, List, [], ◌∷◌, length, slice_index}
use Rattle.hd_store.specs.declared.change.DiskChange.TheVariants.{Sync}
use Rattle.hd_store.specs.Past.{Step, content_after, synced_after, is_written, least_after, greatest_after}

-- A stop may leave these bytes. Their number lies between the least and the greatest length since
-- the last sync that succeeded; each byte that was there at that sync and lies in no range written
-- since is as it was; any other may be anything.
pub record MayLeave (start : List ℕ) (steps : List Step) (found : List ℕ) : Type 0 where
  pub long_enough : least_after start steps ≤ length found
  pub short_enough : length found ≤ greatest_after start steps
  pub sure :
      (place : ℕ) → place < length found → place < length (synced_after start steps) → is_written steps place ≡ false
      → slice_index found place ≡ slice_index (synced_after start steps) place

-- nothing is pending: whatever a stop leaves is what a read gives
abbrev pub IsAtRest : List ℕ → List Step → Type 0
IsAtRest start steps = (found : List ℕ) → MayLeave start steps found → found ≡ content_after start steps

-- nothing was begun since the last sync that succeeded, or since the start
abbrev pub IsSynced : List Step → Type 0
IsSynced [] = Unit {0}
IsSynced (step ∷ before) = step.change ≡ Sync

-- whether the byte at a place is sure
abbrev pub is_sure : List ℕ → List Step → ℕ → Bool
is_sure start steps place = nat_lt place (length (synced_after start steps)) && not (is_written steps place)

-- of all that a stop may leave, the longest content in which each byte that is not sure is this one
pub record IsFilled (start : List ℕ) (steps : List Step) (fill : ℕ) (found : List ℕ) : Type 0 where
  pub left : MayLeave start steps found
  pub longest : length found ≡ greatest_after start steps
  pub filled : (place : ℕ) → place < length found → is_sure start steps place ≡ false → slice_index found place ≡ fill
