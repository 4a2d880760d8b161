-- What a stop may leave of a device at each moment since an earlier one. (Our own.)
use Rattle.std.specs.Prelude.{◌≡◌, ℕ, List, [], ◌∷◌, ◌++◌}
use Rattle.hd_store.specs.Device.{Device}
use Rattle.hd_store.specs.Past.{Step}
use Rattle.hd_store.specs.Stop.{MayLeave, IsSynced}

-- whatever a stop after these steps leaves is so
abbrev pub EachStopLeaves : (List ℕ → Type 0) → List ℕ → List Step → Type 0
EachStopLeaves P start steps = (content : List ℕ) → MayLeave start steps content → P content

-- whatever a stop leaves is so before the steps `since`, and after each of them
abbrev pub LeavesAlong : (List ℕ → Type 0) → List ℕ → List Step → List Step → Type 0
LeavesAlong P start [] before = EachStopLeaves P start before
LeavesAlong P start (s ∷ since) before = EachStopLeaves P start (s ∷ (since ++ before)) × LeavesAlong P start since before

-- Whatever a stop leaves at any moment, from when the device was the old one until it is the new
-- one, is so. A stop within a write or a cut leaves what one right after it may leave, and a stop
-- within a sync what one right before it may leave.
pub record LeavesSince (P : List ℕ → Type 0) (old new : Device) : Type 0 where
  pub since : List Step
  pub start : new.start ≡ old.start
  pub steps : new.steps ≡ since ++ old.steps
  pub each : LeavesAlong P old.start since old.steps

-- nothing is pending: no write, cut or failed sync was begun since the last sync that succeeded, or
-- since the start
abbrev pub IsSettled : Device → Type 0
IsSettled device = IsSynced device.steps
