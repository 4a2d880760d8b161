-- What was done to a device since it was started, and what follows for its bytes. (Our own.)
use Rattle.std.specs.Prelude.{ℕ, ◌+◌, Bool, false, ◌||◌, List, [], ◌∷◌, length, max, min}
use Rattle.hd_store.specs.declared.change.DiskChange.{DiskChange}
use Rattle.hd_store.specs.declared.change.DiskChange.TheVariants.{Write, Cut, Sync, FailedSync}
use Rattle.hd_store.specs.Bytes.{is_in_range}

-- A step: a change that was begun, and what a read gives since then. A write or a cut that failed
-- is a step like one that succeeded: by what a read gives it may have been done in part. The last
-- step stands first in a list.
pub record Step : Type 0 where
  pub change : DiskChange
  pub now : List ℕ

-- this change, after which a read gives this
abbrev pub made_step : DiskChange → List ℕ → Step
made_step change now = record { change = change; now = now }

-- what a read gives, of a device that held these bytes at its start
abbrev pub content_after : List ℕ → List Step → List ℕ
content_after start [] = start
content_after start (s ∷ before) = s.now

-- ---- by a change, after which a read gives `now`, from what was so before it

-- what the last sync that succeeded made sure of
abbrev pub synced_by : DiskChange → List ℕ → List ℕ → List ℕ
synced_by (Write at count) now before = before
synced_by (Cut len) now before = before
synced_by Sync now before = now
synced_by FailedSync now before = before

-- whether a place was written since that sync
abbrev pub written_by : DiskChange → ℕ → Bool → Bool
written_by (Write at count) place before = is_in_range at count place || before
written_by (Cut len) place before = before
written_by Sync place before = false
written_by FailedSync place before = before

-- the least length since that sync
abbrev pub least_by : DiskChange → List ℕ → ℕ → ℕ
least_by (Write at count) now before = before
least_by (Cut len) now before = min before len
least_by Sync now before = length now
least_by FailedSync now before = before

-- the greatest length since that sync
abbrev pub greatest_by : DiskChange → List ℕ → ℕ → ℕ
greatest_by (Write at count) now before = max before (at + count)
greatest_by (Cut len) now before = before
greatest_by Sync now before = length now
greatest_by FailedSync now before = before

-- ---- the same by a list of steps: what was there at the start is as sure as if it had been synced

-- what was read at the last sync
abbrev pub synced_after : List ℕ → List Step → List ℕ
synced_after start [] = start
synced_after start (s ∷ before) = synced_by s.change s.now (synced_after start before)

-- whether a place was written since then
abbrev pub is_written : List Step → ℕ → Bool
is_written [] place = false
is_written (s ∷ before) place = written_by s.change place (is_written before place)

-- the least length since then
abbrev pub least_after : List ℕ → List Step → ℕ
least_after start [] = length start
least_after start (s ∷ before) = least_by s.change s.now (least_after start before)

-- the greatest length since then
abbrev pub greatest_after : List ℕ → List Step → ℕ
greatest_after start [] = length start
greatest_after start (s ∷ before) = greatest_by s.change s.now (greatest_after start before)
