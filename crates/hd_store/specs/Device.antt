-- A device as contracts see it, and what calls make of it. (Our own.)
use Rattle.std.specs.Prelude.{ℕ, ◌+◌, Bool, List, ◌∷◌, min}
use Rattle.hd_store.specs.declared.ahead.Ahead.{Ahead}
use Rattle.hd_store.specs.declared.change.DiskChange.{DiskChange}
use Rattle.hd_store.specs.declared.error.TheConstants.{MOST_FAILURES}
use Rattle.hd_store.specs.Ahead.{later, behind_failure, is_refused, reads_behind}
use Rattle.hd_store.specs.Past.{Step, made_step, content_after}

-- what it held for sure at its start, the steps since then, the last one first, how many calls have
-- failed, and what is known of the changes and the reads to come
pub record Device : Type 0 where
  pub start : List ℕ
  pub steps : List Step
  pub failures : ℕ
  pub changes : Ahead
  pub reads : Ahead

-- what a read gives
abbrev pub content_of : Device → List ℕ
content_of device = content_after device.start device.steps

-- one failure more, up to the greatest count
abbrev pub one_more : ℕ → ℕ
one_more failures = min (failures + 1) MOST_FAILURES

-- whether no change is begun: the count of failures stands at its greatest value, or the device is
-- not asked any more
abbrev pub is_closed : Device → Bool
is_closed device = is_refused device.failures device.changes

-- after a change that was done
abbrev pub done : Device → DiskChange → List ℕ → Device
done device change now = record device {
  steps = made_step change now ∷ device.steps;
  changes = later device.changes;
}

-- after a change that was begun and failed
abbrev pub broken : Device → DiskChange → List ℕ → Device
broken device change now = record device {
  steps = made_step change now ∷ device.steps;
  failures = one_more device.failures;
  changes = behind_failure device.changes;
  reads = reads_behind device.changes device.reads;
}

-- after a call that failed and began nothing
abbrev pub refused : Device → Device
refused device = record device { failures = one_more device.failures }

-- after a read that was done
abbrev pub looked_at : Device → Device
looked_at device = record device { reads = later device.reads }
