-- A disk in memory as a device. (Our own.)
use Rattle.std.specs.Prelude.{◌≡◌, ℕ, List, []}
use Rattle.hd_store.specs.declared.ahead.Ahead.TheVariants.{Well}
use Rattle.hd_store.specs.declared.memory.MemoryDisk.{MemoryDisk}
use Rattle.hd_store.specs.Device.{Device}
use Rattle.hd_store.specs.Stop.{IsFilled}

-- its past, its count of failures, and what is planned
abbrev pub device_of : MemoryDisk → Device
device_of disk = record {
  start = disk.image.history.start;
  steps = disk.image.history.steps;
  failures = disk.plan.failures;
  changes = disk.plan.changes;
  reads = disk.plan.reads;
}

-- a disk that begins with these bytes, which nothing has failed on and is to fail on
abbrev pub IsStarted : MemoryDisk → List ℕ → Type 0
IsStarted disk bytes = device_of disk ≡ record { start = bytes; steps = []; failures = 0; changes = Well; reads = Well }

-- A stop left what it may leave where each byte that is not sure is this one, and the device
-- started again: its count of failures is kept, and nothing is planned.
pub record IsStoppedDevice (old : Device) (fill : ℕ) (new : Device) : Type 0 where
  pub left : IsFilled old.start old.steps fill new.start
  pub steps : new.steps ≡ []
  pub failures : new.failures ≡ old.failures
  pub changes : new.changes ≡ Well
  pub reads : new.reads ≡ Well
