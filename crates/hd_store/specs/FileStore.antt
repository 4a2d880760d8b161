-- A disk over a file as a device. (Our own.)
use Rattle.std.specs.Prelude.{◌≡◌, [], if◌then◌else◌}
use Rattle.hd_store.specs.declared.ahead.Ahead.{Ahead}
use Rattle.hd_store.specs.declared.ahead.Ahead.TheVariants.{Unknown, Down}
use Rattle.hd_store.specs.declared.file.FileStore.{FileStore}
use Rattle.hd_store.specs.Device.{Device}

-- of what is to come nothing is known, as long as the file is asked
abbrev pub ahead_of : FileStore → Ahead
ahead_of store = if store.is_broken then Down else Unknown

-- its past, its count of failures, and what is known of what is to come
abbrev pub device_of : FileStore → Device
device_of store = record {
  start = store.image.history.start;
  steps = store.image.history.steps;
  failures = store.failures;
  changes = ahead_of store;
  reads = ahead_of store;
}

-- it has no past yet, and no call on it has failed
abbrev pub IsNewlyOpened : FileStore → Type 0
IsNewlyOpened store = ((device_of store).steps ≡ []) × ((device_of store).failures ≡ 0)
