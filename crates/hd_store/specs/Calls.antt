-- What the calls on a device answer and leave. (Our own.)
use Rattle.std.specs.Prelude.{◌≡◌, ◌⊎◌, true, false, List, ℕ, Result, Ok, Err}
use Rattle.hd_store.specs.declared.change.DiskChange.{DiskChange}
use Rattle.hd_store.specs.declared.error.StoreError.{StoreError}
use Rattle.hd_store.specs.declared.error.StoreError.TheVariants.{NoMemory, Failed}
use Rattle.hd_store.specs.Device.{Device, is_closed, broken, refused}

-- if the device failed, this is so
abbrev pub OnFailed : {X : Type 0} → Result X StoreError → Type 0 → Type 0
OnFailed (Ok x) P = Unit {0}
OnFailed (Err NoMemory) P = Unit {0}
OnFailed (Err Failed) P = P

-- if memory ran out, this is so
abbrev pub OnNoMemory : {X : Type 0} → Result X StoreError → Type 0 → Type 0
OnNoMemory (Ok x) P = Unit {0}
OnNoMemory (Err NoMemory) P = P
OnNoMemory (Err Failed) P = Unit {0}

-- A change failed. On a device that is closed nothing was begun; on any other it was begun and any
-- part of it was done, by what a read gives now.
abbrev pub BreaksOff : Device → DiskChange → (List ℕ → Type 0) → Device → Type 0
BreaksOff old change IsPart new =
    ((is_closed old ≡ true) × (new ≡ refused old)) ⊎ ((is_closed old ≡ false) × ((now : List ℕ) × IsPart now × (new ≡ broken old change now)))
