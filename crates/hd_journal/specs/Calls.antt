-- Calls that change a device, and lists of them that are made one after the other. (Our own.)
use Rattle.std.specs.Prelude.{◌≡◌, ◌⊎◌, ℕ, ◌+◌, ◌<◌, List, [], ◌∷◌, length, take, Result, Ok, Err}
use Rattle.hd_store.specs.declared.change.DiskChange.{DiskChange}
use Rattle.hd_store.specs.declared.change.DiskChange.TheVariants.{Write, Cut, Sync, FailedSync}
use Rattle.hd_store.specs.declared.error.StoreError.{StoreError}
use Rattle.hd_store.specs.declared.error.StoreError.TheVariants.{NoMemory, Failed}
use Rattle.hd_store.specs.Ahead.{foretold_by, GoesAsForetold}
use Rattle.hd_store.specs.Bytes.{written_over, IsPartOfWrite, IsPartOfCut}
use Rattle.hd_store.specs.Calls.{BreaksOff}
use Rattle.hd_store.specs.Device.{Device, content_of, done}

-- a call that changes a device: bytes are written from a place on, all is cut to a length, or what
-- a read gives is made sure
pub data Call : Type 0 where
  Writing : ℕ → List ℕ → Call
  Cutting : ℕ → Call
  Syncing : Call

-- the change that is begun
abbrev pub change_begun : Call → DiskChange
change_begun (Writing at bytes) = Write at (length bytes)
change_begun (Cutting len) = Cut len
change_begun Syncing = Sync

-- what a read gives after it
abbrev pub content_by : Call → List ℕ → List ℕ
content_by (Writing at bytes) content = written_over content at bytes
content_by (Cutting len) content = take len content
content_by Syncing content = content

-- the device after a call that was done
abbrev pub after_call : Device → Call → Device
after_call device call = done device (change_begun call) (content_by call (content_of device))

-- the device after calls that were all done, in order
abbrev pub after_calls : Device → List Call → Device
after_calls device [] = device
after_calls device (call ∷ calls) = after_calls (after_call device call) calls

-- a call may end so, by what is foretold of the device
abbrev pub MayEnd : Device → Result (Unit {0}) StoreError → Type 0
MayEnd device result = GoesAsForetold result device.failures (foretold_by device.changes)

-- a call failed: it was begun and any part of it may have been done; on a device that is closed
-- nothing was begun
abbrev pub Breaks : Device → Call → Device → Type 0
Breaks old (Writing at bytes) new = BreaksOff old (Write at (length bytes)) (IsPartOfWrite (content_of old) at (length bytes)) new
Breaks old (Cutting len) new = BreaksOff old (Cut len) (IsPartOfCut (content_of old) len) new
Breaks old Syncing new = BreaksOff old FailedSync (λ now. now ≡ content_of old) new

-- a call makes the store grow, and so may want memory
abbrev pub TakesMemory : Device → Call → Type 0
TakesMemory old (Writing at bytes) = length (content_of old) < at + length bytes
TakesMemory old (Cutting len) = ⊥
TakesMemory old Syncing = ⊥

-- how a call that is not done ends: it fails, as it may, or it wants memory, and then nothing was
-- begun
abbrev pub Ends : Device → Call → Result (Unit {0}) StoreError → Device → Type 0
Ends old call (Ok done) new = ⊥
Ends old call (Err Failed) new = MayEnd old (Err Failed) × Breaks old call new
Ends old call (Err NoMemory) new = TakesMemory old call × (new ≡ old)

-- no call is left to be made
abbrev pub IsThrough : Result (Unit {0}) StoreError → Type 0
IsThrough (Ok done) = Unit {0}
IsThrough (Err error) = ⊥

-- calls were made one after the other: all were done; or one was not, and none after it was made
abbrev pub Ran : Device → List Call → Result (Unit {0}) StoreError → Device → Type 0
Ran old [] result new = IsThrough result × (new ≡ old)
Ran old (call ∷ calls) result new = (MayEnd old (Ok tt) × Ran (after_call old call) calls result new) ⊎ Ends old call result new

-- all of them were done
abbrev pub RanThrough : Device → List Call → Device → Type 0
RanThrough old calls new = Ran old calls (Ok tt) new

-- a change that is made sure of at once
abbrev pub surely : Call → List Call
surely call = call ∷ Syncing ∷ []
