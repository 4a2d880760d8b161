-- Calls made one after the other.
use Rattle.std.proofs.Common.{◌≡◌, inl, inr, ℕ, List, [], ◌∷◌, ◌++◌, length, Err, refl, ap}
use Rattle.hd_store.specs.declared.change.DiskChange.{DiskChange}
use Rattle.hd_store.specs.declared.change.DiskChange.TheVariants.{Write, Cut, FailedSync}
use Rattle.hd_store.specs.declared.error.StoreError.TheVariants.{Failed}
use Rattle.hd_store.specs.Bytes.{IsPartOfWrite, IsPartOfCut}
use Rattle.hd_store.specs.Calls.{BreaksOff}
use Rattle.hd_store.specs.Device.{Device, content_of, one_more}
use Rattle.hd_journal.specs.Calls.{Call, after_call, after_calls, Breaks, Ran, RanThrough}
use Rattle.hd_journal.specs.Calls.Call.{Writing, Cutting, Syncing}

pub led_on : (old new : Device) (calls : List Call) → RanThrough old calls new → new ≡ after_calls old calls
led_on old new [] a = a.1
led_on old new (call ∷ calls) a =
    elim a [
      | inl w ↦ led_on (after_call old call) new calls w.1
      | inr ends ↦ absurd ends
    ]

broke_counted : (old new : Device) (change : DiskChange) (Part : List ℕ → Type 0) → BreaksOff old change Part new
    → new.failures ≡ one_more old.failures
broke_counted old new change Part breaks =
    elim breaks [
      | inl closed ↦ ap (λ (d : Device). d.failures) closed.1
      | inr begun ↦ ap (λ (d : Device). d.failures) begun.1.2
    ]

call_counted : (old new : Device) (call : Call) → Breaks old call new → new.failures ≡ one_more old.failures
call_counted old new (Writing at bytes) breaks =
    broke_counted old new (Write at (length bytes)) (IsPartOfWrite (content_of old) at (length bytes)) breaks
call_counted old new (Cutting len) breaks = broke_counted old new (Cut len) (IsPartOfCut (content_of old) len) breaks
call_counted old new Syncing breaks = broke_counted old new FailedSync (λ now. now ≡ content_of old) breaks

pub counted : (old new : Device) (calls : List Call) → Ran old calls (Err Failed) new → new.failures ≡ one_more old.failures
counted old new [] a = absurd a.0
counted old new (call ∷ calls) a =
    elim a [
      | inl w ↦ counted (after_call old call) new calls w.1
      | inr ends ↦ call_counted old new call ends.1
    ]

-- the device between two lists of calls
pub split : (old new : Device) (first rest : List Call) → RanThrough old (first ++ rest) new
    → (mid : Device) × RanThrough old first mid × RanThrough mid rest new
split old new [] rest a = (old, (tt, refl), a)
split old new (call ∷ first) rest a =
    elim a [
      | inl w ↦ let more = split (after_call old call) new first rest w.1 in (more.0, inl (w.0, more.1), more.2)
      | inr ends ↦ absurd ends
    ]
