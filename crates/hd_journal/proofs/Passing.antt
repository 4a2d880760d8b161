-- What a stop leaves at each moment while a change is made sure of, and while one follows the
-- other.
use Rattle.std.proofs.Common.{◌≡◌, inl, inr, ℕ, List, [], ◌∷◌, ◌++◌, length, Result, Ok, Err, refl, sym, ap, ◌∙◌, subst, append_assoc}
use Rattle.hd_store.specs.declared.change.DiskChange.{DiskChange}
use Rattle.hd_store.specs.declared.change.DiskChange.TheVariants.{Write, Cut, Sync, FailedSync}
use Rattle.hd_store.specs.declared.error.StoreError.{StoreError}
use Rattle.hd_store.specs.declared.error.StoreError.TheVariants.{NoMemory, Failed}
use Rattle.hd_store.specs.Bytes.{IsPartOfWrite, IsPartOfCut}
use Rattle.hd_store.specs.Calls.{BreaksOff}
use Rattle.hd_store.specs.Device.{Device, content_of}
use Rattle.hd_store.specs.Past.{Step, made_step}
use Rattle.hd_store.proofs.Leaving.{at_rest, write_torn, cut_torn, as_before}
use Rattle.hd_journal.specs.Calls.{Call, change_begun, content_by, after_call, Ran, Ends, Breaks}
use Rattle.hd_journal.specs.Calls.Call.{Writing, Cutting, Syncing}
use Rattle.hd_journal.specs.Moments.{EachStopLeaves, LeavesAlong, LeavesSince, IsSettled}

-- any part of a change of these bytes
abbrev pub IsPart : Call → List ℕ → List ℕ → Type 0
IsPart (Writing at bytes) content found = IsPartOfWrite content at (length bytes) found
IsPart (Cutting len) content found = IsPartOfCut content len found
IsPart Syncing content found = found ≡ content

-- ---- moments one after the other

along : (P : List ℕ → Type 0) (start : List ℕ) (later since before : List Step)
    → LeavesAlong P start later (since ++ before) → LeavesAlong P start since before → LeavesAlong P start (later ++ since) before
along P start [] since before a b = b
along P start (s ∷ later) since before a b = (
  subst (λ (steps : List Step). EachStopLeaves P start (s ∷ steps)) (sym (append_assoc later since before)) a.0,
  along P start later since before a.1 b,
)

pub then_since : (P : List ℕ → Type 0) (old mid new : Device) → LeavesSince P old mid → LeavesSince P mid new → LeavesSince P old new
then_since P old mid new a b = record {
  since = b.since ++ a.since;
  start = b.start ∙ a.start;
  steps = b.steps ∙ (ap (λ (steps : List Step). b.since ++ steps) a.steps ∙ sym (append_assoc b.since a.since old.steps));
  each =
      along P old.start b.since a.since old.steps
      (subst (λ (steps : List Step). LeavesAlong P old.start b.since steps) a.steps
      (subst (λ (start : List ℕ). LeavesAlong P start b.since mid.steps) a.start b.each)) a.each;
}

-- nothing was begun
pub at_start : (P : List ℕ → Type 0) (old new : Device) → new.start ≡ old.start → new.steps ≡ old.steps → EachStopLeaves P old.start old.steps
    → LeavesSince P old new
at_start P old new start steps leaves = record { since = []; start = start; steps = steps; each = leaves }

-- one step more
one_step : (P : List ℕ → Type 0) (old new : Device) (s : Step) → new.start ≡ old.start → new.steps ≡ s ∷ old.steps
    → EachStopLeaves P old.start (s ∷ old.steps) → EachStopLeaves P old.start old.steps → LeavesSince P old new
one_step P old new s start steps now before = record { since = s ∷ []; start = start; steps = steps; each = (now, before) }

-- ---- one change

pub leaves_rest : (P : List ℕ → Type 0) (device : Device) → IsSettled device → P (content_of device) → EachStopLeaves P device.start device.steps
leaves_rest P device settled holds = λ found left. subst P (sym (at_rest device.start device.steps settled found left)) holds

-- a write or a cut
abbrev pub IsStroke : Call → Type 0
IsStroke (Writing at bytes) = Unit {0}
IsStroke (Cutting len) = Unit {0}
IsStroke Syncing = ⊥

-- after a write or a cut that was begun, whatever a read gives since then
leaves_torn : (P : List ℕ → Type 0) (device : Device) (call : Call) (now : List ℕ) → IsStroke call → IsSettled device
    → ((found : List ℕ) → IsPart call (content_of device) found → P found) → EachStopLeaves P device.start (made_step (change_begun call) now ∷ device.steps)
leaves_torn P device (Writing at bytes) now is settled part = λ found left.
    part found ((write_torn device.start device.steps at (length bytes) now found settled).0 left)
leaves_torn P device (Cutting len) now is settled part = λ found left.
    part found ((cut_torn device.start device.steps len now found settled).0 left)
leaves_torn P device Syncing now is settled part = absurd is

broke : (P : List ℕ → Type 0) (old new : Device) (change : DiskChange) (Part : List ℕ → Type 0)
    → EachStopLeaves P old.start old.steps → ((now : List ℕ) → EachStopLeaves P old.start (made_step change now ∷ old.steps))
    → BreaksOff old change Part new → LeavesSince P old new
broke P old new change Part before behind breaks =
    elim breaks [
      | inl closed ↦ at_start P old new (ap (λ (d : Device). d.start) closed.1) (ap (λ (d : Device). d.steps) closed.1) before
      | inr begun ↦
          one_step P old new (made_step change begun.1.0) (ap (λ (d : Device). d.start) begun.1.2) (ap (λ (d : Device). d.steps) begun.1.2)
          (behind begun.1.0) before
    ]

broke_call : (P : List ℕ → Type 0) (old : Device) (call : Call) (new : Device) → IsStroke call
    → EachStopLeaves P old.start old.steps → ((now : List ℕ) → EachStopLeaves P old.start (made_step (change_begun call) now ∷ old.steps))
    → Breaks old call new → LeavesSince P old new
broke_call P old (Writing at bytes) new is before behind breaks =
    broke P old new (Write at (length bytes)) (IsPartOfWrite (content_of old) at (length bytes)) before behind breaks
broke_call P old (Cutting len) new is before behind breaks = broke P old new (Cut len) (IsPartOfCut (content_of old) len) before behind breaks
broke_call P old Syncing new is before behind breaks = absurd is

ended_call : (P : List ℕ → Type 0) (old : Device) (call : Call) (result : Result (Unit {0}) StoreError) (new : Device) → IsStroke call
    → EachStopLeaves P old.start old.steps → ((now : List ℕ) → EachStopLeaves P old.start (made_step (change_begun call) now ∷ old.steps))
    → Ends old call result new → LeavesSince P old new
ended_call P old call (Ok done) new is before behind ends = absurd ends
ended_call P old call (Err Failed) new is before behind ends = broke_call P old call new is before behind ends.1
ended_call P old call (Err NoMemory) new is before behind ends =
    at_start P old new (ap (λ (d : Device). d.start) ends.1) (ap (λ (d : Device). d.steps) ends.1) before

ended_sync : (P : List ℕ → Type 0) (old : Device) (result : Result (Unit {0}) StoreError) (new : Device)
    → EachStopLeaves P old.start old.steps → Ends old Syncing result new → LeavesSince P old new
ended_sync P old (Ok done) new before ends = absurd ends
ended_sync P old (Err Failed) new before ends =
    broke P old new FailedSync (λ now. now ≡ content_of old) before
    (λ now found left. before found ((as_before old.start old.steps now found).0 left)) ends.1
ended_sync P old (Err NoMemory) new before ends = absurd ends.0

-- a change that is made sure of, and what follows it
pub sure_then : (P : List ℕ → Type 0) (old : Device) (call : Call) (rest : List Call) (result : Result (Unit {0}) StoreError) (new : Device)
    → IsStroke call → IsSettled old → P (content_of old)
    → ((found : List ℕ) → IsPart call (content_of old) found → P found) → P (content_by call (content_of old))
    → (Ran (after_call (after_call old call) Syncing) rest result new → LeavesSince P (after_call (after_call old call) Syncing) new)
    → Ran old (call ∷ Syncing ∷ rest) result new → LeavesSince P old new
sure_then P old call rest result new is settled holds part done more ran =
    let mid = after_call old call in
    let end = after_call mid Syncing in
    let before : EachStopLeaves P old.start old.steps = leaves_rest P old settled holds in
    let torn : (now : List ℕ) → EachStopLeaves P old.start (made_step (change_begun call) now ∷ old.steps) =
    λ now. leaves_torn P old call now is settled part in
    elim ran [
      | inr ends ↦ ended_call P old call result new is before torn ends
      | inl w ↦
          let first : LeavesSince P old mid =
          one_step P old mid (made_step (change_begun call) (content_by call (content_of old))) refl refl (torn (content_by call (content_of old))) before in
          elim w.1 [
            | inr ends ↦ then_since P old mid new first (ended_sync P mid result new (torn (content_by call (content_of old))) ends)
            | inl v ↦
                let sure : LeavesSince P mid end =
                one_step P mid end (made_step Sync (content_of mid)) refl refl
                (λ found left. subst P (sym (at_rest mid.start (made_step Sync (content_of mid) ∷ mid.steps) refl found left)) done)
                (torn (content_by call (content_of old))) in
                then_since P old end new (then_since P old mid end first sure) (more v.1)
          ]
    ]

-- nothing follows
pub no_more : (P : List ℕ → Type 0) (old : Device) (result : Result (Unit {0}) StoreError) (new : Device) → IsSettled old → P (content_of old)
    → Ran old [] result new → LeavesSince P old new
no_more P old result new settled holds ran =
    at_start P old new (ap (λ (d : Device). d.start) ran.1) (ap (λ (d : Device). d.steps) ran.1) (leaves_rest P old settled holds)

-- if nothing was begun
pub unchanged : (P : List ℕ → Type 0) (old new : Device) → new.start ≡ old.start → new.steps ≡ old.steps → IsSettled old → P (content_of old)
    → LeavesSince P old new
unchanged P old new start steps settled holds = at_start P old new start steps (leaves_rest P old settled holds)
