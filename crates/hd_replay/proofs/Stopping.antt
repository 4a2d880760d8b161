-- What a stop leaves that falls within calls, where it is foretold of the device.
use Rattle.std.proofs.Common.{◌≡◌, inl, inr, ℕ, zero, suc, ◌+◌, ◌≤◌, List, [], ◌∷◌, length, Err, Ok, refl, sym, ap, ◌∙◌, subst, arith, true≢false}
use Rattle.std.proofs.lemmas.Bool.{ne_eqb}
use Rattle.hd_store.specs.declared.ahead.Ahead.TheVariants.{Unknown, Stops, Well}
use Rattle.hd_store.specs.declared.change.DiskChange.{DiskChange}
use Rattle.hd_store.specs.declared.change.DiskChange.TheVariants.{Write, Cut, Sync, FailedSync}
use Rattle.hd_store.specs.declared.error.StoreError.TheVariants.{Failed}
use Rattle.hd_store.specs.Bytes.{IsPartOfWrite, IsPartOfCut}
use Rattle.hd_store.specs.Calls.{BreaksOff}
use Rattle.hd_store.specs.Device.{Device, content_of, broken}
use Rattle.hd_store.specs.Past.{Step, made_step, content_after}
use Rattle.hd_store.specs.Stop.{IsFilled}
use Rattle.hd_journal.specs.Calls.{Call, change_begun, content_by, Breaks, Ran, RanThrough}
use Rattle.hd_journal.specs.Calls.Call.{Writing, Cutting, Syncing}
use Rattle.hd_world.specs.Stops.{within_call, stopped_in}

-- a device of which nothing is known that is to come; and one whose machine stops after so many
-- more changes
abbrev pub quiet : List ℕ → List Step → Device
quiet start steps = record { start = start; steps = steps; failures = 0; changes = Unknown; reads = Unknown }

abbrev pub planned : List ℕ → List Step → ℕ → Device
planned start steps n = record { start = start; steps = steps; failures = 0; changes = Stops n; reads = Well }

-- what a stop fills of one, it fills of another
abbrev FillsAs : Device → Device → Type 0
FillsAs d e = (fill : ℕ) (found : List ℕ) → IsFilled d.start d.steps fill found → IsFilled e.start e.steps fill found

-- a stop fell within the call after so many
pub record IsCutIn (start : List ℕ) (steps : List Step) (calls : List Call) (n : ℕ) (new : Device) : Type 0 where
  pub within : suc n ≤ length calls
  pub fills : (fill : ℕ) (found : List ℕ) → IsFilled new.start new.steps fill found
      → IsFilled (stopped_in (quiet start steps) calls (suc n)).start (stopped_in (quiet start steps) calls (suc n)).steps fill found

-- what a read gives after a write or a cut does not matter for what a stop leaves; and a sync
-- that failed does not matter
write_fills : (start : List ℕ) (steps : List Step) (at count : ℕ) (now now' : List ℕ) (fill : ℕ) (found : List ℕ)
    → IsFilled start (made_step (Write at count) now ∷ steps) fill found → IsFilled start (made_step (Write at count) now' ∷ steps) fill found
write_fills start steps at count now now' fill found f = record {
  left = record { long_enough = f.left.long_enough; short_enough = f.left.short_enough; sure = f.left.sure };
  longest = f.longest;
  filled = f.filled;
}

cut_fills : (start : List ℕ) (steps : List Step) (len : ℕ) (now now' : List ℕ) (fill : ℕ) (found : List ℕ)
    → IsFilled start (made_step (Cut len) now ∷ steps) fill found → IsFilled start (made_step (Cut len) now' ∷ steps) fill found
cut_fills start steps len now now' fill found f = record {
  left = record { long_enough = f.left.long_enough; short_enough = f.left.short_enough; sure = f.left.sure };
  longest = f.longest;
  filled = f.filled;
}

sync_fills : (start : List ℕ) (steps : List Step) (now : List ℕ) (fill : ℕ) (found : List ℕ)
    → IsFilled start (made_step FailedSync now ∷ steps) fill found → IsFilled start steps fill found
sync_fills start steps now fill found f = record {
  left = record { long_enough = f.left.long_enough; short_enough = f.left.short_enough; sure = f.left.sure };
  longest = f.longest;
  filled = f.filled;
}

module _ (start : List ℕ) (steps : List Step) (new : Device) where
  -- a change that was begun and failed, on a device that is not closed
  begun : (change : DiskChange) (Part : List ℕ → Type 0) → BreaksOff (planned start steps 0) change Part new
      → (now : List ℕ) × (new ≡ broken (planned start steps 0) change now)
  begun change Part breaks =
      elim breaks [
        | inl closed ↦ absurd (true≢false (sym closed.0))
        | inr on ↦ (on.1.0, on.1.2)
      ]

  fills_by : (change : DiskChange) (now : List ℕ) (e : Device) → new ≡ broken (planned start steps 0) change now
      → ((fill : ℕ) (found : List ℕ) → IsFilled start (made_step change now ∷ steps) fill found → IsFilled e.start e.steps fill found) → FillsAs new e
  fills_by change now e is fills fill found f =
      fills fill found (subst (λ (d : Device). IsFilled d.start d.steps fill found) is f)

  call_cut : (call : Call) → Breaks (planned start steps 0) call new → FillsAs new (within_call (quiet start steps) call)
  call_cut (Writing at bytes) breaks =
      let on = begun (Write at (length bytes)) (IsPartOfWrite (content_after start steps) at (length bytes)) breaks in
      fills_by (Write at (length bytes)) on.0 (within_call (quiet start steps) (Writing at bytes)) on.1
      (λ fill found f. write_fills start steps at (length bytes) on.0 (content_by (Writing at bytes) (content_after start steps)) fill found f)
  call_cut (Cutting len) breaks =
      let on = begun (Cut len) (IsPartOfCut (content_after start steps) len) breaks in
      fills_by (Cut len) on.0 (within_call (quiet start steps) (Cutting len)) on.1
      (λ fill found f. cut_fills start steps len on.0 (content_by (Cutting len) (content_after start steps)) fill found f)
  call_cut Syncing breaks =
      let on = begun FailedSync (λ now. now ≡ content_after start steps) breaks in
      fills_by FailedSync on.0 (within_call (quiet start steps) Syncing) on.1
      (λ fill found f. sync_fills start steps on.0 fill found f)

abbrev step_by : List ℕ → List Step → Call → Step
step_by start steps call = made_step (change_begun call) (content_by call (content_after start steps))

-- calls of which one failed: it is the one that was foretold, and what a stop fills then it fills
-- where it falls in that call
pub cut_in : (start : List ℕ) (steps : List Step) (calls : List Call) (n : ℕ) (new : Device) → Ran (planned start steps n) calls (Err Failed) new
    → IsCutIn start steps calls n new
cut_in start steps [] n new ran = absurd ran.0
cut_in start steps (call ∷ calls) zero new ran =
    elim ran [
      | inl went ↦ absurd (true≢false went.0)
      | inr ends ↦ record { within = omega arith; fills = call_cut start steps new call ends.1 }
    ]
cut_in start steps (call ∷ calls) (suc n) new ran =
    elim ran [
      | inl went ↦
          let more = cut_in start (step_by start steps call ∷ steps) calls n new went.1 in
          record { within = omega (arith, more.within); fills = more.fills }
      | inr ends ↦ absurd (true≢false (sym ends.0 ∙ ne_eqb (suc n) 0 (λ e. omega (arith, e))))
    ]

-- calls that were all done are no more than were foretold
pub went_through : (start : List ℕ) (steps : List Step) (calls : List Call) (n : ℕ) (new : Device) → RanThrough (planned start steps n) calls new
    → length calls ≤ n
went_through start steps [] n new ran = omega arith
went_through start steps (call ∷ calls) zero new ran =
    elim ran [
      | inl went ↦ absurd (true≢false went.0)
      | inr ends ↦ absurd ends
    ]
went_through start steps (call ∷ calls) (suc n) new ran =
    elim ran [
      | inl went ↦ let more = went_through start (step_by start steps call ∷ steps) calls n new went.1 in omega (arith, more)
      | inr ends ↦ absurd ends
    ]
