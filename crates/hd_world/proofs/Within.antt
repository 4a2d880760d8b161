-- The disk that a stop within a call finds: what it may leave is what may be left at one moment
-- of all calls.
use Rattle.std.proofs.Common.{◌≡◌, inl, ℕ, zero, suc, List, [], ◌∷◌, ◌++◌, refl, sym, ap, ◌∙◌, subst, append_assoc}
use Rattle.std.proofs.lemmas.List.{append_cancel_right}
use Rattle.hd_store.specs.declared.ahead.Ahead.TheVariants.{Unknown}
use Rattle.hd_store.specs.Device.{Device, content_of}
use Rattle.hd_store.specs.Past.{Step, made_step}
use Rattle.hd_journal.specs.Calls.{Call, change_begun, content_by, after_call, after_calls, RanThrough}
use Rattle.hd_journal.specs.Calls.Call.{Writing, Cutting, Syncing}
use Rattle.hd_journal.specs.Moments.{EachStopLeaves, LeavesAlong, LeavesSince}
use Rattle.hd_world.specs.Stops.{at_rest, within_call, stopped_in}

-- ---- steps

-- a device between two others
record IsBetween (first now last : Device) : Type 0 where
  start : now.start ≡ first.start
  begun : List Step
  steps : now.steps ≡ begun ++ first.steps
  later : List Step
  all : last.steps ≡ later ++ now.steps

abbrev step_by : Device → Call → Step
step_by d call = made_step (change_begun call) (content_by call (content_of d))

grown : (d : Device) (calls : List Call) → (later : List Step) × ((after_calls d calls).steps ≡ later ++ d.steps)
grown d [] = ([], refl)
grown d (call ∷ calls) =
    let more = grown (after_call d call) calls in
    (more.0 ++ step_by d call ∷ [], more.1 ∙ sym (append_assoc more.0 (step_by d call ∷ []) d.steps))

-- no call was begun since then
at_first : (d : Device) (calls : List Call) → IsBetween d d (after_calls d calls)
at_first d calls = let more = grown d calls in record { start = refl; begun = []; steps = refl; later = more.0; all = more.1 }

-- one call was begun
at_one : (d : Device) (call : Call) (calls : List Call) → IsBetween d (after_call d call) (after_calls d (call ∷ calls))
at_one d call calls =
    let more = grown (after_call d call) calls in
    record { start = refl; begun = step_by d call ∷ []; steps = refl; later = more.0; all = more.1 }

at_call : (d : Device) (call : Call) (calls : List Call) → IsBetween d (within_call d call) (after_calls d (call ∷ calls))
at_call d (Writing at bytes) calls = at_one d (Writing at bytes) calls
at_call d (Cutting len) calls = at_one d (Cutting len) calls
at_call d Syncing calls = at_first d (Syncing ∷ calls)

-- where it is between the device after a call and the last one, it is between that before it and
-- the last one
one_earlier : (d now last : Device) (call : Call) → IsBetween (after_call d call) now last → IsBetween d now last
one_earlier d now last call b = record {
  start = b.start;
  begun = b.begun ++ step_by d call ∷ [];
  steps = b.steps ∙ sym (append_assoc b.begun (step_by d call ∷ []) d.steps);
  later = b.later;
  all = b.all;
}

between : (d : Device) (calls : List Call) (c : ℕ) → IsBetween d (stopped_in d calls c) (after_calls d calls)
between d calls zero = at_first d calls
between d [] (suc c) = at_first d []
between d (call ∷ calls) (suc zero) = at_call d call calls
between d (call ∷ calls) (suc (suc c)) =
    one_earlier d (stopped_in (after_call d call) calls (suc c)) (after_calls d (call ∷ calls)) call (between (after_call d call) calls (suc c))

-- ---- what may be left

along_first : (P : List ℕ → Type 0) (start : List ℕ) (since before : List Step) → LeavesAlong P start since before → EachStopLeaves P start (since ++ before)
along_first P start [] before a = a
along_first P start (s ∷ since) before a = a.0

along_later : (P : List ℕ → Type 0) (start : List ℕ) (later since before : List Step)
    → LeavesAlong P start (later ++ since) before → LeavesAlong P start since before
along_later P start [] since before a = a
along_later P start (s ∷ later) since before a = along_later P start later since before a.1

leaves_between : (P : List ℕ → Type 0) (first now last : Device) → IsBetween first now last → LeavesSince P first last → EachStopLeaves P now.start now.steps
leaves_between P first now last b l =
    let same : l.since ≡ b.later ++ b.begun =
    append_cancel_right l.since (b.later ++ b.begun) first.steps
    (sym l.steps ∙ (b.all ∙ (ap (λ (s : List Step). b.later ++ s) b.steps ∙ sym (append_assoc b.later b.begun first.steps)))) in
    let there : LeavesAlong P first.start b.begun first.steps =
    along_later P first.start b.later b.begun first.steps (subst (λ (s : List Step). LeavesAlong P first.start s first.steps) same l.each) in
    subst (λ (s : List Step). EachStopLeaves P now.start s) (sym b.steps)
    (subst (λ (start : List ℕ). EachStopLeaves P start (b.begun ++ first.steps)) (sym b.start) (along_first P first.start b.begun first.steps there))

-- ---- a disk at rest

-- a disk of which nothing is known that is to come, and on which no call has failed
abbrev quiet : List ℕ → List Step → Device
quiet start steps = record { start = start; steps = steps; failures = 0; changes = Unknown; reads = Unknown }

ran : (start : List ℕ) (steps : List Step) (calls : List Call) → RanThrough (quiet start steps) calls (after_calls (quiet start steps) calls)
ran start steps [] = (tt, refl)
ran start steps (call ∷ calls) = inl (tt, ran start (step_by (quiet start steps) call ∷ steps) calls)

-- all calls may be done on a disk that is at rest
pub rest_ran : (content : List ℕ) (calls : List Call) → RanThrough (at_rest content) calls (after_calls (at_rest content) calls)
rest_ran content calls = ran content [] calls

-- what holds of all that a stop leaves at each moment, holds of what a stop within a call leaves
pub leaves_in : (P : List ℕ → Type 0) (content : List ℕ) (calls : List Call) (c : ℕ)
    → LeavesSince P (at_rest content) (after_calls (at_rest content) calls)
    → EachStopLeaves P (stopped_in (at_rest content) calls c).start (stopped_in (at_rest content) calls c).steps
leaves_in P content calls c l =
    let d = at_rest content in
    leaves_between P d (stopped_in d calls c) (after_calls d calls) (between d calls c) l
