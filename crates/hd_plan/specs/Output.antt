-- What a writer holds afterwards, and which error is noted of it. (A rule of this project.)
use Rattle.std.specs.Prelude.{◌≡◌, ℕ, ◌<◌, ◌≤◌, List, Option, Some, length, take, Result, MatchResult}
use Rattle.std.specs.Io.KnownBytes.{Keeps, Appends}
use Rattle.std.specs.declared.io.ErrorKind.{ErrorKind}
use Rattle.hd_plan.specs.declared.output.WriteFault.{WriteFault}
use Rattle.hd_plan.specs.declared.output.WriteFault.TheVariants.{NoMemory, Device}

-- a beginning of these bytes was appended, which may be nothing or all
abbrev pub AppendsFront : Option (List ℕ) → Option (List ℕ) → List ℕ → Type 0
AppendsFront old new bytes = (n : ℕ) × (n ≤ length bytes) × Appends old new (take n bytes)

-- a beginning of these bytes was appended, which may be nothing, and is not all of them
abbrev pub AppendsShort : Option (List ℕ) → Option (List ℕ) → List ℕ → Type 0
AppendsShort old new bytes = (n : ℕ) × (n < length bytes) × Appends old new (take n bytes)

-- a count of some of these bytes: at least one
abbrev pub IsPartOf : List ℕ → ℕ → Type 0
IsPartOf bytes n = (0 < n) × (n ≤ length bytes)

-- what is noted of a writer is the error that is reported, and stays as it was if none is
abbrev pub NotesFault : {X Kind : Type 0} → Option Kind → Option Kind → Result X Kind → Type 0
NotesFault old new result = MatchResult result (λ _. new ≡ old) (λ kind. new ≡ Some kind)

-- if memory ran out, nothing was written
abbrev pub KeepsFor : Option (List ℕ) → Option (List ℕ) → WriteFault → Type 0
KeepsFor old new NoMemory = Keeps old new
KeepsFor old new (Device kind) = Unit {0}

-- the error that is reported is the one that is noted of the writer; lack of memory is none of the
-- writer's
abbrev pub IsNotedByWriter : Option ErrorKind → Option ErrorKind → WriteFault → Type 0
IsNotedByWriter old new NoMemory = new ≡ old
IsNotedByWriter old new (Device kind) = new ≡ Some kind

-- the writer has answered the error that is reported of it, and none where none is reported
abbrev pub NotesError : {X : Type 0} → Option ErrorKind → Option ErrorKind → Result X WriteFault → Type 0
NotesError old new result = MatchResult result (λ _. new ≡ old) (IsNotedByWriter old new)
