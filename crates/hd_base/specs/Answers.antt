-- The words by which contracts say what a call answers that may fail, over any error. What an error
-- says is a relation of the crate that has the error; lack of memory says nothing.
use Rattle.std.specs.Prelude.{◌≡◌, Bool, true, false, Option, Some, None, Result, Ok, Err, MatchOption}

-- ---- an answer that is there for some arguments only

-- the answer is this value where the test passes, and nothing where it fails
abbrev pub Judges : {A : Type 0} → Option A → Bool → A → Type 0
Judges answer passes value = MatchOption answer (passes ≡ false) (λ v. (passes ≡ true) × (v ≡ value))

-- ---- an answer that means something, or is a refusal that does

-- the answer is the meaning; an error says `IsFailure` of it
abbrev pub Means : {A E : Type 0} → (E → Result A E → Type 0) → Result A E → Result A E → Type 0
Means IsFailure (Ok value) meaning = meaning ≡ Ok value
Means IsFailure (Err e) meaning = IsFailure e meaning

-- ---- an answer that is expected or not

-- the call gives what is expected, seen by the view; an error says `Refuses` of what is expected
abbrev pub Gives : {X Y E : Type 0} → (E → Option Y → Type 0) → (X → Y) → Result X E → Option Y → Type 0
Gives Refuses view (Ok x) expected = expected ≡ Some (view x)
Gives Refuses view (Err e) expected = Refuses e expected

-- the call leaves what is expected in what it was lent; an error says `Refuses` of it
abbrev pub Leaves : {X Y E : Type 0} → (E → Option Y → Type 0) → Result X E → Y → Option Y → Type 0
Leaves Refuses (Ok x) left expected = expected ≡ Some left
Leaves Refuses (Err e) left expected = Refuses e expected

-- ---- an answer that is there if there is no fault

-- the call answers this value if there is no fault; an error reports `StopsAt` of the fault
abbrev pub Checks : {X E F : Type 0} → (E → Option F → Type 0) → Result X E → Option F → X → Type 0
Checks StopsAt (Ok x) fault value = (fault ≡ None) × (x ≡ value)
Checks StopsAt (Err e) fault value = StopsAt e fault

-- the same of what the call leaves in what it was lent
abbrev pub ChecksInto : {X Y E F : Type 0} → (E → Option F → Type 0) → Result X E → Y → Option F → Y → Type 0
ChecksInto StopsAt (Ok x) left fault value = (fault ≡ None) × (left ≡ value)
ChecksInto StopsAt (Err e) left fault value = StopsAt e fault
