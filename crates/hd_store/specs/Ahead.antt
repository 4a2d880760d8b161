-- Which of the calls to come fail, as far as it is known. (Our own.)
use Rattle.std.specs.Prelude.{◌≡◌, ℕ, zero, suc, Bool, true, false, ◌==◌, ◌||◌, Option, Some, None, MatchOption, MatchBool, Result, Ok, Err}
use Rattle.hd_store.specs.declared.ahead.Ahead.{Ahead}
use Rattle.hd_store.specs.declared.ahead.Ahead.TheVariants.{Unknown, Well, Fails, Stops, Down}
use Rattle.hd_store.specs.declared.error.TheConstants.{MOST_FAILURES}
use Rattle.hd_store.specs.declared.error.StoreError.{StoreError}
use Rattle.hd_store.specs.declared.error.StoreError.TheVariants.{NoMemory, Failed}

-- what is known after the next call
abbrev pub later : Ahead → Ahead
later Unknown = Unknown
later Well = Well
later (Fails zero) = Well
later (Fails (suc n)) = Fails n
later (Stops zero) = Down
later (Stops (suc n)) = Stops n
later Down = Down

-- what is known after a change that was begun and failed: a real device is not asked any more
abbrev pub behind_failure : Ahead → Ahead
behind_failure Unknown = Down
behind_failure Well = Well
behind_failure (Fails n) = later (Fails n)
behind_failure (Stops n) = later (Stops n)
behind_failure Down = Down

-- whether the next call is one that fails although the device still runs
abbrev pub is_next : Ahead → Bool
is_next Unknown = false
is_next Well = false
is_next (Fails n) = n == 0
is_next (Stops n) = n == 0
is_next Down = false

-- what becomes of the reads to come, where a change is begun and fails: the machine may stop in it,
-- and a real device is not asked any more
abbrev pub reads_behind : Ahead → Ahead → Ahead
reads_behind Unknown reads = Down
reads_behind Well reads = reads
reads_behind (Fails n) reads = reads
reads_behind (Stops n) reads = Down
reads_behind Down reads = reads

-- whether the next call fails, if that is known
abbrev pub foretold_by : Ahead → Option Bool
foretold_by Unknown = None
foretold_by Well = Some false
foretold_by (Fails n) = Some (n == 0)
foretold_by (Stops n) = Some (n == 0)
foretold_by Down = Some true

-- the same of a call that no failure is planned for: it fails where the device is down
abbrev pub foretold_of_length : Ahead → Option Bool
foretold_of_length Unknown = None
foretold_of_length Well = Some false
foretold_of_length (Fails n) = Some false
foretold_of_length (Stops n) = Some false
foretold_of_length Down = Some true

-- the call fails or goes well, as it is foretold; lack of memory comes before either
abbrev pub GoesAs : {X : Type 0} → Result X StoreError → Bool → Type 0
GoesAs (Ok x) fails = fails ≡ false
GoesAs (Err NoMemory) fails = Unit {0}
GoesAs (Err Failed) fails = fails ≡ true

-- a call goes as it is foretold, where that is known; where the count of failures stands at its
-- greatest value, it fails
abbrev pub GoesAsForetold : {X : Type 0} → Result X StoreError → ℕ → Option Bool → Type 0
GoesAsForetold result failures known =
    MatchBool (failures == MOST_FAILURES) (result ≡ Err Failed) (MatchOption known (Unit {0}) (GoesAs result))

-- whether the machine has stopped
abbrev pub is_down : Ahead → Bool
is_down Unknown = false
is_down Well = false
is_down (Fails n) = false
is_down (Stops n) = false
is_down Down = true

-- whether no change is begun: the count of failures stands at its greatest value, or the machine
-- has stopped
abbrev pub is_refused : ℕ → Ahead → Bool
is_refused failures changes = (failures == MOST_FAILURES) || is_down changes

-- whether the next call fails, by what is planned and the count of failures
abbrev pub is_failing : ℕ → Ahead → Bool
is_failing failures ahead = is_refused failures ahead || is_next ahead
