-- What the faults of a search by threads tell, and how they are printed. (Our own.)
use Rattle.std.specs.Prelude.{◌≡◌, ◌⊎◌, ℕ, ◌+◌, ◌<◌, ◌≤◌, true, false, List, [], ◌∷◌, length, codes, Option, Some, None, IfSome, Result, Ok, Err}
use Rattle.hd_task.specs.declared.task.Task.{Task}
use Rattle.hd_store.specs.declared.store.Store.{Ghosts}
use Rattle.hd_image.specs.declared.entry.Entry.{Entry}
use Rattle.hd_image.specs.Image.{most_of}
use Rattle.hd_journal.specs.declared.journal.Journal.{Journal}
use Rattle.hd_journal.specs.Journal.{kids_of}
use Rattle.hd_certify.specs.Error.{IsDamagedAt}
use Rattle.hd_node.specs.declared.batch.TheConstants.{MAX_OUTCOMES}
use Rattle.hd_threads.specs.declared.fault.RunFault.{RunFault}
use Rattle.hd_threads.specs.declared.fault.RunFault.TheVariants.{Full, Damaged, Device, Failed, NotOut, NoMemory}
use Rattle.hd_threads.specs.Ends.{EndView}
use Rattle.hd_threads.specs.Faults as search
use Rattle.hd_threads.specs.Growing.{JournalGrows}
use Rattle.hd_threads.specs.Faults.{IsOfWorker}
use Rattle.std.specs.declared.thread.PromisedHandle.{PromisedHandle}
use Rattle.hd_search.specs.declared.starting.OfWorker.{OfWorker}
use Rattle.hd_search.specs.declared.fault.ThreadsFault.{ThreadsFault}
use Rattle.hd_search.specs.declared.fault.ThreadsFault.TheVariants.{Run, NoThread}

-- the printed form: that of the fault of a thread; that no thread starts has no number
abbrev pub text_of : ThreadsFault → List ℕ
text_of (Run fault) = search.text_of fault
text_of NoThread = codes "NoThread"

-- why a search can't go on from entries: there are more than there may be; the first faulty one
-- stands at this place; or there is no memory
abbrev pub IsFaulty : Task → ℕ → List Entry → RunFault → Type 0
IsFaulty t most entries Full = most < length entries
IsFaulty t most entries (Damaged at) = (length entries ≤ most) × IsDamagedAt t entries at
IsFaulty t most entries Device = ⊥
IsFaulty t most entries Failed = ⊥
IsFaulty t most entries NotOut = ⊥
IsFaulty t most entries NoMemory = Unit {0}

-- the thread of a worker has ended by no fault, or by one of a worker
abbrev pub EndsAsWorker : EndView → Type 0
EndsAsWorker end = IfSome end.fault IsOfWorker

-- the ends are those of workers whose numbers begin with this one, in order
abbrev pub AreEndsInOrder : ℕ → List EndView → Type 0
AreEndsInOrder from [] = Unit {0}
AreEndsInOrder from (end ∷ ends) = (end.id ≡ from) × AreEndsInOrder (from + 1) ends

-- the threads are those of workers whose numbers begin with this one, in order
abbrev pub AreThreadsInOrder : ℕ → List (PromisedHandle EndView OfWorker) → Type 0
AreThreadsInOrder from [] = Unit {0}
AreThreadsInOrder from (thread ∷ threads) = (thread.promise.id ≡ from) × AreThreadsInOrder (from + 1) threads

-- what is reported of the first fault of workers, if there is one
abbrev pub reported : Option RunFault → Result (Unit {0}) ThreadsFault
reported None = Ok tt
reported (Some fault) = Err (Run fault)

-- what the fault may be that the threads of workers give: that of a worker, or that one does not
-- start
abbrev pub IsOfThreads : ThreadsFault → Type 0
IsOfThreads (Run fault) = IsOfWorker fault
IsOfThreads NoThread = Unit {0}

-- what is reported of how the committer ended and of how the threads of workers did: the
-- committer's fault, if it ended by one
abbrev pub first_of : Result (Unit {0}) RunFault → Result (Unit {0}) ThreadsFault → Result (Unit {0}) ThreadsFault
first_of (Ok done) threads = threads
first_of (Err fault) threads = Err (Run fault)

-- what a fault reports by which a search stops whose threads run, of the journal before it and of
-- the journal afterwards. Where the device did not fail, the journal has the entries that it had,
-- and maybe more after them, in whole groups
abbrev pub StopsRunning : {S : Type 0} {G : Ghosts S} → Journal S G → Journal S G → RunFault → Type 0
StopsRunning old new Full = JournalGrows old new
StopsRunning old new (Damaged at) = ⊥
StopsRunning old new Device = (old.failed ≡ false) × (new.failed ≡ true)
StopsRunning old new Failed = (old.failed ≡ true) × (kids_of new ≡ kids_of old)
StopsRunning old new NotOut = JournalGrows old new
StopsRunning old new NoMemory = JournalGrows old new

-- the same of each fault, and where a thread does not start
abbrev pub Stops : {S : Type 0} {G : Ghosts S} → Journal S G → Journal S G → ThreadsFault → Type 0
Stops old new (Run fault) = StopsRunning old new fault
Stops old new NoThread = JournalGrows old new

-- the outcomes of one batch more might be too many: with as many as a batch may have, there would be
-- more entries than the journal may have
abbrev pub IsShortOfRoom : {S : Type 0} {G : Ghosts S} → Journal S G → Type 0
IsShortOfRoom journal = most_of journal.version < length (kids_of journal) + MAX_OUTCOMES

-- that the journal is full is reported only where it is short of room
abbrev pub IsFullRightly : {S : Type 0} {G : Ghosts S} → Journal S G → ThreadsFault → Type 0
IsFullRightly journal fault = fault ≡ Run Full → IsShortOfRoom journal

-- what is made of a fault of the threads: it stands; or it was that the journal is full, which is
-- not short of room, so that what the threads share did not fit together
abbrev pub IsConfirmed : {S : Type 0} {G : Ghosts S} → Journal S G → ThreadsFault → ThreadsFault → Type 0
IsConfirmed journal fault told = (told ≡ fault) ⊎ ((fault ≡ Run Full) × (told ≡ Run NotOut) × (IsShortOfRoom journal → ⊥))

-- what a fault reports of a search by threads over a journal: it can't go on from the journal's
-- entries, and nothing is written; or it stops later
abbrev pub TellsOfThreads : {S : Type 0} {G : Ghosts S} → Task → Journal S G → Journal S G → ThreadsFault → Type 0
TellsOfThreads t old new (Run fault) = ((new ≡ old) × IsFaulty t (most_of old.version) old.entries.items fault) ⊎ StopsRunning old new fault
TellsOfThreads t old new NoThread = JournalGrows old new
