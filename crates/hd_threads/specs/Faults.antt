-- The faults of a search: how they are printed, and which come of whom.
use Rattle.std.specs.Prelude.{List, ℕ, ◌++◌, codes, decimal}
use Rattle.hd_journal.specs.declared.error.JournalError.{JournalError}
use Rattle.hd_journal.specs.declared.error.JournalError.TheVariants as journal
use Rattle.hd_threads.specs.declared.fault.RunFault.{RunFault}
use Rattle.hd_threads.specs.declared.fault.RunFault.TheVariants.{Full, Damaged, Device, Failed, NotOut, NoMemory}

-- the printed form: the refusal's number, its name, and the place in decimal; lack of memory has no
-- number
abbrev pub text_of : RunFault → List ℕ
text_of Full = codes "31 Full"
text_of (Damaged at) = codes "34 Damaged(" ++ decimal at ++ codes ")"
text_of Device = codes "35 Device"
text_of Failed = codes "36 Failed"
text_of NotOut = codes "38 NotOut"
text_of NoMemory = codes "NoMemory"

-- the fault for each error of a journal
abbrev pub of_journal : JournalError → RunFault
of_journal journal.NotAJournal = NotOut
of_journal journal.OtherTask = NotOut
of_journal (journal.Damaged at) = Damaged at
of_journal journal.Device = Device
of_journal journal.Failed = Failed
of_journal journal.JournalExists = NotOut
of_journal journal.NotOut = NotOut
of_journal journal.NoMemory = NoMemory

-- what a worker's fault may be: no worker reads or writes the journal
abbrev pub IsOfWorker : RunFault → Type 0
IsOfWorker Full = Unit {0}
IsOfWorker (Damaged at) = ⊥
IsOfWorker Device = ⊥
IsOfWorker Failed = ⊥
IsOfWorker NotOut = Unit {0}
IsOfWorker NoMemory = Unit {0}

-- why there is no answer once all threads have ended: the book is not at its end, the journal has
-- not its entries, or there is no memory for a plan
abbrev pub IsOfAnswer : RunFault → Type 0
IsOfAnswer Full = ⊥
IsOfAnswer (Damaged at) = ⊥
IsOfAnswer Device = ⊥
IsOfAnswer Failed = ⊥
IsOfAnswer NotOut = Unit {0}
IsOfAnswer NoMemory = Unit {0}
