-- Why a schedule is not played to its end: what is reported, and how it is printed. (Our own.)
use Rattle.std.specs.Prelude.{ℕ, List, codes}
use Rattle.hd_journal.specs.declared.error.JournalError.{JournalError}
use Rattle.hd_journal.specs.declared.error.JournalError.TheVariants as journal
use Rattle.hd_journal.specs.Error as journals
use Rattle.hd_certify.specs.declared.error.RecoverError.{RecoverError}
use Rattle.hd_certify.specs.declared.error.RecoverError.TheVariants as recovery
use Rattle.hd_certify.specs.Error as recoveries
use Rattle.hd_replay.specs.declared.fault.ReplayFault.{ReplayFault}
use Rattle.hd_replay.specs.declared.fault.ReplayFault.TheVariants.{Recovery, Journal, Full, NoMemory}

-- the printed form: that of the part's own fault, or the refusal's number and its name; want of
-- memory has no number
abbrev pub text_of : ReplayFault → List ℕ
text_of (Recovery fault) = recoveries.text_of fault
text_of (Journal error) = journals.text_of error
text_of Full = codes "31 Full"
text_of NoMemory = codes "NoMemory"

-- what is reported of a journal's error
abbrev pub replay_fault_of_journal : JournalError → ReplayFault
replay_fault_of_journal journal.NotAJournal = Journal journal.NotAJournal
replay_fault_of_journal journal.OtherTask = Journal journal.OtherTask
replay_fault_of_journal (journal.Damaged at) = Journal (journal.Damaged at)
replay_fault_of_journal journal.Device = Journal journal.Device
replay_fault_of_journal journal.Failed = Journal journal.Failed
replay_fault_of_journal journal.JournalExists = Journal journal.JournalExists
replay_fault_of_journal journal.NotOut = Journal journal.NotOut
replay_fault_of_journal journal.NoMemory = NoMemory

-- what is reported where a search can't go on
abbrev pub of_recovery : RecoverError → ReplayFault
of_recovery recovery.Full = Full
of_recovery (recovery.Damaged at) = Recovery (recovery.Damaged at)
of_recovery recovery.NoMemory = NoMemory
