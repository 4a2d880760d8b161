-- What a round of the committer leaves. (Our own.)
use Rattle.std.specs.Prelude.{◌≡◌, ℕ, ◌<◌, true, false, List, length, Option, IfSome}
use Rattle.hd_base.specs.Lists.{BeginsWith}
use Rattle.hd_task.specs.declared.task.Task.{Task}
use Rattle.hd_task.specs.declared.plan.Kid.{Kid}
use Rattle.hd_store.specs.declared.store.Store.{Ghosts}
use Rattle.hd_journal.specs.declared.journal.Journal.{Journal}
use Rattle.hd_journal.specs.Journal.{kids_of}
use Rattle.hd_threads.specs.Growing.{JournalGrows}
use Rattle.hd_threads.specs.Surviving.{Survives}
use Rattle.hd_threads.specs.declared.fault.RunFault.{RunFault}
use Rattle.hd_threads.specs.declared.fault.RunFault.TheVariants.{Full, Damaged, Device, Failed, NotOut, NoMemory}
use Rattle.hd_threads.specs.declared.committing.Round.{Round}
use Rattle.hd_threads.specs.declared.committing.Round.TheVariants.{Flushed, Idle}

-- the committer is in step: the log that it has seen begins with the journal's list, and so many
-- entries are acknowledged as the journal has
pub record IsInStep {S : Type 0} {G : Ghosts S} (log : List Kid) (acknowledged : ℕ) (journal : Journal S G) : Type 0 where
  pub begins : BeginsWith log (kids_of journal)
  pub counted : acknowledged ≡ length (kids_of journal)

-- A journal is kept whatever became of a call: the log that was seen last begins with the journal's
-- list, which begins with the earlier one; and nothing that the journal had is lost.
pub record IsJournalKept {S : Type 0} {G : Ghosts S} (task : Option Task) (log : List Kid) (old new : Journal S G) : Type 0 where
  pub begins : BeginsWith log (kids_of new)
  pub kids : BeginsWith (kids_of new) (kids_of old)
  pub survives : IfSome task (λ t. Survives t old new)

-- what a round did to the journal's list: its entries with these numbers are new, and there are
-- some; or nothing is
abbrev pub HasRun : List Kid → List Kid → Round → Type 0
HasRun old new (Flushed range) = (range.start ≡ length old) × (range.end ≡ length new) × (range.start < range.end)
HasRun old new Idle = new ≡ old

-- the journal's list is as before, and so many entries are acknowledged as it has
pub record IsUnmoved {S : Type 0} {G : Ghosts S} (old new : Journal S G) (acknowledged : ℕ) : Type 0 where
  pub kids : kids_of new ≡ kids_of old
  pub counted : acknowledged ≡ length (kids_of new)

-- what a fault reports by which a round ends. Nothing was appended, but where the journal and the
-- book did not fit together; and where the device did not fail the journal has its entries in whole
-- groups
abbrev pub StopsRound : {S : Type 0} {G : Ghosts S} → Journal S G → Journal S G → ℕ → RunFault → Type 0
StopsRound old new acknowledged Full = ⊥
StopsRound old new acknowledged (Damaged at) = ⊥
StopsRound old new acknowledged Device = (old.failed ≡ false) × (new.failed ≡ true) × IsUnmoved old new acknowledged
StopsRound old new acknowledged Failed = (old.failed ≡ true) × IsUnmoved old new acknowledged
StopsRound old new acknowledged NotOut = JournalGrows old new
StopsRound old new acknowledged NoMemory = IsUnmoved old new acknowledged × JournalGrows old new

-- what a fault reports by which the rounds end, of the journal before the first and after the last
abbrev pub StopsLater : {S : Type 0} {G : Ghosts S} → Journal S G → Journal S G → RunFault → Type 0
StopsLater old new Full = ⊥
StopsLater old new (Damaged at) = ⊥
StopsLater old new Device = (old.failed ≡ false) × (new.failed ≡ true)
StopsLater old new Failed = (old.failed ≡ true) × (kids_of new ≡ kids_of old)
StopsLater old new NotOut = JournalGrows old new
StopsLater old new NoMemory = JournalGrows old new
