-- What the committer leaves when it has ended. (Our own.)
use Rattle.std.specs.Prelude.{◌≡◌, ℕ, ◌<◌, length, Result, IfErr, IfSome, OnOk}
use Rattle.crossbeam_queue.specs.Passes.{view}
use Rattle.hd_store.specs.declared.store.Store.{Ghosts}
use Rattle.hd_journal.specs.declared.journal.Journal.{Journal}
use Rattle.hd_journal.specs.Journal.{device_of, kids_of}
use Rattle.hd_journal.specs.Moments.{IsSettled}
use Rattle.hd_desk.specs.Passes.{IsOutside}
use Rattle.hd_base.specs.Lists.{BeginsWith}
use Rattle.hd_threads.specs.declared.fault.RunFault.{RunFault}
use Rattle.hd_threads.specs.Growing.{JournalGrows}
use Rattle.hd_threads.specs.declared.placing.Desk.{Desk}
use Rattle.hd_threads.specs.Committing.{StopsLater}
use Rattle.hd_threads.specs.Surviving.{Survives}
use Rattle.hd_search.specs.declared.opening.CommitterPlace.{CommitterPlace}

-- the committer is at the desk: it has the whole of the ledger of what is acknowledged, which is
-- just the journal's entries, and the log that it has seen begins with these
pub record CanRun {L A S : Type 0} {G : Ghosts S} (parts : ℕ) (d : Desk L A) (c : CommitterPlace L A) (journal : Journal S G) : Type 0 where
  pub outside : IsOutside d.lock.place c.pass
  pub whole : c.share.parts ≡ parts
  pub some : 0 < parts
  pub begins : BeginsWith (view c.pass).seen.log (kids_of journal)
  pub counted : c.share.amount ≡ length (kids_of journal)

-- the committer has ended: it is at the desk, of the same task, and the log that it has seen
-- begins with the journal's entries, which begin with those before; nothing of the journal was
-- lost at any moment
pub record HasEnded {L A S : Type 0} {G : Ghosts S} (d : Desk L A) (c : CommitterPlace L A) (old : Journal S G) (c' : CommitterPlace L A) (new : Journal S G) (done : Result (Unit {0}) RunFault) : Type 0 where
  pub outside : IsOutside d.lock.place c'.pass
  pub task : (view c'.pass).seen.task ≡ (view c.pass).seen.task
  pub begins : BeginsWith (view c'.pass).seen.log (kids_of new)
  pub kids : BeginsWith (kids_of new) (kids_of old)
  pub grows : OnOk done (JournalGrows old new)
  pub told : IfErr done (StopsLater old new)
  pub survives : IfSome (view c.pass).seen.task (λ t. Survives t old new)
  pub settled : IsSettled (device_of old) → OnOk done (IsSettled (device_of new))
