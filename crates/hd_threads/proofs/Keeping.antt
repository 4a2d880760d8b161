-- A journal that is kept, from call to call.
use Rattle.std.proofs.Common.{◌≡◌, Option, List, subst}
use Rattle.hd_base.specs.Lists.{BeginsWith}
use Rattle.hd_task.specs.declared.task.Task.{Task}
use Rattle.hd_task.specs.declared.plan.Kid.{Kid}
use Rattle.hd_store.specs.declared.store.Store.{Ghosts}
use Rattle.hd_journal.specs.declared.journal.Journal.{Journal}
use Rattle.hd_journal.specs.Journal.{device_of, kids_of}
use Rattle.hd_journal.specs.Moments.{IsSettled}
use Rattle.hd_threads.specs.Committing.{IsJournalKept}
use Rattle.hd_threads.specs.Growing.{JournalGrows}
use Rattle.hd_threads.proofs.Begins.{begins_along, begins_itself}
use Rattle.hd_threads.proofs.Surviving.{survives_itself, survives_through}

module _ {S : Type 0} {G : Ghosts S} where
  -- nothing is appended
  pub kept_itself : (task : Option Task) (log : List Kid) (j : Journal S G) → BeginsWith log (kids_of j) → IsJournalKept task log j j
  kept_itself task log j begins = record { begins = begins; kids = begins_itself (kids_of j); survives = survives_itself task j }

  -- the log has grown since
  pub kept_later : (task : Option Task) (log later : List Kid) (a b : Journal S G) → BeginsWith later log → IsJournalKept task log a b → IsJournalKept task later a b
  kept_later task log later a b grows x = record { begins = begins_along later log (kids_of b) grows x.begins; kids = x.kids; survives = x.survives }

  -- the task was the same before
  pub kept_of : (task task' : Option Task) (log : List Kid) (a b : Journal S G) → task' ≡ task → IsJournalKept task' log a b → IsJournalKept task log a b
  kept_of task task' log a b same x = subst (λ t. IsJournalKept t log a b) same x

  -- one call after the other
  pub kept_through :
      (task task' : Option Task) (log later : List Kid) (a b c : Journal S G) → task' ≡ task → JournalGrows a b → (IsSettled (device_of a) → IsSettled (device_of b))
      → IsJournalKept task log a b → IsJournalKept task' later b c → IsJournalKept task later a c
  kept_through task task' log later a b c same grows settles x y = record {
    begins = y.begins;
    kids = begins_along (kids_of c) (kids_of b) (kids_of a) y.kids x.kids;
    survives = survives_through task task' a b c same grows settles x.survives y.survives;
  }
