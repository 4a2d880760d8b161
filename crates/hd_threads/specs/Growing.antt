-- A journal that grows while a search runs.
use Rattle.std.specs.Prelude.{◌≡◌, ℕ, true, List, ◌++◌}
use Rattle.hd_task.specs.declared.plan.Kid.{Kid}
use Rattle.hd_store.specs.declared.store.Store.{Ghosts}
use Rattle.hd_journal.specs.declared.journal.Journal.{Journal}
use Rattle.hd_journal.specs.Journal.{IsOf, kids_of}
use Rattle.hd_base.specs.Lists.{BeginsWith}

-- a journal has become a later one: it has the old entries, then maybe more, in whole groups. Where
-- the device had failed there are none more
pub record JournalGrows {S : Type 0} {G : Ghosts S} (old new : Journal S G) : Type 0 where
  pub version : new.version ≡ old.version
  pub begins : BeginsWith (kids_of new) (kids_of old)
  pub failed : new.failed ≡ old.failed
  pub stuck : old.failed ≡ true → kids_of new ≡ kids_of old
  pub groups :
      (digest : List ℕ) (groups : List (List Kid)) → IsOf digest groups old
      → (more : List (List Kid)) × IsOf digest (groups ++ more) new
