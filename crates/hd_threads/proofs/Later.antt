-- The rounds of the committer one after the other, and a book whose entries are those of a journal.
use Rattle.std.proofs.Common.{◌≡◌, ℕ, List, [], ◌++◌, length, sym, ap, ◌∙◌, arith, append-nil, length-append}
use Rattle.std.proofs.lemmas.List.{nil_from_length}
use Rattle.hd_task.specs.declared.plan.Kid.{Kid}
use Rattle.hd_store.specs.declared.store.Store.{Ghosts}
use Rattle.hd_journal.specs.declared.journal.Journal.{Journal}
use Rattle.hd_base.specs.Lists.{BeginsWith}
use Rattle.hd_threads.specs.declared.fault.RunFault.{RunFault}
use Rattle.hd_threads.specs.declared.fault.RunFault.TheVariants.{Full, Damaged, Device, Failed, NotOut, NoMemory}
use Rattle.hd_threads.specs.Growing.{JournalGrows}
use Rattle.hd_threads.proofs.Growing.{grows_through}
use Rattle.hd_threads.specs.Committing.{StopsRound, StopsLater}

-- what the last round reports, of the journal before the first
pub stops_later : {S : Type 0} {G : Ghosts S} (a b c : Journal S G) (n : ℕ) (fault : RunFault) → JournalGrows a b → StopsRound b c n fault → StopsLater a c fault
stops_later a b c n Full x s = s
stops_later a b c n (Damaged at) x s = s
stops_later a b c n Device x s = (sym x.failed ∙ s.0, s.1)
stops_later a b c n Failed x s = let was = sym x.failed ∙ s.0 in (was, s.1.kids ∙ x.stuck was)
stops_later a b c n NotOut x s = grows_through a b c x s
stops_later a b c n NoMemory x s = grows_through a b c x s.1

-- a log that begins with a list and is no longer is that list
pub same_log : (log kids : List Kid) → BeginsWith log kids → length log ≡ length kids → log ≡ kids
same_log log kids is e =
    let none : is.0 ≡ [] = nil_from_length is.0 (omega (arith, e, ap length is.1, length-append kids is.0)) in
    is.1 ∙ (ap (λ l. kids ++ l) none ∙ append-nil kids)
