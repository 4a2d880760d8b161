-- What is reported where a search by threads stops.
use Rattle.std.proofs.Common.{◌≡◌, inl, inr, ℕ, suc, ◌-◌, ◌<◌, Option, Some, None, List, [], ◌∷◌, length, Result, Ok, Err, refl, sym, subst, ◌∙◌, append-nil, arith}
use Rattle.std.specs.Prelude.{IfErr, IfSome, OnOk, slice_index_or}
use Rattle.std.specs.List.{AllByRecursion}
use Rattle.std.specs.Option.{option_or}
use Rattle.std.proofs.lemmas.List.{length-map}
use Rattle.hd_task.specs.declared.task.Task.{Task}
use Rattle.hd_task.specs.declared.plan.Kid.{Kid}
use Rattle.hd_store.specs.declared.store.Store.{Ghosts}
use Rattle.hd_image.specs.Image.{most_of}
use Rattle.hd_journal.specs.declared.journal.Journal.{Journal}
use Rattle.hd_journal.specs.Journal.{device_of, kid_of, kids_of}
use Rattle.hd_journal.specs.Moments.{IsSettled}
use Rattle.hd_threads.specs.declared.fault.RunFault.{RunFault}
use Rattle.hd_threads.specs.declared.fault.RunFault.TheVariants.{Full, Damaged, Device, Failed, NotOut, NoMemory}
use Rattle.hd_threads.specs.Growing.{JournalGrows}
use Rattle.hd_base.specs.Lists.{BeginsWith}
use Rattle.hd_threads.specs.declared.placing.Desk.{Desk}
use Rattle.hd_threads.specs.Committing.{StopsLater}
use Rattle.hd_threads.specs.Ends.{EndView, first_fault}
use Rattle.hd_threads.specs.Faults.{IsOfAnswer, IsOfWorker}
use Rattle.hd_threads.specs.Surviving.{Survives}
use Rattle.crossbeam_queue.specs.declared.array_queue.Doing.{Doing}
use Rattle.crossbeam_queue.specs.declared.array_queue.Slotted.{Slotted}
use Rattle.crossbeam_queue.specs.Passes.{Pass}
use Rattle.hd_desk.specs.declared.view.View.{View}
use Rattle.hd_desk.specs.Passes.{IsOutside}
use Rattle.hd_threads.specs.Outside.{IsOutsideAgain}
use Rattle.hd_threads.proofs.Outside.{outside_itself}
use Rattle.hd_threads.proofs.Begins.{begins_along}
use Rattle.hd_threads.proofs.Surviving.{survives_itself}
use Rattle.hd_search.specs.declared.fault.ThreadsFault.{ThreadsFault}
use Rattle.hd_search.specs.declared.fault.ThreadsFault.TheVariants.{Run, NoThread}
use Rattle.hd_search.specs.declared.opening.CommitterPlace.{CommitterPlace}
use Rattle.hd_search.specs.Committing.{CanRun}
use Rattle.hd_search.specs.Fault.{first_of, reported, EndsAsWorker, IsFaulty, IsOfThreads, IsConfirmed, IsFullRightly, StopsRunning, Stops, TellsOfThreads}
use Rattle.hd_search.specs.Opening.{CanCommit}

module _ {S : Type 0} {G : Ghosts S} (old new : Journal S G) where
  -- a committer's fault
  committer_stops : (fault : RunFault) → StopsLater old new fault → StopsRunning old new fault
  committer_stops Full told = absurd told
  committer_stops (Damaged at) told = told
  committer_stops Device told = told
  committer_stops Failed told = told
  committer_stops NotOut told = told
  committer_stops NoMemory told = told

  -- a fault of the threads, where the committer has ended without one
  threads_stop : (fault : ThreadsFault) → JournalGrows old new → IsOfThreads fault → Stops old new fault
  threads_stop NoThread grows told = grows
  threads_stop (Run Full) grows told = grows
  threads_stop (Run (Damaged at)) grows told = told
  threads_stop (Run Device) grows told = absurd told
  threads_stop (Run Failed) grows told = absurd told
  threads_stop (Run NotOut) grows told = grows
  threads_stop (Run NoMemory) grows told = grows

  -- what is reported first stands
  pub first_stops : (done : Result (Unit {0}) RunFault) (joined : Result (Unit {0}) ThreadsFault) → OnOk done (JournalGrows old new) → IfErr done (StopsLater old new) → IfErr joined IsOfThreads → IfErr (first_of done joined) (Stops old new)
  first_stops (Ok d) (Ok j) grows told threads = tt
  first_stops (Ok d) (Err fault) grows told threads = threads_stop fault grows threads
  first_stops (Err fault) joined grows told threads = committer_stops fault told

  -- if nothing is reported the committer has ended without a fault
  pub first_grows : (done : Result (Unit {0}) RunFault) (joined : Result (Unit {0}) ThreadsFault) → OnOk done (JournalGrows old new) → OnOk (first_of done joined) (JournalGrows old new)
  first_grows (Ok d) (Ok j) grows = grows
  first_grows (Ok d) (Err fault) grows = tt
  first_grows (Err fault) joined grows = tt

  -- and its device is settled
  pub first_settled : (done : Result (Unit {0}) RunFault) (joined : Result (Unit {0}) ThreadsFault) → (IsSettled (device_of old) → OnOk done (IsSettled (device_of new))) → IsSettled (device_of old) → OnOk (first_of done joined) (IsSettled (device_of new))
  first_settled (Ok d) (Ok j) settles settled = settles settled
  first_settled (Ok d) (Err fault) settles settled = tt
  first_settled (Err fault) joined settles settled = tt

  -- a book has no answer, after threads that ended without a fault
  pub answer_stops : (fault : RunFault) → JournalGrows old new → IsOfAnswer fault → StopsRunning old new fault
  answer_stops Full grows told = absurd told
  answer_stops (Damaged at) grows told = told
  answer_stops Device grows told = absurd told
  answer_stops Failed grows told = absurd told
  answer_stops NotOut grows told = grows
  answer_stops NoMemory grows told = grows

  -- what is made of a fault reports the same, or no less
  pub confirmed_stops : (fault told : ThreadsFault) → Stops old new fault → IsConfirmed new fault told → Stops old new told
  confirmed_stops fault told stops (inl same) = subst (Stops old new) (sym same) stops
  confirmed_stops fault told stops (inr full) =
      let grows : JournalGrows old new = subst (Stops old new) full.0 stops in subst (Stops old new) (sym full.1) grows

  -- a book that has no answer is not full
  pub answer_not_full : (fault : RunFault) → IsOfAnswer fault → IsFullRightly new (Run fault)
  answer_not_full Full told = absurd told
  answer_not_full (Damaged at) told = λ full. absurd (cc)
  answer_not_full Device told = absurd told
  answer_not_full Failed told = absurd told
  answer_not_full NotOut told = λ full. absurd (cc)
  answer_not_full NoMemory told = λ full. absurd (cc)

  -- a search stops later
  pub tells_later : (t : Task) (fault : ThreadsFault) → Stops old new fault → TellsOfThreads t old new fault
  tells_later t NoThread told = told
  tells_later t (Run fault) told = inr told

-- nothing of a journal is lost, for a task that is known
pub survives_along : {S : Type 0} {G : Ghosts S} (old new : Journal S G) (task later : Option Task) → later ≡ task → IfSome later (λ t. Survives t old new) → IfSome task (λ t. Survives t old new)
survives_along old new task later same survives = subst (λ o. IfSome o (λ t. Survives t old new)) same survives

pub survives_of : {S : Type 0} {G : Ghosts S} (old new : Journal S G) (t : Task) (task : Option Task) → task ≡ Some t → IfSome task (λ t. Survives t old new) → Survives t old new
survives_of old new t task same survives = subst (λ o. IfSome o (λ t. Survives t old new)) same survives

pub survives_unchanged : {S : Type 0} {G : Ghosts S} (t : Task) (journal : Journal S G) → Survives t journal journal
survives_unchanged t journal = survives_itself (Some t) journal

-- a search can't go on from entries, and nothing is written
pub tells_faulty : {S : Type 0} {G : Ghosts S} (journal : Journal S G) (t : Task) (fault : RunFault) → IsFaulty t (most_of journal.version) journal.entries.items fault → TellsOfThreads t journal journal (Run fault)
tells_faulty journal t fault told = inl (refl, told)

-- the first fault of workers that ended so is one of theirs
told_or : (first later : Option RunFault) → IfSome first IsOfWorker → IfErr (reported later) IsOfThreads → IfErr (reported (option_or first later)) IsOfThreads
told_or None later here behind = behind
told_or (Some fault) later here behind = here

pub reported_told : (ends : List EndView) → AllByRecursion EndsAsWorker ends → IfErr (reported (first_fault ends)) IsOfThreads
reported_told [] told = tt
reported_told (end ∷ ends) told = told_or end.fault (first_fault ends) told.0 (reported_told ends told.1)

-- what holds at each place of a list holds of all of it
pub all_by_places : (P : EndView → Type 0) (ends : List EndView) (n : ℕ) → length ends ≡ n → ((i : ℕ) (d : EndView) → i < n → P (slice_index_or ends i d))
    → AllByRecursion P ends
all_by_places P [] n same each = tt
all_by_places P (end ∷ ends) n same each = (
  each 0 end (omega (arith, same)),
  all_by_places P ends (n - 1) (omega (arith, same)) (λ i d below. each (suc i) d (omega (arith, below))),
)

-- a journal that has too many entries is short of room
pub faulty_full : {S : Type 0} {G : Ghosts S} (journal : Journal S G) (t : Task) (fault : RunFault) → IsFaulty t (most_of journal.version) journal.entries.items fault → IsFullRightly journal (Run fault)
faulty_full journal t Full told = λ full. let same = length-map journal.entries.items kid_of in omega (arith, told, same)
faulty_full journal t (Damaged at) told = λ full. absurd (cc)
faulty_full journal t Device told = absurd told
faulty_full journal t Failed told = absurd told
faulty_full journal t NotOut told = absurd told
faulty_full journal t NoMemory told = λ full. absurd (cc)

-- the committer of a search that is opened from a journal's entries can run
pub can_run : {L A S : Type 0} {G : Ghosts S} (t : Task) (parts : ℕ) (d : Desk L A) (c : CommitterPlace L A) (journal : Journal S G) → CanCommit t parts d c (kids_of journal) → CanRun parts d c journal
can_run t parts d c journal can = record {
  outside = can.outside;
  whole = can.whole;
  some = can.some;
  begins = ([], can.seen.log ∙ sym (append-nil (kids_of journal)));
  counted = can.counted;
}

-- a log that begins with one that begins with another begins with that
pub along : (a b c : List Kid) → BeginsWith a b → BeginsWith b c → BeginsWith a c
along a b c p q = begins_along a b c p q

-- a pass that is left as it is
pub outside_still : {B T I Q A : Type 0} (place : Slotted (Option B) (Doing B (View T I)) Q A) (p : Pass B (View T I)) → IsOutside place p → IsOutsideAgain place p p
outside_still place p outside = outside_itself place p outside
