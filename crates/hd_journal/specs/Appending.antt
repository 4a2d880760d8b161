-- Entries that are appended to a journal in groups, for the functions that make it up. (Our own.)
use Rattle.std.specs.Prelude.{◌≡◌, ℕ, false, List, [], ◌∷◌, ◌++◌}
use Rattle.hd_task.specs.declared.plan.Kid.{Kid}
use Rattle.hd_store.specs.declared.store.Store.{Ghosts}
use Rattle.hd_store.specs.Device.{content_of, one_more}
use Rattle.hd_journal.specs.declared.error.JournalError.{JournalError}
use Rattle.hd_journal.specs.declared.error.JournalError.TheVariants.{NotAJournal, OtherTask, Damaged, Device as Broken, Failed, JournalExists, NotOut, NoMemory}
use Rattle.hd_journal.specs.declared.journal.Journal.{Journal}
use Rattle.hd_journal.specs.Journal.{IsOf, device_of}
use Rattle.hd_journal.specs.Moments.{IsSettled, LeavesSince}
use Rattle.hd_journal.specs.Copy.{kids_in, AreFull, HasFirstOf}

-- a stop leaves at each moment, from when a journal was the old one until it is the new one,
-- groups with the first of these entries after those that were there, of which others may follow
abbrev pub LeavesFirst : {S : Type 0} {G : Ghosts S} → Journal S G → List Kid → Journal S G → Type 0
LeavesFirst old kids new =
    (digest : List ℕ) (before : List (List Kid)) (rest : List Kid) → IsOf digest before old → IsSettled (device_of old)
    → LeavesSince (HasFirstOf old.version digest (kids_in before ++ (kids ++ rest))) (device_of old) (device_of new)

-- a journal of these groups has become that of these and more, which are as large as may be and
-- have these entries
pub record HasMore {S : Type 0} {G : Ghosts S} (digest : List ℕ) (before : List (List Kid)) (kids : List Kid) (new : Journal S G) : Type 0 where
  pub more : List (List Kid)
  pub full : AreFull more
  pub joined : kids_in more ≡ kids
  pub is : IsOf digest (before ++ more) new

-- entries were appended to a journal, in groups as large as may be
pub record Appends {S : Type 0} {G : Ghosts S} (old : Journal S G) (kids : List Kid) (new : Journal S G) : Type 0 where
  pub version : new.version ≡ old.version
  pub running : new.failed ≡ false
  pub failures : (device_of new).failures ≡ (device_of old).failures
  pub groups : (digest : List ℕ) (before : List (List Kid)) → IsOf digest before old → HasMore digest before kids new
  pub moments : LeavesFirst old kids new
  pub settled : IsSettled (device_of old) → IsSettled (device_of new)

-- entries were appended as one group
pub record AppendsOne {S : Type 0} {G : Ghosts S} (old : Journal S G) (kids : List Kid) (new : Journal S G) : Type 0 where
  pub version : new.version ≡ old.version
  pub running : new.failed ≡ false
  pub failures : (device_of new).failures ≡ (device_of old).failures
  pub groups : (digest : List ℕ) (before : List (List Kid)) → IsOf digest before old → IsOf digest (before ++ kids ∷ []) new
  pub moments : LeavesFirst old kids new
  pub settled : IsSettled (device_of new)

-- why entries are not appended, or not all, where they may be: the device failed, and has counted
-- that; or there is no memory, and nothing failed
abbrev pub Tells : {S : Type 0} {G : Ghosts S} → Journal S G → JournalError → Journal S G → Type 0
Tells old NotAJournal new = ⊥
Tells old OtherTask new = ⊥
Tells old (Damaged at) new = ⊥
Tells old Broken new = (device_of new).failures ≡ one_more (device_of old).failures
Tells old Failed new = ⊥
Tells old JournalExists new = ⊥
Tells old NotOut new = ⊥
Tells old NoMemory new = (device_of new).failures ≡ (device_of old).failures

-- the same, and what is there then, and what a stop leaves at each moment
pub record Breaks {S : Type 0} {G : Ghosts S} (old : Journal S G) (kids : List Kid) (error : JournalError) (new : Journal S G) : Type 0 where
  pub tells : Tells old error new
  pub left :
      (digest : List ℕ) (before : List (List Kid)) (rest : List Kid) → IsOf digest before old
      → HasFirstOf old.version digest (kids_in before ++ (kids ++ rest)) (content_of (device_of new))
  pub moments : LeavesFirst old kids new
