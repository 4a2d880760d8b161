-- What a stop at any moment leaves of a journal while the committer appends to it. (Our own.)
use Rattle.std.specs.Prelude.{◌≡◌, ◌⊎◌, ℕ, ◌<◌, List, ◌++◌, map, length, Option, IfSome}
use Rattle.hd_task.specs.declared.task.Task.{Task}
use Rattle.hd_task.specs.declared.plan.Kid.{Kid}
use Rattle.hd_task.specs.declared.plan.TheConstants.{ROOT_PARENT}
use Rattle.hd_store.specs.declared.store.Store.{Ghosts}
use Rattle.hd_store.specs.Device.{content_of}
use Rattle.hd_image.specs.declared.version.Version.{Version}
use Rattle.hd_image.specs.declared.header.TheConstants.{FIRST_GATE}
use Rattle.hd_image.specs.Image.{entries_in}
use Rattle.hd_journal.specs.declared.journal.Journal.{Journal}
use Rattle.hd_journal.specs.Answers.{StandsIn}
use Rattle.hd_journal.specs.Journal.{IsOf, device_of, kid_of, kids_of}
use Rattle.hd_journal.specs.Moments.{LeavesSince, IsSettled}
use Rattle.hd_base.specs.Lists.{BeginsWith}
use Rattle.hd_entries.specs.Resuming.{AreLegal}

-- a log names a legal list of the task, where that is known, and its entries can be numbered
abbrev pub IsLegalLog : Option Task → List Kid → Type 0
IsLegalLog task log = IfSome task (λ t. AreLegal t log × (length log < ROOT_PARENT))

-- the pairs of the entries of groups
abbrev pub kids_of_groups : Version → List (List Kid) → List Kid
kids_of_groups v groups = map kid_of (entries_in v FIRST_GATE groups)

-- These groups stand in a content, and maybe more after them: whoever opens it finds just these
-- and those. All their pairs begin with the pairs that are wanted there; and if there are more
-- than those of the groups, all together name a legal list.
pub record StillStand (t : Task) (v : Version) (digest : List ℕ) (groups : List (List Kid)) (kids : List Kid) (content : List ℕ) : Type 0 where
  pub more : List (List Kid)
  pub stand : StandsIn v digest (groups ++ more) content
  pub has : BeginsWith (kids_of_groups v (groups ++ more)) kids
  pub legal : (kids_of_groups v (groups ++ more) ≡ kids_of_groups v groups) ⊎ AreLegal t (kids_of_groups v (groups ++ more))

-- A journal becomes another one, and nothing that it had is lost, where it had not failed. Where
-- nothing was pending on its device, whatever a stop leaves at any moment, also within a call on the
-- device, still has its groups. What a read gives in the end has them in any case, and all pairs
-- that the journal lists then, also after a call that failed. Those that it lists are the ones that
-- it had, or name a legal list.
pub record Survives {S : Type 0} {G : Ghosts S} (t : Task) (old new : Journal S G) : Type 0 where
  pub legal : (kids_of new ≡ kids_of old) ⊎ AreLegal t (kids_of new)
  pub moments :
      (digest : List ℕ) (groups : List (List Kid)) → IsOf digest groups old → IsSettled (device_of old)
      → LeavesSince (StillStand t old.version digest groups (kids_of old)) (device_of old) (device_of new)
  pub read :
      (digest : List ℕ) (groups : List (List Kid)) → IsOf digest groups old
      → StillStand t old.version digest groups (kids_of new) (content_of (device_of new))
