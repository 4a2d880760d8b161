-- What a stop leaves of a file while a search over it goes on.
use Rattle.std.proofs.Common.{◌≡◌, inl, inr, List, [], ◌∷◌, ◌++◌, ℕ, refl, sym, ap, ◌∙◌, subst, append_assoc, append-nil}
use Rattle.hd_task.specs.declared.task.Task.{Task}
use Rattle.hd_task.specs.declared.plan.Kid.{Kid}
use Rattle.hd_store.specs.declared.store.Store.{Ghosts}
use Rattle.hd_store.specs.Device.{Device, content_of}
use Rattle.hd_image.specs.declared.version.Version.{Version}
use Rattle.hd_image.specs.Stops.{IsBeforeOrAfter}
use Rattle.hd_journal.specs.declared.journal.Journal as of
use Rattle.hd_journal.specs.Answers.{StandsIn}
use Rattle.hd_journal.specs.Journal.{IsOf, device_of, kids_of}
use Rattle.hd_journal.specs.Moments.{IsSettled, LeavesSince}
use Rattle.hd_journal.proofs.Passing.{then_since}
use Rattle.hd_journal.proofs.Standing.{stop_stands}
use Rattle.hd_threads.specs.Surviving.{StillStand, Survives}
use Rattle.hd_journal.proofs.Joining.{weaker_since}
use Rattle.hplan.specs.Kept.{HasGroups, HasSamePast, WasStopped}

module _ (v : Version) (digest : List ℕ) (groups : List (List Kid)) where
  abbrev Has : List ℕ → Type 0
  Has = HasGroups v digest groups

  has_these : (content : List ℕ) → StandsIn v digest groups content → Has content
  has_these content stand = ([], subst (λ gs. StandsIn v digest gs content) (sym (append-nil groups)) stand)

  -- while the journal is opened
  pub has_while_opened : (next : List Kid) (old new : Device) → WasStopped v digest groups next old
      → LeavesSince (IsBeforeOrAfter v digest groups next) old new → LeavesSince Has old new
  has_while_opened next old new stopped leaves =
      weaker_since (IsBeforeOrAfter v digest groups next) Has (λ content left.
      elim (stop_stands v digest groups next content stopped.sound stopped.group left) [
        | inl stand ↦ has_these content stand
        | inr stand ↦ (next ∷ [], stand)
      ]) old new leaves

  module _ {S : Type 0} {G : Ghosts S} (t : Task) (old new : of.Journal S G) (survives : Survives t old new) (settled : IsSettled (device_of old)) where
    -- while the search goes on from some groups, the first ones among them
    has_from : (all behind : List (List Kid)) → all ≡ groups ++ behind → (old.version ≡ v) × IsOf digest all old → LeavesSince Has (device_of old) (device_of new)
    has_from all behind same is =
        weaker_since (StillStand t old.version digest all (kids_of old)) Has (λ content still. (
          behind ++ still.more,
          subst (λ gs. StandsIn v digest gs content) (ap (λ gs. gs ++ still.more) same ∙ append_assoc groups behind still.more)
              (subst (λ u. StandsIn u digest (all ++ still.more) content) is.0 still.stand),
        )) (device_of old) (device_of new) (survives.moments digest all is.1 settled)

    pub has_while_searched : (next : List Kid) (store : Device) → WasStopped v digest groups next store
        → ((all : List (List Kid)) → StandsIn v digest all (content_of store) → (old.version ≡ v) × IsOf digest all old)
        → LeavesSince Has (device_of old) (device_of new)
    has_while_searched next store stopped opened =
        elim (stop_stands v digest groups next (content_of store) stopped.sound stopped.group stopped.left) [
          | inl stand ↦ has_from groups [] (sym (append-nil groups)) (opened groups stand)
          | inr stand ↦ has_from (groups ++ next ∷ []) (next ∷ []) refl (opened (groups ++ next ∷ []) stand)
        ]

-- what holds of all that stops leave holds of it after a device was looked at
looked_since : (P : List ℕ → Type 0) (old mid new : Device) → HasSamePast mid new → LeavesSince P old mid → LeavesSince P old new
looked_since P old mid new same leaves = record {
  since = leaves.since;
  start = same.start ∙ leaves.start;
  steps = same.steps ∙ leaves.steps;
  each = leaves.each;
}

-- one after the other: the journal is opened, the search goes on, and its store is looked at again
pub has_throughout : (v : Version) (digest : List ℕ) (groups : List (List Kid)) (store begun searched left : Device)
    → LeavesSince (HasGroups v digest groups) store begun → LeavesSince (HasGroups v digest groups) begun searched → HasSamePast searched left
    → LeavesSince (HasGroups v digest groups) store left
has_throughout v digest groups store begun searched left first then same =
    looked_since (HasGroups v digest groups) store searched left same
    (then_since (HasGroups v digest groups) store begun searched first then)
