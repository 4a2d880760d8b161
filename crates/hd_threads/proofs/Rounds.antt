-- What a round of the committer leaves that appends nothing.
use Rattle.std.proofs.Common.{◌≡◌, ℕ, [], length, List, map, sym, ap, subst, ◌∙◌, append-nil}
use Rattle.std.specs.List.{AllByRecursion}
use Rattle.hd_task.specs.declared.plan.Kid.{Kid}
use Rattle.hd_store.specs.declared.store.Store.{Ghosts}
use Rattle.hd_store.specs.Device.{content_of}
use Rattle.hd_image.specs.declared.header.TheConstants.{FIRST_GATE}
use Rattle.hd_image.specs.Image.{IsGroup, image, front, entries_in}
use Rattle.hd_journal.specs.declared.journal.Journal.{Journal}
use Rattle.hd_journal.specs.declared.error.JournalError.{JournalError}
use Rattle.hd_journal.specs.declared.error.JournalError.TheVariants as errors
use Rattle.hd_journal.specs.Answers.{IsNotAppended}
use Rattle.hd_journal.specs.Group.{GroupView}
use Rattle.hd_journal.specs.Journal.{IsOf, IsSame, kid_of, kids_of}
use Rattle.hd_threads.specs.Faults.{of_journal}
use Rattle.hd_threads.specs.Growing.{JournalGrows}
use Rattle.hd_threads.specs.Committing.{StopsRound}

module _ {S : Type 0} {G : Ghosts S} where
  -- a journal of which all is as before is a later one
  pub grows_same : (old new : Journal S G) → IsSame old new → JournalGrows old new
  grows_same old new same = record {
    version = same.version;
    begins = ([], ap (map kid_of) same.entries ∙ sym (append-nil (kids_of old)));
    failed = same.failed;
    stuck = λ _. ap (map kid_of) same.entries;
    groups = λ digest groups is. (
      [],
      subst (λ (gs : List (List Kid)). IsOf digest gs new) (sym (append-nil groups)) (record {
        digest_len = is.digest_len;
        sound = subst (λ v. AllByRecursion (IsGroup v) groups) (sym same.version) is.sound;
        content = ap content_of same.device ∙ (is.content ∙ ap (λ v. image v digest groups) (sym same.version));
        entries = same.entries ∙ (is.entries ∙ ap (λ v. entries_in v FIRST_GATE groups) (sym same.version));
        gate = same.gate ∙ (is.gate ∙ ap (λ v. length (front v digest groups)) (sym same.version));
        running = same.failed ∙ is.running;
      }),
    );
  }

  -- why a group is not appended
  pub not_appended_stops : (old new : Journal S G) (group : GroupView) (error : JournalError) (n : ℕ) → IsNotAppended old group error new → kids_of new ≡ kids_of old → n ≡ length (kids_of old) → StopsRound old new n (of_journal error)
  not_appended_stops old new group errors.NotAJournal n x kids count = absurd x
  not_appended_stops old new group errors.OtherTask n x kids count = absurd x
  not_appended_stops old new group (errors.Damaged at) n x kids count = x
  not_appended_stops old new group errors.Device n x kids count = (x.running, x.failed, record { kids = kids; counted = count ∙ sym (ap length kids) })
  not_appended_stops old new group errors.Failed n x kids count = (x.0, record { kids = kids; counted = count ∙ sym (ap length kids) })
  not_appended_stops old new group errors.JournalExists n x kids count = absurd x
  not_appended_stops old new group errors.NotOut n x kids count = grows_same old new x.2
  not_appended_stops old new group errors.NoMemory n x kids count = (record { kids = kids; counted = count ∙ sym (ap length kids) }, grows_same old new x.2)
