-- Journals that are opened, made and appended to, as the journals of groups.
use Rattle.std.proofs.Common.{◌≡◌, ℕ, ◌+◌, List, [], ◌∷◌, ◌++◌, length, map, Ok, Err, refl, sym, ap, ◌∙◌, subst, false, arith}
use Rattle.std.specs.List.{flat_map, AllByRecursion}
use Rattle.std.proofs.lemmas.List.{length-append, map-append}
use Rattle.hd_base.proofs.Lists.{AllByRecursion-push}
use Rattle.hd_task.specs.declared.plan.Kid.{Kid}
use Rattle.hd_image.specs.declared.entry.Entry.{Entry}
use Rattle.hd_image.specs.declared.version.Version.{Version}
use Rattle.hd_image.specs.declared.header.TheConstants.{FIRST_GATE, DIGEST_LEN}
use Rattle.hd_image.specs.declared.contents.Found.{Found}
use Rattle.hd_image.specs.Image.{IsGroup, counted, opened, front, image, entries_in, entries_of, entry_width}
use Rattle.hd_image.specs.Stops.{IsBeforeOrAfter}
use Rattle.hd_image.proofs.Joining.{opened-append}
use Rattle.hd_image.proofs.Stopping.{length-front, joined, appended_entries}
use Rattle.hd_store.specs.declared.store.Store.{Ghosts}
use Rattle.hd_store.specs.declared.error.StoreError.TheVariants as store
use Rattle.hd_store.specs.Device.{Device, content_of}
use Rattle.hd_journal.specs.declared.error.JournalError.{JournalError}
use Rattle.hd_journal.specs.declared.error.JournalError.TheVariants.{NotAJournal, OtherTask, Damaged, Device as Broken, Failed, JournalExists, NotOut, NoMemory}
use Rattle.hd_journal.specs.declared.journal.Journal.{Journal}
use Rattle.hd_journal.specs.Answers.{IsAppended, IsNotAppended}
use Rattle.hd_journal.specs.Group.{GroupView}
use Rattle.hd_journal.specs.Journal.{IsOf, IsSame, device_of, kid_of, kids_of, append_calls, version_in, found_in, gate_in}
use Rattle.hd_journal.specs.Moments.{LeavesSince, IsSettled}
use Rattle.hd_journal.proofs.Appending.{append_moments, behind_content, closed}
use Rattle.hd_journal.proofs.Opening.{Opens}
use Rattle.hd_journal.proofs.Passing.{unchanged}
use Rattle.hd_journal.proofs.Running.{led_on}

pub is_of : {S : Type 0} {G : Ghosts S} (digest : List ℕ) (groups : List (List Kid)) (journal : Journal S G) (found : Found)
    → length digest ≡ DIGEST_LEN → Opens digest found groups (device_of journal) → journal.version ≡ version_in found
    → journal.entries.items ≡ found_in found → journal.last_gate ≡ gate_in found → journal.failed ≡ false → IsOf digest groups journal
is_of digest groups journal found len o version entries gate running = record {
  digest_len = len;
  sound = subst (λ (v : Version). AllByRecursion (IsGroup v) groups) (sym version) o.sound;
  content = o.content ∙ ap (λ (v : Version). image v digest groups) (sym version);
  entries = entries ∙ (o.entries ∙ ap (λ (v : Version). entries_in v FIRST_GATE groups) (sym version));
  gate = gate ∙ (o.gate ∙ ap (λ (v : Version). length (front v digest groups)) (sym version));
  running = running;
}

next_gate : (v : Version) (digest : List ℕ) (groups : List (List Kid)) (next : List Kid) → length digest ≡ DIGEST_LEN
    → length (front v digest groups) + length (opened v next) ≡ length (front v digest (groups ++ next ∷ []))
next_gate v digest groups next len =
    let before = length-front v digest groups len in
    let after = length-front v digest (groups ++ next ∷ []) len in
    let all = ap length (opened-append v groups next) in
    let both = length-append (flat_map (opened v) groups) (opened v next) in
    omega (arith, before, after, all, both)

pub appended_is_of : {S : Type 0} {G : Ghosts S} (digest : List ℕ) (groups : List (List Kid)) (group : GroupView) (old new : Journal S G)
    → IsGroup old.version group.kids → IsOf digest groups old → IsAppended old group new → IsOf digest (groups ++ group.kids ∷ []) new
appended_is_of digest groups group old new held is a =
    let v = old.version in
    let next = group.kids in
    let all = groups ++ next ∷ [] in
    let same : v ≡ new.version = sym a.version in
    record {
      digest_len = is.digest_len;
      sound = subst (λ (w : Version). AllByRecursion (IsGroup w) all) same (AllByRecursion-push (IsGroup v) groups next is.sound held);
      content = behind_content (device_of old) (device_of new) (front v digest groups) (counted v next ++ 0 ∷ []) old.last_gate is.content is.gate a.ran
          ∙ (joined v digest groups next ∙ ap (λ (w : Version). image w digest all) same);
      entries =
          a.entries
          ∙ (ap (λ (es : List Entry). es ++ entries_of v (old.last_gate + 5) next) is.entries
          ∙ (ap (λ (at : ℕ). entries_in v FIRST_GATE groups ++ entries_of v (at + 5) next) is.gate
          ∙ (sym (appended_entries v digest groups next is.digest_len) ∙ ap (λ (w : Version). entries_in w FIRST_GATE all) same)));
      gate =
          a.gate
          ∙ (ap (λ (at : ℕ). at + length (opened v next)) is.gate
          ∙ (next_gate v digest groups next is.digest_len ∙ ap (λ (w : Version). length (front w digest all)) same));
      running = a.still;
    }

same_moments : {S : Type 0} {G : Ghosts S} (digest : List ℕ) (groups : List (List Kid)) (group : GroupView) (old new : Journal S G)
    → IsOf digest groups old → IsSettled (device_of old) → IsSame old new
    → LeavesSince (IsBeforeOrAfter old.version digest groups group.kids) (device_of old) (device_of new)
same_moments digest groups group old new is settled same =
    unchanged (IsBeforeOrAfter old.version digest groups group.kids) (device_of old) (device_of new)
    (ap (λ (d : Device). d.start) same.device) (ap (λ (d : Device). d.steps) same.device) settled
    (closed old.version digest groups group.kids (content_of (device_of old)) [] is.content)

pub appended_moments : {S : Type 0} {G : Ghosts S} (digest : List ℕ) (groups : List (List Kid)) (group : GroupView) (old new : Journal S G)
    → IsOf digest groups old → IsSettled (device_of old) → IsAppended old group new
    → LeavesSince (IsBeforeOrAfter old.version digest groups group.kids) (device_of old) (device_of new)
appended_moments digest groups group old new is settled a =
    append_moments old.version digest groups group.kids (device_of old) (device_of new) old.last_gate (Ok tt) is.gate settled is.content a.ran

pub not_appended_moments : {S : Type 0} {G : Ghosts S} (digest : List ℕ) (groups : List (List Kid)) (group : GroupView) (old new : Journal S G)
    (error : JournalError) → IsOf digest groups old → IsSettled (device_of old) → IsNotAppended old group error new
    → LeavesSince (IsBeforeOrAfter old.version digest groups group.kids) (device_of old) (device_of new)
not_appended_moments digest groups group old new NotAJournal is settled not = absurd not
not_appended_moments digest groups group old new OtherTask is settled not = absurd not
not_appended_moments digest groups group old new (Damaged at) is settled not = absurd not
not_appended_moments digest groups group old new Broken is settled not =
    append_moments old.version digest groups group.kids (device_of old) (device_of new) old.last_gate (Err store.Failed) is.gate settled is.content not.ran
not_appended_moments digest groups group old new Failed is settled not = same_moments digest groups group old new is settled not.1
not_appended_moments digest groups group old new JournalExists is settled not = absurd not
not_appended_moments digest groups group old new NotOut is settled not = same_moments digest groups group old new is settled not.2
not_appended_moments digest groups group old new NoMemory is settled not = same_moments digest groups group old new is settled not.2

pub appended_settled : {S : Type 0} {G : Ghosts S} (group : GroupView) (old new : Journal S G) → IsAppended old group new → IsSettled (device_of new)
appended_settled group old new a =
    subst IsSettled (sym (led_on (device_of old) (device_of new) (append_calls old.version old.last_gate group.kids) a.ran)) refl

-- ---- its pairs

kids_back : (v : Version) (at : ℕ) (kids : List Kid) → map kid_of (entries_of v at kids) ≡ kids
kids_back v at [] = refl
kids_back v at (kid ∷ kids) = ap (λ (ks : List Kid). kid ∷ ks) (kids_back v (at + entry_width v) kids)

pub appended_kids : {S : Type 0} {G : Ghosts S} (group : GroupView) (old new : Journal S G) → IsAppended old group new
    → kids_of new ≡ kids_of old ++ group.kids
appended_kids group old new a =
    ap (map kid_of) a.entries
    ∙ (map-append kid_of old.entries.items (entries_of old.version (old.last_gate + 5) group.kids)
    ∙ ap (λ (ks : List Kid). map kid_of old.entries.items ++ ks) (kids_back old.version (old.last_gate + 5) group.kids))

pub not_appended_kids : {S : Type 0} {G : Ghosts S} (group : GroupView) (old new : Journal S G) (error : JournalError)
    → IsNotAppended old group error new → kids_of new ≡ kids_of old
not_appended_kids group old new NotAJournal not = absurd not
not_appended_kids group old new OtherTask not = absurd not
not_appended_kids group old new (Damaged at) not = absurd not
not_appended_kids group old new Broken not = ap (map kid_of) not.entries
not_appended_kids group old new Failed not = ap (map kid_of) not.1.entries
not_appended_kids group old new JournalExists not = absurd not
not_appended_kids group old new NotOut not = ap (map kid_of) not.2.entries
not_appended_kids group old new NoMemory not = ap (map kid_of) not.2.entries
