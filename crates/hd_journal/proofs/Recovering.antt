-- Files that were opened, and that were not.
use Rattle.std.proofs.Common.{◌≡◌, inl, inr, ℕ, suc, ◌≤◌, ◌==◌, Bool, true, false, Option, Some, None, List, [], ◌∷◌, length, Result, Ok, Err, refl, sym, ap, subst, arith}
use Rattle.std.specs.Prelude.{MatchBool, MatchOption}
use Rattle.std.specs.List.{AllByRecursion}
use Rattle.hd_task.specs.declared.plan.Kid.{Kid}
use Rattle.hd_image.specs.declared.version.Version.{Version}
use Rattle.hd_image.specs.declared.version.Version.TheVariants.{Two}
use Rattle.hd_image.specs.declared.header.TheConstants.{DIGEST_LEN}
use Rattle.hd_image.specs.declared.contents.Found.{Found}
use Rattle.hd_image.specs.Image.{IsGroup}
use Rattle.hd_image.specs.Reading.{IsFound}
use Rattle.hd_image.specs.Stops.{IsBeforeOrAfter, IsMaking}
use Rattle.hd_store.specs.declared.error.StoreError.{StoreError}
use Rattle.hd_store.specs.declared.error.StoreError.TheVariants as store
use Rattle.hd_store.specs.declared.error.TheConstants.{MOST_FAILURES}
use Rattle.hd_store.specs.Ahead.{GoesAs, GoesAsForetold, foretold_of_length}
use Rattle.hd_store.specs.Device.{Device, content_of, looked_at}
use Rattle.hd_journal.specs.declared.error.JournalError.{JournalError}
use Rattle.hd_journal.specs.declared.error.JournalError.TheVariants.{NotAJournal, OtherTask, Damaged, Device as Broken, Failed, JournalExists, NotOut, NoMemory}
use Rattle.hd_journal.specs.Answers.{BreaksMending, IsMended, IsNotMade, IsNotOpened, IsSeen, MayTellLength, StandsIn}
use Rattle.hd_journal.specs.Calls.{Ran}
use Rattle.hd_journal.specs.Error.{of_store}
use Rattle.hd_journal.specs.Journal.{create_calls, open_calls, version_in}
use Rattle.hd_journal.specs.Moments.{LeavesSince, IsSettled}
use Rattle.hd_journal.proofs.Again.{making_moments, making_opens, open_moments, open_settled}
use Rattle.hd_journal.proofs.Making.{create_moments}
use Rattle.hd_journal.proofs.Opening.{Opens, opens, stands_opens}
use Rattle.hd_journal.proofs.Passing.{unchanged}

-- ---- making

-- the length that was told says nothing of whether it may be told
told_by : (is_most : Bool) (known : Option Bool) (len : ℕ)
    → MatchBool is_most (◌≡◌ {A = Result ℕ StoreError} (Ok len) (Err store.Failed)) (MatchOption known (Unit {0}) (GoesAs {X = ℕ} (Ok len)))
    → MatchBool is_most (◌≡◌ {A = Result (Unit {0}) StoreError} (Ok tt) (Err store.Failed)) (MatchOption known (Unit {0}) (GoesAs {X = Unit {0}} (Ok tt)))
told_by true known len e = cc
told_by false None len e = tt
told_by false (Some fails) len e = e

pub may_tell : (old : Device) (len : ℕ) → GoesAsForetold {X = ℕ} (Ok len) old.failures (foretold_of_length old.reads) → MayTellLength old (Ok tt)
may_tell old len e = told_by (old.failures == MOST_FAILURES) (foretold_of_length old.reads) len e

pub not_made : (digest : List ℕ) (old new : Device) (error : StoreError) → MayTellLength old (Ok tt) → content_of old ≡ []
    → Ran old (create_calls digest) (Err error) new → IsNotMade digest old (of_store error) new
not_made digest old new store.NoMemory told empty ran = (told, empty, ran)
not_made digest old new store.Failed told empty ran = inr (told, empty, ran)

none_longer : (n : ℕ) → suc n ≤ 0 → ⊥
none_longer n e = omega (arith, e)

pub no_items : (xs : List ℕ) → length xs ≤ 0 → xs ≡ []
no_items [] none = refl
no_items (x ∷ xs) some = absurd (none_longer (length xs) some)

empty_making : (digest content : List ℕ) → content ≡ [] → IsMaking Two digest content
empty_making digest content empty = inl (let none = ap length empty in omega (arith, none))

pub empty_short : (content : List ℕ) → content ≡ [] → length content ≤ 1
empty_short content empty = let none = ap length empty in omega (arith, none)

pub not_made_moments : (digest : List ℕ) (old new : Device) (error : JournalError) → length digest ≡ DIGEST_LEN → IsSettled old
    → content_of old ≡ [] → IsNotMade digest old error new → LeavesSince (IsMaking Two digest) old new
not_made_moments digest old new NotAJournal len settled empty not = absurd not
not_made_moments digest old new OtherTask len settled empty not = absurd not
not_made_moments digest old new (Damaged at) len settled empty not = absurd not
not_made_moments digest old new Broken len settled empty not =
    elim not [
      | inl length_fails ↦
          unchanged (IsMaking Two digest) old new (ap (λ (d : Device). d.start) length_fails.1) (ap (λ (d : Device). d.steps) length_fails.1) settled
          (empty_making digest (content_of old) empty)
      | inr broke ↦ create_moments digest old new (Err store.Failed) len settled (empty_short (content_of old) empty) broke.2
    ]
not_made_moments digest old new Failed len settled empty not = absurd not
not_made_moments digest old new JournalExists len settled empty not = absurd (not.1 empty)
not_made_moments digest old new NotOut len settled empty not = absurd not
not_made_moments digest old new NoMemory len settled empty not =
    create_moments digest old new (Err store.NoMemory) len settled (empty_short (content_of old) empty) not.2

-- ---- what was read is what stands there

seen_settled : (old seen : Device) → IsSeen old seen → IsSettled old → IsSettled seen
seen_settled old seen looked settled = subst IsSettled (sym looked.2) settled

seen_content : (P : List ℕ → Type 0) (old seen : Device) → IsSeen old seen → P (content_of old) → P (content_of seen)
seen_content P old seen looked holds = subst (λ (d : Device). P (content_of d)) (sym looked.2) holds

-- reading is no step
from_seen : (P : List ℕ → Type 0) (old seen new : Device) → IsSeen old seen → LeavesSince P seen new → LeavesSince P old new
from_seen P old seen new looked left =
    let m = subst (λ (d : Device). LeavesSince P d new) looked.2 left in
    record { since = m.since; start = m.start; steps = m.steps; each = m.each }

-- ---- opened

pub mended_opens : (digest : List ℕ) (old : Device) (found : Found) (new : Device) → length digest ≡ DIGEST_LEN → IsMended digest old found new
    → (groups : List (List Kid)) × Opens digest found groups new
mended_opens digest old found new len m =
    opens digest found m.seen new len (seen_content (λ c. IsFound digest c found) old m.seen m.looked m.is) m.ran

pub mended_groups : (v : Version) (digest : List ℕ) (groups : List (List Kid)) (old : Device) (found : Found) (new : Device)
    → length digest ≡ DIGEST_LEN → StandsIn v digest groups (content_of old) → IsMended digest old found new
    → (version_in found ≡ v) × Opens digest found groups new
mended_groups v digest groups old found new len stands m =
    let there = seen_content (StandsIn v digest groups) old m.seen m.looked stands in
    stands_opens v digest groups there.gate there.behind found m.seen new len there.sound there.ends there.whole
    (seen_content (λ c. IsFound digest c found) old m.seen m.looked m.is) m.ran

pub mended_none : (digest : List ℕ) (old : Device) (found : Found) (new : Device)
    → length digest ≡ DIGEST_LEN → IsMaking Two digest (content_of old) → IsMended digest old found new
    → (version_in found ≡ Two) × Opens digest found [] new
mended_none digest old found new len making m =
    making_opens digest found m.seen new len (seen_content (IsMaking Two digest) old m.seen m.looked making)
    (seen_content (λ c. IsFound digest c found) old m.seen m.looked m.is) m.ran

pub mended_settled : (digest : List ℕ) (old : Device) (found : Found) (new : Device) → IsSettled old → IsMended digest old found new → IsSettled new
mended_settled digest old found new settled m = open_settled digest found m.seen new (seen_settled old m.seen m.looked settled) m.ran

-- ---- what a stop leaves meanwhile

ran_making : (digest : List ℕ) (old seen : Device) (found : Found) (new : Device) (result : Result (Unit {0}) StoreError)
    → length digest ≡ DIGEST_LEN → IsSettled old → IsMaking Two digest (content_of old) → IsSeen old seen → IsFound digest (content_of old) found
    → Ran seen (open_calls digest found) result new → LeavesSince (IsMaking Two digest) old new
ran_making digest old seen found new result len settled making looked is ran =
    from_seen (IsMaking Two digest) old seen new looked
    (making_moments digest found seen new result len (seen_settled old seen looked settled)
    (seen_content (IsMaking Two digest) old seen looked making) (seen_content (λ c. IsFound digest c found) old seen looked is) ran)

ran_again : (v : Version) (digest : List ℕ) (groups : List (List Kid)) (next : List Kid) (old seen : Device) (found : Found) (new : Device)
    (result : Result (Unit {0}) StoreError) → length digest ≡ DIGEST_LEN → IsSettled old
    → AllByRecursion (IsGroup v) groups → IsGroup v next → IsBeforeOrAfter v digest groups next (content_of old)
    → IsSeen old seen → IsFound digest (content_of old) found
    → Ran seen (open_calls digest found) result new → LeavesSince (IsBeforeOrAfter v digest groups next) old new
ran_again v digest groups next old seen found new result len settled sound group left looked is ran =
    from_seen (IsBeforeOrAfter v digest groups next) old seen new looked
    (open_moments v digest groups next found seen new result len (seen_settled old seen looked settled) sound group
    (seen_content (IsBeforeOrAfter v digest groups next) old seen looked left)
    (seen_content (λ c. IsFound digest c found) old seen looked is) ran)

pub mended_making : (digest : List ℕ) (old : Device) (found : Found) (new : Device) → length digest ≡ DIGEST_LEN → IsSettled old
    → IsMaking Two digest (content_of old) → IsMended digest old found new → LeavesSince (IsMaking Two digest) old new
mended_making digest old found new len settled making m =
    ran_making digest old m.seen found new (Ok tt) len settled making m.looked m.is m.ran

pub mended_again : (v : Version) (digest : List ℕ) (groups : List (List Kid)) (next : List Kid) (old : Device) (found : Found) (new : Device)
    → length digest ≡ DIGEST_LEN → IsSettled old → AllByRecursion (IsGroup v) groups → IsGroup v next
    → IsBeforeOrAfter v digest groups next (content_of old) → IsMended digest old found new
    → LeavesSince (IsBeforeOrAfter v digest groups next) old new
mended_again v digest groups next old found new len settled sound group left m =
    ran_again v digest groups next old m.seen found new (Ok tt) len settled sound group left m.looked m.is m.ran

no_step : (P : List ℕ → Type 0) (old new : Device) → IsSettled old → P (content_of old) → new ≡ looked_at old → LeavesSince P old new
no_step P old new settled holds looked =
    unchanged P old new (ap (λ (d : Device). d.start) looked) (ap (λ (d : Device). d.steps) looked) settled holds

-- where no call was made that changes the device, or it broke off
not_opened_by : (P : List ℕ → Type 0) (digest : List ℕ) (old new : Device) (error : JournalError) → IsSettled old → P (content_of old)
    → ((e : StoreError) → BreaksMending digest old e new → LeavesSince P old new) → IsNotOpened digest old error new → LeavesSince P old new
not_opened_by P digest old new NotAJournal settled holds breaks not = no_step P old new settled holds not.1.2
not_opened_by P digest old new OtherTask settled holds breaks not = no_step P old new settled holds not.1.2
not_opened_by P digest old new (Damaged at) settled holds breaks not = no_step P old new settled holds not.1.2
not_opened_by P digest old new Broken settled holds breaks not =
    elim not [
      | inl length_fails ↦
          unchanged P old new (ap (λ (d : Device). d.start) length_fails.1) (ap (λ (d : Device). d.steps) length_fails.1) settled holds
      | inr more ↦ elim more [
        | inl read_fails ↦
            unchanged P old new (ap (λ (d : Device). d.start) read_fails.2) (ap (λ (d : Device). d.steps) read_fails.2) settled holds
        | inr broke ↦ breaks store.Failed broke
      ]
    ]
not_opened_by P digest old new Failed settled holds breaks not = absurd not
not_opened_by P digest old new JournalExists settled holds breaks not = absurd not
not_opened_by P digest old new NotOut settled holds breaks not = absurd not
not_opened_by P digest old new NoMemory settled holds breaks not =
    elim not [
      | inl early ↦ unchanged P old new (ap (λ (d : Device). d.start) early.1) (ap (λ (d : Device). d.steps) early.1) settled holds
      | inr more ↦ elim more [
        | inl seen ↦ no_step P old new settled holds seen.2
        | inr broke ↦ breaks store.NoMemory broke
      ]
    ]

pub not_opened_making : (digest : List ℕ) (old new : Device) (error : JournalError) → length digest ≡ DIGEST_LEN → IsSettled old
    → IsMaking Two digest (content_of old) → IsNotOpened digest old error new → LeavesSince (IsMaking Two digest) old new
not_opened_making digest old new error len settled making not =
    not_opened_by (IsMaking Two digest) digest old new error settled making
    (λ e b. ran_making digest old b.seen b.found new (Err e) len settled making b.looked b.is b.ran) not

pub not_opened_again : (v : Version) (digest : List ℕ) (groups : List (List Kid)) (next : List Kid) (old new : Device) (error : JournalError)
    → length digest ≡ DIGEST_LEN → IsSettled old → AllByRecursion (IsGroup v) groups → IsGroup v next
    → IsBeforeOrAfter v digest groups next (content_of old) → IsNotOpened digest old error new
    → LeavesSince (IsBeforeOrAfter v digest groups next) old new
not_opened_again v digest groups next old new error len settled sound group left not =
    not_opened_by (IsBeforeOrAfter v digest groups next) digest old new error settled left
    (λ e b. ran_again v digest groups next old b.seen b.found new (Err e) len settled sound group left b.looked b.is b.ran) not
