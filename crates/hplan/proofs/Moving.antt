-- From entries that are read and written to what is reported of the two files.
use Rattle.std.proofs.Common.{◌≡◌, ◌≢◌, inl, inr, ℕ, ◌≤◌, List, [], map, length, arith, Option, IfSome, Ok, Err, sym, ap, ◌∙◌, subst}
use Rattle.std.specs.Prelude.{Result, IfOk, IfErr}
use Rattle.std.specs.declared.io.ErrorKind.{ErrorKind}
use Rattle.hd_plan.specs.Output.{AppendsShort}
use Rattle.hd_task.specs.declared.task.Task.{Task}
use Rattle.hd_task.specs.declared.plan.Kid.{Kid}
use Rattle.hd_store.specs.Device.{Device, content_of}
use Rattle.hd_image.specs.declared.entry.Entry.{Entry}
use Rattle.hd_image.specs.declared.contents.Found.{Found}
use Rattle.hd_image.specs.declared.version.Version.{Version}
use Rattle.hd_image.specs.declared.version.Version.TheVariants.{One, Two}
use Rattle.hd_image.specs.Image.{most_of}
use Rattle.hd_journal.specs.declared.error.JournalError.{JournalError}
use Rattle.hd_journal.specs.declared.error.JournalError.TheVariants as journal
use Rattle.hd_journal.specs.Journal.{found_in, kid_of, version_in}
use Rattle.hd_entries.specs.Resuming.{AreLegal}
use Rattle.hd_certify.specs.declared.error.RecoverError.{RecoverError}
use Rattle.hd_certify.specs.Error.{IsRecoverRefusal}
use Rattle.hd_journal.specs.Copy.{IsCopyOf, IsNotCopied as NotCopied, IsCopyUnderWay}
use Rattle.hd_texts.specs.Digest.{digest_of}
use Rattle.hd_texts.specs.declared.fault.TaskFault.{TaskFault}
use Rattle.hd_texts.specs.Tasks.{IsTaskOf, ExplainsTask}
use Rattle.hplan.specs.declared.fault.Fault.{Fault}
use Rattle.hplan.specs.declared.migrating.Extent.{Extent}
use Rattle.hplan.specs.declared.migrating.NamedKids.{NamedKids}
use Rattle.hplan.specs.Fault.{task_in, journal_in, certify_in, AnswersFault}
use Rattle.hplan.specs.Certifying.{OnContent, IsNotRead}
use Rattle.hplan.specs.Kept.{OnFile}
use Rattle.hplan.specs.Migrating.{IsFoundBy, IsNamedIn, AreRead, NamesNothing, OfEntries, FailsToName, HasNoKids, OfTexts, OfFile, IsCopied, IsLeftByMigration, TellsOfCopy, FailsToCopy, Moving, moving, IsMigration, AreNotMoved, Unread, Unwritten, HasNoMigration, HasNoMigrationYet, NotMoved, OfOutput, migrated_text}
use Rattle.hplan.proofs.Certificates.{on_content}
use Rattle.hplan.proofs.Writing.{untouched, failed}

-- ---- what is read

pub most_fits : (v : Version) → most_of v ≤ most_of Two
most_fits One = omega arith
most_fits Two = omega arith

-- the pairs of what was found
pub named_by : (t : Task) (digest : List ℕ) (extent : Extent) (content : List ℕ) (dropped : Option ℕ) (found : Found) (entries lent : List Entry)
    (kids : List Kid) → IsFoundBy extent digest content dropped found → lent ≡ entries → entries ≡ found_in found → kids ≡ map kid_of lent
    → AreLegal t (map kid_of lent) → IsNamedIn t digest extent content dropped kids
named_by t digest extent content dropped found entries lent kids is same those are legal = record {
  found = found;
  is_found = is;
  are = are ∙ ap (map kid_of) (same ∙ those);
  legal = subst (AreLegal t) (sym are) legal;
}

-- the entries of what was found are refused
pub names_refused : (t : Task) (digest : List ℕ) (extent : Extent) (content : List ℕ) (dropped : Option ℕ) (found : Found)
    (entries lent : List Entry) (most : ℕ) (error : RecoverError) → IsFoundBy extent digest content dropped found → lent ≡ entries
    → entries ≡ found_in found → most ≡ most_of (version_in found) → IsRecoverRefusal t most lent error
    → NamesNothing t digest extent content (certify_in error)
names_refused t digest extent content dropped found entries lent most error is same those limit refused =
    OfEntries dropped found error is
    (subst (λ (es : List Entry). IsRecoverRefusal t (most_of (version_in found)) es error) (same ∙ those)
    (subst (λ (m : ℕ). IsRecoverRefusal t m lent error) limit refused))

pub read_by : (domain problem : List ℕ) (t : Task) → IsTaskOf domain problem t → (digest : List ℕ) (extent : Extent) (file : Option (List ℕ))
    (r : Result NamedKids Fault) → digest ≡ digest_of domain problem
    → IfOk r (λ n. OnContent file (λ content. IsNamedIn t digest extent content n.dropped n.kids.items))
    → IfOk r (λ n. AreRead domain problem extent file n.dropped n.kids.items)
read_by domain problem t task digest extent file (Ok n) is read = record {
  task = t;
  is_task = task;
  named = on_content file (λ content. IsNamedIn t digest extent content n.dropped n.kids.items)
      (λ content. IsNamedIn t (digest_of domain problem) extent content n.dropped n.kids.items)
      (λ content. subst (λ (d : List ℕ). IsNamedIn t d extent content n.dropped n.kids.items) is) read;
}
read_by domain problem t task digest extent file (Err f) is read = tt

pub unread_by : {A : Type 0} (domain problem : List ℕ) (t : Task) → IsTaskOf domain problem t → (digest : List ℕ) (extent : Extent)
    (file : Option (List ℕ)) (r : Result A Fault) → digest ≡ digest_of domain problem → IfErr r (FailsToName t digest extent file)
    → IfErr r (HasNoKids domain problem extent file)
unread_by domain problem t task digest extent file (Ok v) is fails = tt
unread_by domain problem t task digest extent file (Err f) is fails =
    OfFile t f task (subst (λ (d : List ℕ). FailsToName t d extent file f) is fails)

pub no_texts : (domain problem : List ℕ) (extent : Extent) (file : Option (List ℕ)) (f : TaskFault) (fault : Fault) → fault ≡ task_in f
    → ExplainsTask domain problem f → HasNoKids domain problem extent file fault
no_texts domain problem extent file f fault is told = subst (HasNoKids domain problem extent file) (sym is) (OfTexts f told)

-- the texts, or the file, were not read
pub kids_not_read : (domain problem : List ℕ) (extent : Extent) (file : Option (List ℕ)) (f : Fault) → IsNotRead domain problem file f
    → HasNoKids domain problem extent file f
kids_not_read domain problem extent file f (inl k) = no_texts domain problem extent file k.0 f k.1 k.2
kids_not_read domain problem extent file f (inr k) = OfFile k.0 f k.1 (inl k.2)

-- ---- what is written

left_by : (digest : List ℕ) (kids : List Kid) (before after : List ℕ) → (before ≢ [] → after ≡ before)
    → (before ≡ [] → IsCopyUnderWay digest kids after) → IsLeftByMigration digest kids before after
left_by digest kids before after kept under_way = record { kept = kept; under_way = under_way }

tells_by : (digest : List ℕ) (kids : List Kid) (old new : Device) (error : JournalError) → NotCopied old error new
    → IsLeftByMigration digest kids (content_of old) (content_of new) → TellsOfCopy digest kids (content_of old) (content_of new) error
tells_by digest kids old new journal.NotAJournal not left = not
tells_by digest kids old new journal.OtherTask not left = not
tells_by digest kids old new (journal.Damaged at) not left = not
tells_by digest kids old new journal.Device not left = left
tells_by digest kids old new journal.Failed not left = not
tells_by digest kids old new journal.JournalExists not left = (not.0, ap content_of not.1)
tells_by digest kids old new journal.NotOut not left = not
tells_by digest kids old new journal.NoMemory not left = left

pub copied_in : (digest : List ℕ) (kids : List Kid) (old new : Option (List ℕ)) (before after : Device)
    → IfSome old (λ bytes. content_of before ≡ bytes) → IfSome new (λ bytes. content_of after ≡ bytes)
    → content_of before ≡ [] → IsCopyOf digest kids (content_of after) → OnFile old new (IsCopied digest kids)
copied_in digest kids old new before after was is empty copy = record {
  before = content_of before;
  after = content_of after;
  known_before = was;
  known_after = is;
  holds = record { empty = empty; copy = copy };
}

pub not_copied_in : (digest : List ℕ) (kids : List Kid) (old new : Option (List ℕ)) (before after : Device) (error : JournalError) (fault : Fault)
    → IfSome old (λ bytes. content_of before ≡ bytes) → IfSome new (λ bytes. content_of after ≡ bytes) → fault ≡ journal_in error
    → NotCopied before error after → (content_of before ≢ [] → content_of after ≡ content_of before)
    → (content_of before ≡ [] → IsCopyUnderWay digest kids (content_of after)) → FailsToCopy digest kids old new fault
not_copied_in digest kids old new before after error fault was is told not kept under_way = inr (record {
  before = content_of before;
  after = content_of after;
  known_before = was;
  known_after = is;
  holds = record {
    error = error;
    is = told;
    tells = tells_by digest kids before after error not (left_by digest kids (content_of before) (content_of after) kept under_way);
  };
})

-- ---- both

pub migration_by : (domain problem : List ℕ) (extent : Extent) (from to : List ℕ) (held before after : Option (List ℕ)) (dropped : Option ℕ)
    (kids : List Kid) (count : ℕ) (text digest : List ℕ) (written : List Kid) → AreRead domain problem extent held dropped kids
    → digest ≡ digest_of domain problem → written ≡ kids → OnFile before after (IsCopied digest written) → count ≡ length kids
    → text ≡ migrated_text count dropped → IsMigration domain problem (moving extent from to held before after) text
migration_by domain problem extent from to held before after dropped kids count text digest written read is all copied counted told = record {
  count = count;
  dropped = dropped;
  moved = record {
    kids = kids;
    read = read;
    copied = subst (λ (ks : List Kid). OnFile before after (IsCopied (digest_of domain problem) ks)) all
        (subst (λ (d : List ℕ). OnFile before after (IsCopied d written)) is copied);
    counted = counted;
  };
  told = told;
}

pub unwritten_by : (domain problem : List ℕ) (extent : Extent) (from to : List ℕ) (held before after : Option (List ℕ)) (dropped : Option ℕ)
    (kids : List Kid) (digest : List ℕ) (written : List Kid) (f : Fault) → AreRead domain problem extent held dropped kids
    → digest ≡ digest_of domain problem → written ≡ kids → FailsToCopy digest written before after f
    → AreNotMoved domain problem (moving extent from to held before after) f
unwritten_by domain problem extent from to held before after dropped kids digest written f read is all fails =
    Unwritten dropped kids f read
    (subst (λ (ks : List Kid). FailsToCopy (digest_of domain problem) ks before after f) all
    (subst (λ (d : List ℕ). FailsToCopy d written before after f) is fails))

not_yet : (domain problem : List ℕ) (m : Moving) (f : Fault) → AreNotMoved domain problem m f → HasNoMigrationYet domain problem m f
not_yet domain problem m f not = λ bytes noted. NotMoved (untouched bytes noted) f not

pub not_moved : {A : Type 0} (domain problem : List ℕ) (m : Moving) (r : Result A Fault) → IfErr r (AreNotMoved domain problem m)
    → IfErr r (HasNoMigrationYet domain problem m)
not_moved domain problem m (Ok text) not = tt
not_moved domain problem m (Err f) not = not_yet domain problem m f not

pub not_read : (domain problem : List ℕ) (extent : Extent) (from to : List ℕ) (held before after : Option (List ℕ)) (f : Fault)
    → HasNoKids domain problem extent held f → after ≡ before
    → HasNoMigrationYet domain problem (moving extent from to held before after) f
not_read domain problem extent from to held before after f not same =
    not_yet domain problem (moving extent from to held before after) f (Unread f not same)

-- a fault of the output
pub migration_fails : (domain problem : List ℕ) (m : Moving) (text : List ℕ) (old new : Option (List ℕ)) (before noted : Option ErrorKind)
    (f : Fault) → IsMigration domain problem m text → AppendsShort old new text → AnswersFault noted f
    → HasNoMigration domain problem m old new before noted f
migration_fails domain problem m text old new before noted f s short told =
    OfOutput f (failed (IsMigration domain problem m) text old new noted f s short told)
