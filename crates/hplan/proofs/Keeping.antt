-- From what is reported of a journal to what is reported of the file that holds it.
use Rattle.std.proofs.Common.{◌≡◌, ◌⊎◌, inl, inr, ℕ, ◌+◌, ◌≤◌, true, false, Ok, Err, Option, List, [], ◌∷◌, ◌++◌, map, length, refl, sym, ap, ◌∙◌, subst, IfSome, arith}
use Rattle.std.specs.Prelude.{Result, IfOk, IfErr, OnOk}
use Rattle.std.proofs.lemmas.List.{append-nil, map-append}
use Rattle.std.proofs.lemmas.Option.{none-some}
use Rattle.hd_task.specs.declared.task.Task.{Task}
use Rattle.hd_task.specs.declared.plan.Kid.{Kid}
use Rattle.hd_store.specs.declared.store.Store.{Ghosts}
use Rattle.hd_store.specs.Device.{Device, content_of}
use Rattle.hd_image.specs.declared.version.Version.{Version}
use Rattle.hd_image.specs.declared.entry.Entry.{Entry}
use Rattle.hd_image.specs.declared.version.Version.TheVariants.{Two}
use Rattle.hd_image.specs.declared.header.TheConstants.{DIGEST_LEN, FIRST_GATE}
use Rattle.hd_image.specs.Image.{most_of, opened, entry_width, entries_of, entries_in}
use Rattle.hd_journal.specs.declared.error.JournalError.{JournalError}
use Rattle.hd_journal.specs.declared.error.JournalError.TheVariants as journal
use Rattle.hd_journal.specs.declared.journal.Journal as of
use Rattle.hd_image.specs.declared.contents.Found.{Found}
use Rattle.hd_image.specs.declared.contents.Found.TheVariants.{Unmade, HalfMade, Journal}
use Rattle.hd_image.specs.Reading.{IsFound}
use Rattle.hd_image.specs.Stops.{IsMaking}
use Rattle.hd_store.specs.declared.error.StoreError.{StoreError}
use Rattle.hd_store.specs.declared.error.StoreError.TheVariants as store
use Rattle.hd_journal.specs.Answers.{IsOpened, IsNotMade, IsNotOpened, IsSeen, LengthFails, MayTellLength, BreaksMending}
use Rattle.hd_journal.specs.Calls.{Ran}
use Rattle.hd_journal.specs.Journal.{IsOf, device_of, kid_of, kids_of, found_in, create_calls, open_calls}
use Rattle.hd_journal.specs.Copy.{kids_in}
use Rattle.hd_threads.specs.declared.fault.RunFault.{RunFault}
use Rattle.hd_threads.specs.declared.fault.RunFault.TheVariants as searching
use Rattle.hd_certify.specs.Error.{IsDamagedAt}
use Rattle.hd_search.specs.declared.fault.ThreadsFault.{ThreadsFault}
use Rattle.hd_search.specs.declared.fault.ThreadsFault.TheVariants as threads
use Rattle.hd_search.specs.Fault.{IsFaulty, IsFullRightly, IsShortOfRoom, StopsRunning, TellsOfThreads}
use Rattle.hd_threads.specs.Growing.{JournalGrows}
use Rattle.hd_threads.specs.Surviving.{StillStand, Survives}
use Rattle.hd_journal.proofs.Staying.{mending_grows_not}
use Rattle.hd_journal.proofs.Contents.{create_ends}
use Rattle.hplan.proofs.Mended.{mended_stands, still_made}
use Rattle.hplan.specs.declared.fault.Fault.{Fault}
use Rattle.hplan.specs.declared.fault.Fault.TheVariants.{Search}
use Rattle.hplan.specs.declared.kept.Start.{Start}
use Rattle.hplan.specs.declared.kept.Start.TheVariants.{New, Kept}
use Rattle.hplan.specs.Fault.{journal_in, run_in, search_in}
use Rattle.hplan.specs.declared.told.Told.{Told}
use Rattle.hplan.specs.Answer.{IsSolution, IsKeptSolution}
use Rattle.hplan.specs.PlanText.{printed}
use Rattle.hplan.specs.Kept.{FailsIn, InMemory, InFile, IsJournalOf, BeganWith, ContinuesContent, HoldsEntries, WereThere, AreEntriesHeld, IsStillMaking, StandsBetween, StandsStill, first_changed, first_kept, IsAsItWasOrMaking, IsLeftByDevice, IsShortIn, TellsOfFile, HasFaultyEntry, HasNoSolution, OfMemory, OfMemoryLater, OfThreads, OfFile, OfEntry, OfSearch, IsJournalResumed, IsJournalBegun, IsRefusedRun, StandsOrFails}

-- ---- a journal that is not begun

-- a file that is refused is as it was
pub refused_alone : (start : Start) (t : Task) (digest content : List ℕ)
    → HasNoSolution start t digest content content (journal_in journal.Device)
refused_alone New t digest content = OfFile journal.Device (inl refl)
refused_alone Kept t digest content = OfFile journal.Device (inl refl)

-- why a journal is not begun is why there is no solution
pub not_begun : (start : Start) (t : Task) (digest before after : List ℕ) (e : JournalError) → TellsOfFile start digest before after e
    → HasNoSolution start t digest before after (journal_in e)
not_begun start t digest before after journal.NotAJournal k = OfFile journal.NotAJournal k
not_begun start t digest before after journal.OtherTask k = OfFile journal.OtherTask k
not_begun start t digest before after (journal.Damaged at) k = OfFile (journal.Damaged at) k
not_begun start t digest before after journal.Device k = OfFile journal.Device k
not_begun start t digest before after journal.Failed k = OfFile journal.Failed k
not_begun start t digest before after journal.JournalExists k = OfFile journal.JournalExists k
not_begun start t digest before after journal.NotOut k = OfFile journal.NotOut k
not_begun start t digest before after journal.NoMemory k = OfMemory k

-- ---- the entries of groups

kids_of_entries : (v : Version) (at : ℕ) (kids : List Kid) → map kid_of (entries_of v at kids) ≡ kids
kids_of_entries v at [] = refl
kids_of_entries v at (kid ∷ kids) = ap (λ (ks : List Kid). kid ∷ ks) (kids_of_entries v (at + entry_width v) kids)

pub kids_of_groups : (v : Version) (gate : ℕ) (groups : List (List Kid)) → map kid_of (entries_in v gate groups) ≡ kids_in groups
kids_of_groups v gate [] = refl
kids_of_groups v gate (kids ∷ groups) =
    let next = gate + length (opened v kids) in
    map-append kid_of (entries_of v (gate + 5) kids) (entries_in v next groups)
    ∙ ap (λ (ks : List Kid). ks ++ map kid_of (entries_in v next groups)) (kids_of_entries v (gate + 5) kids)
    ∙ ap (λ (ks : List Kid). kids ++ ks) (kids_of_groups v next groups)

-- no entries, no faulty one
none_faulty : (t : Task) (entries : List Entry) (at : ℕ) → entries ≡ [] → ¬ IsDamagedAt t entries at
none_faulty t [] at is k = none-some at k.place
none_faulty t (entry ∷ entries) at is k = absurd (cc)

module _ {S : Type 0} {G : Ghosts S} where
  -- the pairs of a journal are those of its groups
  kids_by : (digest : List ℕ) (groups : List (List Kid)) (j : of.Journal S G) → IsOf digest groups j → kids_of j ≡ kids_in groups
  kids_by digest groups j is = ap (map kid_of) is.entries ∙ kids_of_groups j.version FIRST_GATE groups

  abbrev journal_by : (digest : List ℕ) (groups : List (List Kid)) (j : of.Journal S G) → IsOf digest groups j
      → IsJournalOf digest (kids_of j) (content_of (device_of j))
  journal_by digest groups j is = record {
    version = j.version;
    groups = groups;
    sound = is.sound;
    bytes = is.content;
    entries = kids_by digest groups j is;
  }

  -- ---- a journal that is gone on with

  -- it has the entries that were found, and then more
  goes_on : (digest before : List ℕ) (old new : of.Journal S G) (more : List (List Kid)) → (r : IsJournalResumed digest before old)
      → new.version ≡ old.version → ContinuesContent digest before new.version (r.groups ++ more)
  goes_on digest before old new more r same = record {
    found = r.found;
    is_found = r.is_found;
    version = same ∙ r.version;
    stood = r.groups;
    more = more;
    entries =
        sym r.entries
        ∙ (r.is.entries ∙ ap (λ (v : Version). entries_in v FIRST_GATE r.groups) (sym same));
    begins = refl;
  }

  -- a journal that was begun has become a later one: it has whole groups, after what it began
  -- with
  grown : (start : Start) (digest before : List ℕ) (old new : of.Journal S G) → IsJournalBegun start digest before old → JournalGrows old new
      → (groups : List (List Kid)) × IsOf digest groups new × BeganWith start digest before new.version groups
  grown New digest before old new begun grows =
      let more = grows.groups digest [] begun.2 in
      ([] ++ more.0, more.1, (begun.0, grows.version ∙ begun.1))
  grown Kept digest before old new begun grows =
      let more = grows.groups digest begun.groups begun.is in
      (begun.groups ++ more.0, more.1, goes_on digest before old new more.0 begun grows.version)

  abbrev is_kept : (start : Start) (digest before : List ℕ) (old new : of.Journal S G) → IsJournalBegun start digest before old → JournalGrows old new
      → HoldsEntries start digest (kids_of new) before (content_of (device_of new))
  is_kept start digest before old new begun grows =
      let all = grown start digest before old new begun grows in
      record { holds = journal_by digest all.0 new all.1; began = all.2 }

  stays : (old new : of.Journal S G) → new ≡ old → JournalGrows old new
  stays old new same = subst (JournalGrows old) (sym same) (record {
    version = refl;
    begins = ([], sym (append-nil (kids_of old)));
    failed = refl;
    stuck = λ _. refl;
    groups = λ digest groups is. ([], subst (λ (gs : List (List Kid)). IsOf digest gs old) (sym (append-nil groups)) is);
  })

  -- ---- a search that has no answer

  runs_on : (start : Start) (digest before : List ℕ) (old : of.Journal S G) → IsJournalBegun start digest before old → old.failed ≡ false
  runs_on New digest before old begun = begun.2.running
  runs_on Kept digest before old begun = begun.is.running

  faulty_entry : (start : Start) (t : Task) (digest before after : List ℕ) (old new : of.Journal S G) (at : ℕ) → IsJournalBegun start digest before old
      → new ≡ old → content_of (device_of new) ≡ after → IsDamagedAt t old.entries.items at → HasFaultyEntry start t digest before after at
  faulty_entry New t digest before after old new at begun same left faulty = none_faulty t old.entries.items at begun.2.entries faulty
  faulty_entry Kept t digest before after old new at begun same left faulty =
      let kids : kids_of new ≡ map kid_of (found_in begun.found) =
      ap (λ (j : of.Journal S G). kids_of j) same ∙ ap (map kid_of) begun.entries
      in
      let kept : HoldsEntries Kept digest (kids_of new) before (content_of (device_of new)) =
      is_kept Kept digest before old new begun (stays old new same)
      in (
        begun.found,
        begun.is_found,
        subst (λ (es : List Entry). IsDamagedAt t es at) begun.entries faulty,
        subst (λ (ks : List Kid). HoldsEntries Kept digest ks before after) kids
            (subst (HoldsEntries Kept digest (kids_of new) before) left kept),
      )

  -- a journal that has just the entries that it was begun with
  were_there : (start : Start) (digest before : List ℕ) (old new : of.Journal S G) → IsJournalBegun start digest before old → kids_of new ≡ kids_of old
      → WereThere start digest before (kids_of new)
  were_there New digest before old new begun same = same ∙ ap (map kid_of) begun.2.entries
  were_there Kept digest before old new begun same = (begun.found, begun.is_found, same ∙ ap (map kid_of) begun.entries)

  -- the entries that a journal has then are kept
  are_kept : (start : Start) (t : Task) (digest before after : List ℕ) (old new : of.Journal S G) → IsJournalBegun start digest before old → JournalGrows old new
      → Survives t old new → content_of (device_of new) ≡ after → AreEntriesHeld start t digest before after
  are_kept start t digest before after old new begun grows survives left = (
    kids_of new,
    subst (HoldsEntries start digest (kids_of new) before) left (is_kept start digest before old new begun grows),
    elim survives.legal [
      | inl same ↦ inl (were_there start digest before old new begun same)
      | inr legal ↦ inr legal
    ],
  )

  -- the device failed while it was searched
  left_by_device : (start : Start) (t : Task) (digest before after : List ℕ) (old new : of.Journal S G) → IsJournalBegun start digest before old
      → Survives t old new → content_of (device_of new) ≡ after → IsLeftByDevice start t digest before after
  left_by_device New t digest before after old new begun survives left = (
    begun.0,
    (
      kids_of new,
      subst (λ v. StillStand t v digest [] (kids_of new) after) begun.1
          (subst (StillStand t old.version digest [] (kids_of new)) left (survives.read digest [] begun.2)),
    ),
  )
  left_by_device Kept t digest before after old new begun survives left = record {
    found = begun.found;
    is_found = begun.is_found;
    groups = begun.groups;
    entries =
        sym begun.entries
        ∙ (begun.is.entries ∙ ap (λ (v : Version). entries_in v FIRST_GATE begun.groups) begun.version);
    kids = kids_of new;
    stand =
        subst (λ v. StillStand t v digest begun.groups (kids_of new) after) begun.version
        (subst (StillStand t old.version digest begun.groups (kids_of new)) left (survives.read digest begun.groups begun.is));
  }

  -- the journal that stands in the file is short of room
  short_in : (start : Start) (digest before after : List ℕ) (old new : of.Journal S G) → IsJournalBegun start digest before old → JournalGrows old new
      → content_of (device_of new) ≡ after → IsShortOfRoom new → IsShortIn digest after
  short_in start digest before after old new begun grows left short =
      let all = grown start digest before old new begun grows in
      subst (IsShortIn digest) left (kids_of new, journal_by digest all.0 new all.1, short)

  refused_first : (start : Start) (t : Task) (digest before after : List ℕ) (old new : of.Journal S G) (why : RunFault)
      → IsJournalBegun start digest before old → Survives t old new → new ≡ old → content_of (device_of new) ≡ after → IsFaulty t (most_of old.version) old.entries.items why
      → IsFullRightly new (threads.Run why) → HasNoSolution start t digest before after (run_in why)
  refused_first start t digest before after old new searching.Full begun survives same left k full =
      let grows = stays old new same in
      OfSearch searching.Full
      (are_kept start t digest before after old new begun grows survives left, short_in start digest before after old new begun grows left (full refl))
  refused_first start t digest before after old new (searching.Damaged at) begun survives same left k full =
      OfEntry at (faulty_entry start t digest before after old new at begun same left k.1)
  refused_first start t digest before after old new searching.Device begun survives same left k full = absurd (k)
  refused_first start t digest before after old new searching.Failed begun survives same left k full = absurd (k)
  refused_first start t digest before after old new searching.NotOut begun survives same left k full = absurd (k)
  refused_first start t digest before after old new searching.NoMemory begun survives same left k full =
      OfMemoryLater (are_kept start t digest before after old new begun (stays old new same) survives left)

  stopped : (start : Start) (t : Task) (digest before after : List ℕ) (old new : of.Journal S G) (why : RunFault)
      → IsJournalBegun start digest before old → Survives t old new → content_of (device_of new) ≡ after → StopsRunning old new why
      → IsFullRightly new (threads.Run why) → HasNoSolution start t digest before after (run_in why)
  stopped start t digest before after old new searching.Full begun survives left k full =
      OfSearch searching.Full
      (are_kept start t digest before after old new begun k survives left, short_in start digest before after old new begun k left (full refl))
  stopped start t digest before after old new (searching.Damaged at) begun survives left k full = absurd (k)
  stopped start t digest before after old new searching.Device begun survives left k full = OfSearch searching.Device (left_by_device start t digest before after old new begun survives left)
  stopped start t digest before after old new searching.Failed begun survives left k full =
      let no : false ≡ true = sym (runs_on start digest before old begun) ∙ k.0 in absurd (cc)
  stopped start t digest before after old new searching.NotOut begun survives left k full =
      OfSearch searching.NotOut (are_kept start t digest before after old new begun k survives left)
  stopped start t digest before after old new searching.NoMemory begun survives left k full =
      OfMemoryLater (are_kept start t digest before after old new begun k survives left)

  told_by : (start : Start) (t : Task) (digest before after : List ℕ) (old new : of.Journal S G) (why : ThreadsFault)
      → IsJournalBegun start digest before old → Survives t old new → content_of (device_of new) ≡ after → TellsOfThreads t old new why
      → IsFullRightly new why → HasNoSolution start t digest before after (search_in why)
  told_by start t digest before after old new (threads.Run why) begun survives left (inl k) full =
      refused_first start t digest before after old new why begun survives k.0 left k.1 full
  told_by start t digest before after old new (threads.Run why) begun survives left (inr k) full =
      stopped start t digest before after old new why begun survives left k full
  told_by start t digest before after old new threads.NoThread begun survives left k full = OfThreads (are_kept start t digest before after old new begun k survives left)

  pub refused_run : (start : Start) (t : Task) (digest before after : List ℕ) (old new : of.Journal S G) (f : Fault)
      → IsJournalBegun start digest before old → Survives t old new → content_of (device_of new) ≡ after → IsRefusedRun t old new f
      → HasNoSolution start t digest before after f
  refused_run start t digest before after old new f begun survives left (inl k) =
      subst (HasNoSolution start t digest before after) (sym k.0)
      (OfMemoryLater (are_kept start t digest before after old new begun k.1 survives left))
  refused_run start t digest before after old new f begun survives left (inr k) =
      subst (HasNoSolution start t digest before after) (sym k.1) (told_by start t digest before after old new k.0 begun survives left k.2 k.3)

-- ---- a journal that is not begun, by what is answered

module _ (digest : List ℕ) (old : Device) (len : length digest ≡ DIGEST_LEN) where
  making : (new : Device) (error : StoreError) → content_of old ≡ [] → Ran old (create_calls digest) (Err error) new → IsMaking Two digest (content_of new)
  making new error empty ran = create_ends digest old new (Err error) len (omega (arith, ap length empty)) ran

  -- the length was not told, or a header was begun
  as_it_was_or_making : (new : Device) → LengthFails old new ⊎ (MayTellLength old (Ok tt) × (content_of old ≡ []) × Ran old (create_calls digest) (Err store.Failed) new)
      → IsAsItWasOrMaking digest (content_of old) (content_of new)
  as_it_was_or_making new (inl k) = inl (ap content_of k.1)
  as_it_was_or_making new (inr k) = inr (k.1, making new store.Failed k.1 k.2)

  not_made : (e : JournalError) (new : Device) → IsNotMade digest old e new → TellsOfFile New digest (content_of old) (content_of new) e
  not_made journal.NotAJournal new k = k
  not_made journal.OtherTask new k = k
  not_made (journal.Damaged at) new k = k
  not_made journal.Device new k = as_it_was_or_making new k
  not_made journal.Failed new k = k
  not_made journal.JournalExists new k = (k.1, ap content_of k.2)
  not_made journal.NotOut new k = k
  not_made journal.NoMemory new k = (k.1, making new store.NoMemory k.1 k.2)

  pub made_not : {S : Type 0} {G : Ghosts S} (r : Result (of.Journal S G) (S × JournalError)) → IfErr r (λ e. IsNotMade digest old e.1 (G.device e.0))
      → IfErr r (λ e. TellsOfFile New digest (content_of old) (content_of (G.device e.0)) e.1)
  made_not (Ok j) k = tt
  made_not {S} {G} (Err e) k = not_made e.1 (G.device e.0) k

module _ (digest : List ℕ) (old : Device) (len : length digest ≡ DIGEST_LEN) where
  seen_same : (new : Device) → IsSeen old new → content_of new ≡ content_of old
  seen_same new k = ap content_of k.2

  -- a header was still to be made
  made_in_part : (seen new : Device) (error : StoreError) → content_of seen ≡ content_of old → IsFound digest (content_of old) Unmade
      → Ran seen (open_calls digest Unmade) (Err error) new → IsStillMaking digest (content_of old) (content_of new)
  made_in_part seen new error same is ran = (
    inl is,
    create_ends digest seen new (Err error) len (subst (λ (c : List ℕ). length c ≤ 1) (sym same) is) ran,
  )

  filled_in_part : (seen new : Device) (error : StoreError) → content_of seen ≡ content_of old → IsFound digest (content_of old) HalfMade
      → Ran seen (open_calls digest HalfMade) (Err error) new → IsStillMaking digest (content_of old) (content_of new)
  filled_in_part seen new error same is ran = (inr is, still_made digest is.rest seen new (Err error) len (same ∙ is.closed) is.short ran)

  -- memory ran out while a journal was mended: it was still to be made
  unmade : (seen new : Device) (found : Found) → content_of seen ≡ content_of old → IsFound digest (content_of old) found
      → Ran seen (open_calls digest found) (Err store.NoMemory) new → IsStillMaking digest (content_of old) (content_of new)
  unmade seen new Unmade same is ran = made_in_part seen new store.NoMemory same is ran
  unmade seen new HalfMade same is ran = filled_in_part seen new store.NoMemory same is ran
  unmade seen new (Journal contents) same is ran =
      absurd (mending_grows_not digest seen new contents (subst (λ c. IsFound digest c (Journal contents)) (sym same) is) ran)

  mended_not : (new : Device) → (MayTellLength old (Ok tt) × (new ≡ old)) ⊎ (IsSeen old new ⊎ BreaksMending digest old store.NoMemory new)
      → (content_of new ≡ content_of old) ⊎ IsStillMaking digest (content_of old) (content_of new)
  mended_not new (inl k) = inl (ap content_of k.1)
  mended_not new (inr (inl k)) = inl (seen_same new k)
  mended_not new (inr (inr k)) = inr (unmade k.seen new k.found (ap content_of k.looked.2) k.is k.ran)

  -- the device failed while a journal was mended
  mended_in_part : (seen new : Device) (found : Found) → content_of seen ≡ content_of old → IsFound digest (content_of old) found
      → Ran seen (open_calls digest found) (Err store.Failed) new
      → IsStillMaking digest (content_of old) (content_of new) ⊎ StandsStill digest (content_of old) (content_of new)
  mended_in_part seen new Unmade same is ran = inl (made_in_part seen new store.Failed same is ran)
  mended_in_part seen new HalfMade same is ran = inl (filled_in_part seen new store.Failed same is ran)
  mended_in_part seen new (Journal contents) same is ran = inr (record {
    found = contents;
    is_found = is;
    stands =
        subst (λ (c : List ℕ). StandsBetween (first_kept contents.header_open) (first_changed contents) c (content_of new)) same
        (mended_stands digest seen new contents (Err store.Failed) (subst (λ c. IsFound digest c (Journal contents)) (sym same) is) ran);
  })

  broke_off : (new : Device) → BreaksMending digest old store.Failed new
      → IsStillMaking digest (content_of old) (content_of new) ⊎ StandsStill digest (content_of old) (content_of new)
  broke_off new k = mended_in_part k.seen new k.found (ap content_of k.looked.2) k.is k.ran

  not_opened : (e : JournalError) (new : Device) → IsNotOpened digest old e new → TellsOfFile Kept digest (content_of old) (content_of new) e
  not_opened journal.NotAJournal new k = (k.0, seen_same new k.1)
  not_opened journal.OtherTask new k = (k.0, seen_same new k.1)
  not_opened (journal.Damaged at) new k = (k.0, seen_same new k.1)
  not_opened journal.Device new k =
      elim k [
        | inl length_fails ↦ inl (ap content_of length_fails.1)
        | inr later ↦ elim later [ inl read_fails ↦ inl (ap content_of read_fails.2) | inr broke ↦ inr (broke_off new broke) ]
      ]
  not_opened journal.Failed new k = k
  not_opened journal.JournalExists new k = k
  not_opened journal.NotOut new k = k
  not_opened journal.NoMemory new k = mended_not new k

  pub opened_not : {S : Type 0} {G : Ghosts S} (r : Result (of.Journal S G) (S × JournalError)) → IfErr r (λ e. IsNotOpened digest old e.1 (G.device e.0))
      → IfErr r (λ e. TellsOfFile Kept digest (content_of old) (content_of (G.device e.0)) e.1)
  opened_not (Ok j) k = tt
  opened_not {S} {G} (Err e) k = not_opened e.1 (G.device e.0) k

-- ---- a journal that is begun, by what is answered

module _ {S : Type 0} {G : Ghosts S} where
  resumed : (digest : List ℕ) (old : Device) (j : of.Journal S G) → IsOpened digest old j
      → (groups : List (List Kid)) × IsOf digest groups j → IsJournalResumed digest (content_of old) j
  resumed digest old j opened whole = record {
    found = opened.found;
    is_found = opened.mended.is;
    version = opened.version;
    entries = opened.entries;
    groups = whole.0;
    is = whole.1;
  }

  pub begun_kept : (digest : List ℕ) (old : Device) (r : Result (of.Journal S G) (S × JournalError)) → IfOk r (IsOpened digest old)
      → IfOk r (λ j. (groups : List (List Kid)) × IsOf digest groups j) → IfOk r (IsJournalBegun Kept digest (content_of old))
  begun_kept digest old (Ok j) opened whole = resumed digest old j opened whole
  begun_kept digest old (Err e) opened whole = tt

  -- ---- what is answered over a journal

  pub solved_on : (start : Start) (limit : Option ℕ) (t : Task) (digest before after : List ℕ) (old new : of.Journal S G) (r : Result Told Fault)
      → IsJournalBegun start digest before old → content_of (device_of new) ≡ after
      → IfOk r (λ told. IsSolution limit t (kids_of new) told.ending (printed told.plan)) → OnOk r (JournalGrows old new)
      → IfOk r (λ told. (kids : List Kid) × IsSolution limit t kids told.ending (printed told.plan) × HoldsEntries start digest kids before after)
  solved_on start limit t digest before after old new (Ok told) begun left solution grows =
      (kids_of new, solution, subst (HoldsEntries start digest (kids_of new) before) left (is_kept start digest before old new begun grows))
  solved_on start limit t digest before after old new (Err f) begun left solution grows = tt

  pub unsolved_on : (start : Start) (t : Task) (digest before after : List ℕ) (old new : of.Journal S G) (r : Result Told Fault)
      → IsJournalBegun start digest before old → Survives t old new → content_of (device_of new) ≡ after → IfErr r (IsRefusedRun t old new)
      → IfErr r (HasNoSolution start t digest before after)
  unsolved_on start t digest before after old new (Ok told) begun survives left refused = tt
  unsolved_on start t digest before after old new (Err f) begun survives left refused =
      refused_run start t digest before after old new f begun survives left refused

  -- the device failed after what was found
  pub failed_behind : (start : Start) (t : Task) (digest before after : List ℕ) (old new : of.Journal S G) → IsJournalBegun start digest before old
      → Survives t old new → content_of (device_of new) ≡ after → HasNoSolution start t digest before after (Search searching.Device)
  failed_behind start t digest before after old new begun survives left =
      OfSearch searching.Device (left_by_device start t digest before after old new begun survives left)

-- ---- an answer after the store was looked at again

module _ {X : Type 0} (found now : Result X Fault) where
  -- what an answer says stands where the answer does
  pub answer_stands : (P : X → Type 0) → StandsOrFails found now → IfOk found P → IfOk now P
  answer_stands P (inl same) k = subst (λ r. IfOk r P) (sym same) k
  answer_stands P (inr failed) k = subst (λ r. IfOk r P) (sym failed) tt

  -- a fault is reported as it was, or it is the device's
  pub fault_stands : (P : Fault → Type 0) → StandsOrFails found now → IfErr found P → P (Search searching.Device) → IfErr now P
  fault_stands P (inl same) k failing = subst (λ r. IfErr r P) (sym same) k
  fault_stands P (inr failed) k failing = subst (λ r. IfErr r P) (sym failed) failing

-- ---- in memory

pub solved_in_memory : (limit : Option ℕ) (t : Task) (digest before after : List ℕ) (r : Result Told Fault) → before ≡ []
    → IfOk r (λ told. (kids : List Kid) × IsSolution limit t kids told.ending (printed told.plan) × HoldsEntries New digest kids before after)
    → IfOk r (λ told. IsKeptSolution InMemory limit t digest told.ending (printed told.plan))
solved_in_memory limit t digest before after (Ok told) empty s = record {
  kids = s.0;
  solution = s.1;
  kept = (after, subst (λ (b : List ℕ). HoldsEntries New digest s.0 b after) empty s.2);
}
solved_in_memory limit t digest before after (Err f) empty s = tt

pub unsolved_in_memory : (t : Task) (digest before after : List ℕ) (r : Result Told Fault) → before ≡ []
    → IfErr r (HasNoSolution New t digest before after) → IfErr r (FailsIn InMemory t digest)
unsolved_in_memory t digest before after (Ok told) empty s = tt
unsolved_in_memory t digest before after (Err f) empty s = (after, subst (λ (b : List ℕ). HasNoSolution New t digest b after f) empty s)

-- ---- in a file

pub solved_in_file : (start : Start) (limit : Option ℕ) (old new : Option (List ℕ)) (t : Task) (digest before after : List ℕ) (r : Result Told Fault)
    → IfSome old (λ bytes. before ≡ bytes) → IfSome new (λ bytes. after ≡ bytes)
    → IfOk r (λ told. (kids : List Kid) × IsSolution limit t kids told.ending (printed told.plan) × HoldsEntries start digest kids before after)
    → IfOk r (λ told. IsKeptSolution (InFile start old new) limit t digest told.ending (printed told.plan))
solved_in_file start limit old new t digest before after (Ok told) was is s = record {
  kids = s.0;
  solution = s.1;
  kept = record { before = before; after = after; known_before = was; known_after = is; holds = s.2 };
}
solved_in_file start limit old new t digest before after (Err f) was is s = tt

pub unsolved_in_file : (start : Start) (old new : Option (List ℕ)) (t : Task) (digest before after : List ℕ) (r : Result Told Fault)
    → IfSome old (λ bytes. before ≡ bytes) → IfSome new (λ bytes. after ≡ bytes)
    → IfErr r (HasNoSolution start t digest before after) → IfErr r (FailsIn (InFile start old new) t digest)
unsolved_in_file start old new t digest before after (Ok told) was is s = tt
unsolved_in_file start old new t digest before after (Err f) was is s =
    inr (record { before = before; after = after; known_before = was; known_after = is; holds = s })
