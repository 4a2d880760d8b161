-- Journals on disks that were started again.
use Rattle.std.proofs.Common.{◌≡◌, ◌≢◌, inl, inr, ℕ, suc, ◌+◌, ◌-◌, ◌≤◌, ◌<◌, Bool, true, false, Option, Some, None, List, [], ◌∷◌, ◌++◌, length, Err, Ok, refl, sym, ap, ap₂, ◌∙◌, subst, arith, true≢false, if◌then◌else◌}
use Rattle.std.specs.Prelude.{not, ◌&&◌}
use Rattle.std.specs.List.{AllByRecursion}
use Rattle.std.proofs.lemmas.Bool.{lt-ltb, and_parts}
use Rattle.hd_task.specs.declared.plan.Kid.{Kid}
use Rattle.hd_store.specs.declared.store.Store.{Ghosts}
use Rattle.hd_store.specs.declared.ahead.Ahead.TheVariants.{Stops, Well}
use Rattle.hd_store.specs.declared.error.StoreError.TheVariants as store
use Rattle.hd_store.specs.declared.memory.MemoryDisk.{MemoryDisk}
use Rattle.hd_store.specs.Device.{Device, content_of, looked_at}
use Rattle.hd_store.specs.MemoryDisk.{device_of as disk_device, IsStarted}
use Rattle.hd_store.specs.Past.{Step, content_after}
use Rattle.hd_store.specs.Stop.{IsFilled, is_sure}
use Rattle.hd_store.proofs.Leaving.{at_rest as rests_there, rests}
use Rattle.hd_image.specs.declared.version.Version.{Version}
use Rattle.hd_image.specs.declared.header.TheConstants.{DIGEST_LEN}
use Rattle.hd_image.specs.declared.contents.Found.{Found}
use Rattle.hd_image.specs.declared.contents.Found.TheVariants.{Journal as Stands}
use Rattle.hd_image.specs.Image.{IsGroup, front, image}
use Rattle.hd_image.specs.Reading.{IsFound, contents_of}
use Rattle.hd_journal.specs.declared.error.JournalError.TheVariants.{Device as Broken}
use Rattle.hd_journal.specs.declared.journal.Journal.{Journal}
use Rattle.hd_journal.specs.Answers.{StandsIn, IsNotOpened, IsOpened, IsAppended, IsNotAppended, BreaksMending, LengthFails, ReadFails}
use Rattle.hd_journal.specs.Answers as journals
use Rattle.hd_journal.specs.Calls.{Call, Ran, RanThrough, after_calls}
use Rattle.hd_journal.specs.Group.{GroupView}
use Rattle.hd_journal.specs.Journal.{IsOf, device_of, append_calls, open_calls, version_in}
use Rattle.hd_journal.specs.Moments.{IsSettled}
use Rattle.hd_journal.proofs.Opening as opening
use Rattle.hd_world.specs.declared.moves.StopAt.{StopAt}
use Rattle.hd_task.specs.declared.task.Task.{Task}
use Rattle.hd_world.specs.Seats.{Run}
use Rattle.hd_world.specs.Stops.{File, Opens, at_rest, journal_bytes, stopped_in, appending}
use Rattle.hd_world.specs.World.{StopsIn, Falls}
use Rattle.hd_world.specs.Sound.{IsSound}
use Rattle.hd_world.specs.Filling.{Filled}
use Rattle.hd_world.proofs.Within.{rest_ran}
use Rattle.hd_replay.specs.Journals.{StandsAs, Stopping, StopsAs}
use Rattle.hd_replay.specs.Opening.{OpensBefore, IsCut}
use Rattle.hd_replay.specs.Playing.{IsStop}
use Rattle.hd_replay.proofs.Steps.{count_of, calls_are, next_by}
use Rattle.hd_replay.proofs.Stopping.{planned, quiet, IsCutIn, cut_in, went_through}

-- ---- what is sure

-- if nothing is pending a stop leaves what a read gives
pub left_sure : (d : Device) (byte : ℕ) (content : List ℕ) → IsSettled d → Filled d byte content → content ≡ content_of d
left_sure d byte content settled filled = rests_there d.start d.steps settled content filled.left

surely : (content : List ℕ) (place : ℕ) → place < length content → is_sure content [] place ≡ true
surely content place below = ap (λ (b : Bool). b && not false) (lt-ltb place (length content) below)

-- a disk that was started again, of which a stop leaves what is on it
pub fills_itself : (content : List ℕ) (byte : ℕ) → Filled (at_rest content) byte content
fills_itself content byte = record {
  left = rests content [] tt;
  longest = refl;
  filled = λ place below sure. absurd (true≢false (sym (surely content place below) ∙ sure));
}

-- a disk that was started again, and whose machine will stop
pub planned_by : (old new : Device) (content bytes : List ℕ) (n call : ℕ) → old ≡ record { start = content; steps = []; failures = 0; changes = Well; reads = Well }
    → new ≡ record old { changes = Stops (n - 1) } → content ≡ bytes → n ≡ call → new ≡ planned bytes [] (call - 1)
planned_by old new content bytes n call is plan same number =
    plan
    ∙ (ap (λ (d : Device). let e : Device = record d { changes = Stops (n - 1) } in e) is
    ∙ ap₂ (λ (c : List ℕ) (m : ℕ). planned c [] (m - 1)) same number)

-- ---- a journal that was opened

module _ {S : Type 0} {G : Ghosts S} (digest : List ℕ) where
  -- it stands as the file of its groups
  pub stands_now : (journal : Journal S G) (groups : List (List Kid)) → IsOf digest groups journal → IsSettled (device_of journal)
      → StandsAs digest (record { version = journal.version; groups = groups }) journal
  stands_now journal groups is settled = record { is_of = is; version = refl; settled = settled }

  pub opens_now : (old : Device) (journal : Journal S G) (o : IsOpened digest old journal) (groups : List (List Kid)) → IsOf digest groups journal
      → Opens digest (content_of old) (open_calls digest o.found) (record { version = journal.version; groups = groups })
  opens_now old journal o groups is = record {
    found = o.found;
    is = o.mended.is;
    mend = refl;
    version = o.version;
    sound = is.sound;
    entries = sym o.entries ∙ is.entries;
  }

  -- where no stop was foretold
  pub opened_whole : (content : List ℕ) (old : Device) (journal : Journal S G) → content_of old ≡ content → IsOpened digest old journal
      → (groups : List (List Kid)) × IsOf digest groups journal → IsSettled (device_of journal) → OpensBefore digest content None journal
  opened_whole content old journal has o (groups, is) settled = record {
    calls = open_calls digest o.found;
    file = record { version = journal.version; groups = groups };
    opens =
        subst (λ (c : List ℕ). Opens digest c (open_calls digest o.found) (record { version = journal.version; groups = groups })) has
        (opens_now old journal o groups is);
    behind = tt;
    stands = stands_now journal groups is settled;
  }

  -- the calls that opened it, where the machine would stop after so many
  ran_planned : (content : List ℕ) (n : ℕ) (old : Device) (journal : Journal S G) (o : IsOpened digest old journal) → old ≡ planned content [] n
      → RanThrough (planned content [] n) (open_calls digest o.found) (device_of journal)
  ran_planned content n old journal o is =
      subst (λ (d : Device). RanThrough d (open_calls digest o.found) (device_of journal)) (o.mended.looked.2 ∙ ap looked_at is) o.mended.ran

  -- where a stop was foretold after them
  pub opened_before : (content : List ℕ) (at : StopAt) (old : Device) (journal : Journal S G) → 1 ≤ at.call → old ≡ planned content [] (at.call - 1)
      → IsOpened digest old journal → (groups : List (List Kid)) × IsOf digest groups journal → IsSettled (device_of journal)
      → OpensBefore digest content (Some at) journal
  opened_before content at old journal some is o (groups, of_groups) settled =
      let count = went_through content [] (open_calls digest o.found) (at.call - 1) (device_of journal)
      (ran_planned content (at.call - 1) old journal o is) in
      record {
        calls = open_calls digest o.found;
        file = record { version = journal.version; groups = groups };
        opens =
            subst (λ (c : List ℕ). Opens digest c (open_calls digest o.found) (record { version = journal.version; groups = groups })) (ap content_of is)
            (opens_now old journal o groups of_groups);
        behind = omega (arith, count, some);
        stands = stands_now journal groups of_groups settled;
      }

-- opened again, it stands as before
pub opens_again : {S T : Type 0} {G : Ghosts S} {H : Ghosts T} (digest content : List ℕ) (stop : Option StopAt) (first : Journal S G) (again : Journal T H)
    → (o : OpensBefore digest content stop first) → StandsAs digest o.file again → OpensBefore digest content stop again
opens_again digest content stop first again o stands = record {
  calls = o.calls;
  file = o.file;
  opens = o.opens;
  behind = o.behind;
  stands = stands;
}

-- ---- a journal whose disk was started again

module _ {S : Type 0} {G : Ghosts S} (digest : List ℕ) (f : File) (journal : Journal S G) (s : StandsAs digest f journal) where
  pub holds : content_of (device_of journal) ≡ journal_bytes digest f
  holds = s.is_of.content ∙ ap (λ (v : Version). image v digest f.groups) s.version

  pub left_bytes : (d : Device) (byte : ℕ) (content : List ℕ) → d ≡ device_of journal → Filled d byte content → content ≡ journal_bytes digest f
  left_bytes d byte content is filled =
      left_sure (device_of journal) byte content s.settled (subst (λ (e : Device). Filled e byte content) is filled) ∙ holds

  pub sound_groups : AllByRecursion (IsGroup f.version) f.groups
  sound_groups = subst (λ (v : Version). AllByRecursion (IsGroup v) f.groups) s.version s.is_of.sound

  -- its groups stand in its bytes
  pub stands_in : (content : List ℕ) → content ≡ journal_bytes digest f → StandsIn f.version digest f.groups content
  stands_in content is = record { gate = 0; behind = []; sound = sound_groups; ends = λ e. omega (arith, e); whole = is }

-- a journal that is opened where these groups stand, and if nothing is pending
pub stands_again : {T : Type 0} {H : Ghosts T} (digest : List ℕ) (f : File) (again : Journal T H) → again.version ≡ f.version → IsOf digest f.groups again
    → IsSettled (device_of again) → StandsAs digest f again
stands_again digest f again version is settled = record { is_of = is; version = version; settled = settled }

-- ---- a stop within an opening

module _ (digest content : List ℕ) (at : StopAt) (old new : Device) (some : 1 ≤ at.call) (is : old ≡ planned content [] (at.call - 1)) where
  -- nothing but a change fails if one is foretold
  pub broke : IsNotOpened digest old Broken new → BreaksMending digest old store.Failed new
  broke not =
      elim (subst (λ (d : Device). IsNotOpened digest d Broken new) is not) [
        | inl told ↦ absurd (true≢false (sym told.0))
        | inr more ↦ elim more [
          | inl read ↦ absurd (true≢false (sym read.1))
          | inr breaks ↦ subst (λ (d : Device). BreaksMending digest d store.Failed new) (sym is) breaks
        ]
      ]

  pub suc_call : suc (at.call - 1) ≡ at.call
  suc_call = omega (arith, some)

  module _ (len : length digest ≡ DIGEST_LEN) (b : BreaksMending digest old store.Failed new) where
    abbrev made : List Call
    made = open_calls digest b.found

    found_is : IsFound digest content b.found
    found_is = subst (λ (c : List ℕ). IsFound digest c b.found) (ap content_of is) b.is

    cut_here : IsCutIn content [] made (at.call - 1) new
    cut_here =
        cut_in content [] made (at.call - 1) new
        (subst (λ (d : Device). Ran d made (Err store.Failed) new) (b.looked.2 ∙ ap looked_at is) b.ran)

    its_groups : (groups : List (List Kid)) × opening.Opens digest b.found groups (after_calls (at_rest content) made)
    its_groups = opening.opens digest b.found (at_rest content) (after_calls (at_rest content) made) len found_is (rest_ran content made)

    pub opening_cut : (byte : ℕ) (disk : MemoryDisk) (left : List ℕ) → byte ≡ at.byte → Filled new byte left → IsStarted disk left
        → IsCut digest content (Some at) disk
    opening_cut byte disk left same filled started = record {
      calls = made;
      file = record { version = version_in b.found; groups = its_groups.0 };
      at = at;
      left = left;
      opens = record {
        found = b.found;
        is = found_is;
        mend = refl;
        version = refl;
        sound = its_groups.1.sound;
        entries = its_groups.1.entries;
      };
      is = refl;
      within = omega (arith, cut_here.within, suc_call);
      leaves =
          subst (λ (c : ℕ). Filled (stopped_in (at_rest content) made c) at.byte left) suc_call
          (cut_here.fills at.byte left (subst (λ (x : ℕ). Filled new x left) same filled));
      started = started;
    }

-- ---- a stop within an append

-- a journal that is opened where its own bytes stand, on a disk whose machine will stop
pub stopping_now : {S : Type 0} {G : Ghosts S} (digest : List ℕ) (f : File) (call : ℕ) (old : Device) (journal : Journal S G) → length digest ≡ DIGEST_LEN
    → AllByRecursion (IsGroup f.version) f.groups → old ≡ planned (journal_bytes digest f) [] (call - 1) → IsOpened digest old journal
    → journal.version ≡ f.version → IsOf digest f.groups journal → Stopping digest f call journal
stopping_now digest f call old journal len sound is o version of_groups =
    let found_is : IsFound digest (journal_bytes digest f) o.found = subst (λ (c : List ℕ). IsFound digest c o.found) (ap content_of is) o.mended.is in
    let told =
    opening.stands_found f.version digest f.groups 0 [] (journal_bytes digest f) o.found len sound (λ e. omega (arith, e)) refl found_is in
    let ran : RanThrough o.mended.seen [] (device_of journal) =
    subst (λ (found : Found). RanThrough o.mended.seen (open_calls digest found) (device_of journal)) told o.mended.ran in
    record { is_of = of_groups; version = version; device = ran.1 ∙ (o.mended.looked.2 ∙ ap looked_at is) }

module _ {S : Type 0} {G : Ghosts S} (digest : List ℕ) (f : File) (g : GroupView) (call : ℕ) (old new : Journal S G) (s : Stopping digest f call old) where
  stands : StandsAs digest f old
  stands = record { is_of = s.is_of; version = s.version; settled = subst IsSettled (sym s.device) tt }

  made_by : append_calls old.version old.last_gate g.kids ≡ append_calls f.version (length (front f.version digest f.groups)) g.kids
  made_by =
      ap (λ (at : ℕ). append_calls old.version at g.kids) s.is_of.gate
      ∙ ap (λ (v : Version). append_calls v (length (front v digest f.groups)) g.kids) s.version

  pub append_cut : (byte : ℕ) (disk : MemoryDisk) (content : List ℕ) → 1 ≤ call → IsNotAppended old g Broken new → Filled (device_of new) byte content
      → IsStarted disk content → StopsAs digest f g call byte disk
  append_cut byte disk content some not filled started =
      let calls = appending f digest (Some g) in
      let same : append_calls old.version old.last_gate g.kids ≡ calls = made_by ∙ calls_are f digest g (next_by digest f old g stands not.next) in
      let ran : Ran (planned (journal_bytes digest f) [] (call - 1)) calls (Err store.Failed) (device_of new) =
      subst (λ (cs : List Call). Ran (planned (journal_bytes digest f) [] (call - 1)) cs (Err store.Failed) (device_of new)) same
      (subst (λ (d : Device). Ran d (append_calls old.version old.last_gate g.kids) (Err store.Failed) (device_of new)) s.device not.ran) in
      let cut = cut_in (journal_bytes digest f) [] calls (call - 1) (device_of new) ran in
      let at_call : suc (call - 1) ≡ call = omega (arith, some) in (
        content,
        started,
        subst (λ (c : ℕ). Filled (stopped_in (at_rest (journal_bytes digest f)) calls c) byte content) at_call (cut.fills byte content filled),
      )

  -- it is never appended where the machine stops in one of the calls
  pub never_appended : 1 ≤ call → call ≤ 4 → IsAppended old g new → ⊥
  never_appended some few a =
      let calls = append_calls old.version old.last_gate g.kids in
      let four : length calls ≡ 4 = refl in
      let ran : RanThrough (planned (journal_bytes digest f) [] (call - 1)) calls (device_of new) =
      subst (λ (d : Device). RanThrough d calls (device_of new)) s.device a.ran in
      omega (arith, four, went_through (journal_bytes digest f) [] calls (call - 1) (device_of new) ran, some, few)

-- ---- a stop of a run

pub stop_within : (t : Task) (digest : List ℕ) (f : File) (r : Run) (g : GroupView) (at : StopAt) (disk : MemoryDisk) → IsSound t f r → r.group ≡ Some g
    → at.call ≤ 4 → StopsAs digest f g at.call at.byte disk → IsStop digest f r at disk
stop_within t digest f r g at disk x e few (content, started, leaves) = (
  content,
  started,
  Falls content
      (subst (λ (group : Option GroupView). at.call ≤ length (appending f digest group)) (sym e) (omega (arith, few, count_of t f r digest (Some g) x e)))
      (subst (λ (group : Option GroupView). Filled (stopped_in (at_rest (journal_bytes digest f)) (appending f digest group) at.call) at.byte content) (sym e) leaves) refl,
)

pub stop_now : (digest : List ℕ) (f : File) (r : Run) (at : StopAt) (disk : MemoryDisk) (content : List ℕ) → at.call ≡ 0 → content ≡ journal_bytes digest f
    → IsStarted disk content → IsStop digest f r at disk
stop_now digest f r at disk content none is started =
    let calls = appending f digest r.group in (
      content,
      started,
      Falls content (omega (arith, none))
          (subst (λ (c : ℕ). Filled (stopped_in (at_rest (journal_bytes digest f)) calls c) at.byte content) (sym none)
          (subst (λ (xs : List ℕ). Filled (at_rest xs) at.byte content) is (fills_itself content at.byte))) refl,
    )
