-- Entries appended one group after the other.
use Rattle.std.proofs.Common.{◌≡◌, ◌≢◌, ◌⊎◌, inl, inr, ℕ, ◌==◌, ◌<◌, ◌≤◌, ◌^◌, true, false, true≢false, List, [], ◌∷◌, ◌++◌, length, min, take, drop, Result, Ok, Err, refl, sym, ap, ◌∙◌, subst, append_assoc, append-nil, arith}
use Rattle.std.specs.Prelude.{IfErr, OnOk}
use Rattle.std.specs.List.{list_all, AllByRecursion}
use Rattle.std.proofs.lemmas.Bool.{and_from, and_parts, cases_lt, eq-eqb}
use Rattle.std.proofs.lemmas.List.{length-take, length-drop}
use Rattle.std.proofs.lemmas.List.Folds.{list_all-append}
use Rattle.std.proofs.lemmas.Grind.{flat_map-append}
use Rattle.hd_task.specs.declared.plan.Kid.{Kid}
use Rattle.hd_image.specs.declared.entry.TheConstants.{MAX_GROUP}
use Rattle.hd_image.specs.declared.version.Version.{Version}
use Rattle.hd_image.specs.declared.version.Version.TheVariants.{Two}
use Rattle.hd_image.specs.declared.header.TheConstants.{DIGEST_LEN}
use Rattle.hd_image.specs.Image.{HasNumber, HasBytes, IsGroup, fits_parent, image}
use Rattle.hd_image.specs.Stops.{IsBeforeOrAfter, IsMaking}
use Rattle.hd_image.proofs.Numbering.{all_told}
use Rattle.hd_store.specs.declared.store.Store.{Ghosts}
use Rattle.hd_store.specs.declared.error.StoreError.TheVariants as store
use Rattle.hd_store.specs.Device.{Device, content_of, one_more}
use Rattle.hd_store.specs.Past.{Step}
use Rattle.hd_journal.specs.declared.error.JournalError.{JournalError}
use Rattle.hd_journal.specs.declared.error.JournalError.TheVariants.{NotAJournal, OtherTask, Damaged, Device as Broken, Failed, JournalExists, NotOut, NoMemory}
use Rattle.hd_journal.specs.declared.journal.Journal.{Journal}
use Rattle.hd_journal.specs.Answers.{IsAppended, IsNotAppended, IsMade, IsNotMade, is_next}
use Rattle.hd_journal.specs.Calls.{Call, Ran, RanThrough, after_call}
use Rattle.hd_journal.specs.Group.{GroupView}
use Rattle.hd_journal.specs.Journal.{IsOf, device_of, append_calls, create_calls}
use Rattle.hd_journal.specs.Moments.{LeavesAlong, LeavesSince, IsSettled}
use Rattle.hd_journal.proofs.Passing.{then_since, unchanged}
use Rattle.hd_journal.proofs.Recovering.{empty_short}
use Rattle.hd_journal.proofs.Running.{led_on, counted}
use Rattle.hd_journal.proofs.Standing.{stop_stands}
use Rattle.hd_journal.specs.Copy.{kids_in, AreFull, HasFirstOf, IsCopyOf, IsCopyUnderWay, IsNotCopied}
use Rattle.hd_journal.specs.Appending.{LeavesFirst, HasMore, Appends, AppendsOne, Tells, Breaks}
use Rattle.hd_journal.proofs.Contents.{append_ends, create_ends}

-- ---- weaker moments

weaker_along : (P Q : List ℕ → Type 0) → ((content : List ℕ) → P content → Q content) → (start : List ℕ) (since before : List Step)
    → LeavesAlong P start since before → LeavesAlong Q start since before
weaker_along P Q f start [] before leaves = λ content left. f content (leaves content left)
weaker_along P Q f start (s ∷ since) before leaves =
    (λ content left. f content (leaves.0 content left), weaker_along P Q f start since before leaves.1)

pub weaker_since : (P Q : List ℕ → Type 0) → ((content : List ℕ) → P content → Q content) → (old new : Device) → LeavesSince P old new
    → LeavesSince Q old new
weaker_since P Q f old new leaves = record {
  since = leaves.since;
  start = leaves.start;
  steps = leaves.steps;
  each = weaker_along P Q f old.start leaves.since old.steps leaves.each;
}

-- ---- groups

pub nil_from_length : {X : Type 0} (xs : List X) → length xs ≡ 0 → xs ≡ []
nil_from_length [] e = refl
nil_from_length (x ∷ xs) e = absurd (omega (arith, e))

kids_in-push : (groups : List (List Kid)) (kids : List Kid) → kids_in (groups ++ kids ∷ []) ≡ kids_in groups ++ kids
kids_in-push groups kids =
    flat_map-append (λ (group : List Kid). group) groups (kids ∷ []) ∙ ap (λ (ks : List Kid). kids_in groups ++ ks) (append-nil kids)

-- what a stop leaves while a group is appended is groups with the first entries
first_of : (v : Version) (digest : List ℕ) (groups : List (List Kid)) (kids rest : List Kid) (content : List ℕ)
    → AllByRecursion (IsGroup v) groups → IsGroup v kids → IsBeforeOrAfter v digest groups kids content
    → HasFirstOf v digest (kids_in groups ++ (kids ++ rest)) content
first_of v digest groups kids rest content sound group left =
    elim (stop_stands v digest groups kids content sound group left) [
      | inl before ↦ record { groups = groups; rest = kids ++ rest; begins = refl; stands = before }
      | inr after ↦ record {
        groups = groups ++ kids ∷ [];
        rest = rest;
        begins = ap (λ (ks : List Kid). ks ++ rest) (kids_in-push groups kids) ∙ append_assoc (kids_in groups) kids rest;
        stands = after;
      }
    ]

-- the entries after a group are those after it and the others
behind : (before : List (List Kid)) (kids after all rest : List Kid) → kids ++ after ≡ all
    → kids_in (before ++ kids ∷ []) ++ (after ++ rest) ≡ kids_in before ++ (all ++ rest)
behind before kids after all rest e =
    ap (λ (ks : List Kid). ks ++ (after ++ rest)) (kids_in-push before kids)
    ∙ (append_assoc (kids_in before) kids (after ++ rest)
    ∙ ap (λ (ks : List Kid). kids_in before ++ ks) (sym (append_assoc kids after rest) ∙ ap (λ (ks : List Kid). ks ++ rest) e))

none_behind : (more : List (List Kid)) (after : List Kid) → AreFull more → AllByRecursion (λ (g : List Kid). 1 ≤ length g) more
    → kids_in more ≡ after → after ≡ [] → more ≡ []
none_behind [] after full some joined none = refl
none_behind ([] ∷ more) after full some joined none = absurd (omega (arith, some.0))
none_behind ((kid ∷ kids) ∷ more) after full some joined none = cc

-- each group of a journal has an entry
groups_have : (v : Version) (before more : List (List Kid)) → AllByRecursion (IsGroup v) (before ++ more)
    → AllByRecursion (λ (g : List Kid). 1 ≤ length g) more
groups_have v [] [] sound = tt
groups_have v [] (g ∷ more) sound = (sound.0.some, groups_have v [] more sound.1)
groups_have v (b ∷ before) more sound = groups_have v before more sound.1

-- the entries after a group fit where all do
pub fit_behind : (v w : Version) (kids after all : List Kid) → kids ++ after ≡ all → w ≡ v
    → list_all (λ (kid : Kid). fits_parent v kid.parent) all ≡ true → list_all (λ (kid : Kid). fits_parent w kid.parent) after ≡ true
fit_behind v w kids after all e same fit =
    let whole = subst (λ (ks : List Kid). list_all (λ (kid : Kid). fits_parent v kid.parent) ks ≡ true) (sym e) fit in
    let parts =
    and_parts (list_all (λ (kid : Kid). fits_parent v kid.parent) kids) (list_all (λ (kid : Kid). fits_parent v kid.parent) after)
    (sym (list_all-append (λ (kid : Kid). fits_parent v kid.parent) kids after) ∙ whole) in
    subst (λ (u : Version). list_all (λ (kid : Kid). fits_parent u kid.parent) after ≡ true) (sym same) parts.1

pub fit_first : (v : Version) (kids after all : List Kid) → kids ++ after ≡ all
    → list_all (λ (kid : Kid). fits_parent v kid.parent) all ≡ true → list_all (λ (kid : Kid). fits_parent v kid.parent) kids ≡ true
fit_first v kids after all e fit =
    let whole = subst (λ (ks : List Kid). list_all (λ (kid : Kid). fits_parent v kid.parent) ks ≡ true) (sym e) fit in
    (and_parts (list_all (λ (kid : Kid). fits_parent v kid.parent) kids) (list_all (λ (kid : Kid). fits_parent v kid.parent) after)
    (sym (list_all-append (λ (kid : Kid). fits_parent v kid.parent) kids after) ∙ whole)).0

-- pairs that fit and were read are held
held_by : (v : Version) (kids : List Kid) → AllByRecursion (λ (kid : Kid). HasNumber v kid.parent) kids
    → AllByRecursion (λ (kid : Kid). kid.action < 2 ^ 32) kids → AllByRecursion (HasBytes v) kids
held_by v [] parents actions = tt
held_by v (kid ∷ kids) parents actions =
    (record { parent = parents.0; action = actions.0 }, held_by v kids parents.1 actions.1)

pub is_group : (v : Version) (kids : List Kid) → 1 ≤ length kids → length kids ≤ MAX_GROUP
    → list_all (λ (kid : Kid). fits_parent v kid.parent) kids ≡ true → AllByRecursion (λ (kid : Kid). kid.action < 2 ^ 32) kids → IsGroup v kids
is_group v kids some most fit actions = record { some = some; most = most; held = held_by v kids (all_told v kids fit) actions }

-- a group of entries is as large as may be, or nothing is after it
pub full_or_last : (mid most : ℕ) (all kids after : List Kid) → kids ≡ take mid all → after ≡ drop mid all → mid ≡ min (length all) most
    → (length kids ≡ most) ⊎ (after ≡ [])
full_or_last mid most all kids after front back is =
    let first = ap length front ∙ length-take mid all in
    let others = ap length back ∙ length-drop mid all in
    elim (cases_lt (length all) most) [
      | inl short ↦ inr (nil_from_length after (omega (arith, others, is, short)))
      | inr long ↦ inl (omega (arith, first, is, long))
    ]

zero_not_one : ◌≢◌ {A = ℕ} 0 1
zero_not_one e = omega (arith, e)

module _ {S : Type 0} {G : Ghosts S} where
  -- a journal has the first entries, whatever the others are
  pub first_here : (digest : List ℕ) (groups : List (List Kid)) (rest : List Kid) (j : Journal S G) → IsOf digest groups j
      → HasFirstOf j.version digest (kids_in groups ++ rest) (content_of (device_of j))
  first_here digest groups rest j is = record {
    groups = groups;
    rest = rest;
    begins = refl;
    stands = record { gate = 0; behind = []; sound = is.sound; ends = zero_not_one; whole = is.content };
  }

  -- nothing is begun
  pub none_begun : (old new : Journal S G) (kids : List Kid) → device_of new ≡ device_of old → LeavesFirst old kids new
  none_begun old new kids same = λ digest before rest is settled.
      unchanged (HasFirstOf old.version digest (kids_in before ++ (kids ++ rest))) (device_of old) (device_of new)
      (ap (λ (d : Device). d.start) same) (ap (λ (d : Device). d.steps) same) settled (first_here digest before (kids ++ rest) old is)

  -- ---- one group

  pub appends_one : (old new : Journal S G) (group : GroupView) → IsAppended old group new → IsGroup old.version group.kids
      → ((digest : List ℕ) (groups : List (List Kid)) → IsOf digest groups old → IsOf digest (groups ++ group.kids ∷ []) new)
      → ((digest : List ℕ) (groups : List (List Kid)) → IsOf digest groups old → IsSettled (device_of old)
      → LeavesSince (IsBeforeOrAfter old.version digest groups group.kids) (device_of old) (device_of new))
      → IsSettled (device_of new) → AppendsOne old group.kids new
  appends_one old new group a sound whole moments settled = record {
    version = a.version;
    running = a.still;
    failures = ap (λ (d : Device). d.failures) (led_on (device_of old) (device_of new) (append_calls old.version old.last_gate group.kids) a.ran);
    groups = whole;
    moments = λ digest before rest is at_rest.
        weaker_since (IsBeforeOrAfter old.version digest before group.kids)
        (HasFirstOf old.version digest (kids_in before ++ (group.kids ++ rest)))
        (λ content left. first_of old.version digest before group.kids rest content is.sound sound left)
        (device_of old) (device_of new) (moments digest before is at_rest);
    settled = settled;
  }

  tells_by : (old new : Journal S G) (group : GroupView) (error : JournalError) → old.failed ≡ false → is_next old group ≡ true
      → IsNotAppended old group error new → Tells old error new
  tells_by old new group NotAJournal running next not = not
  tells_by old new group OtherTask running next not = not
  tells_by old new group (Damaged at) running next not = not
  tells_by old new group Broken running next not =
      counted (device_of old) (device_of new) (append_calls old.version old.last_gate group.kids) not.ran
  tells_by old new group Failed running next not = true≢false (sym not.0 ∙ running)
  tells_by old new group JournalExists running next not = not
  tells_by old new group NotOut running next not = true≢false (sym next ∙ not.1)
  tells_by old new group NoMemory running next not = ap (λ (d : Device). d.failures) not.2.device

  left_same : (old new : Journal S G) (group : GroupView) (digest : List ℕ) (before : List (List Kid)) (rest : List Kid)
      → IsOf digest before old → device_of new ≡ device_of old
      → HasFirstOf old.version digest (kids_in before ++ (group.kids ++ rest)) (content_of (device_of new))
  left_same old new group digest before rest is same =
      subst (λ (d : Device). HasFirstOf old.version digest (kids_in before ++ (group.kids ++ rest)) (content_of d)) (sym same)
      (first_here digest before (group.kids ++ rest) old is)

  left_by : (old new : Journal S G) (group : GroupView) (error : JournalError) → IsGroup old.version group.kids
      → IsNotAppended old group error new → (digest : List ℕ) (before : List (List Kid)) (rest : List Kid) → IsOf digest before old
      → HasFirstOf old.version digest (kids_in before ++ (group.kids ++ rest)) (content_of (device_of new))
  left_by old new group NotAJournal sound not digest before rest is = absurd not
  left_by old new group OtherTask sound not digest before rest is = absurd not
  left_by old new group (Damaged at) sound not digest before rest is = absurd not
  left_by old new group Broken sound not digest before rest is =
      first_of old.version digest before group.kids rest (content_of (device_of new)) is.sound sound
      (append_ends old.version digest before group.kids (device_of old) (device_of new) old.last_gate (Err store.Failed) is.gate is.content not.ran)
  left_by old new group Failed sound not digest before rest is = left_same old new group digest before rest is not.1.device
  left_by old new group JournalExists sound not digest before rest is = absurd not
  left_by old new group NotOut sound not digest before rest is = left_same old new group digest before rest is not.2.device
  left_by old new group NoMemory sound not digest before rest is = left_same old new group digest before rest is not.2.device

  pub breaks_one : (old new : Journal S G) (group : GroupView) (error : JournalError) → old.failed ≡ false → is_next old group ≡ true
      → IsNotAppended old group error new → IsGroup old.version group.kids
      → ((digest : List ℕ) (groups : List (List Kid)) → IsOf digest groups old → IsSettled (device_of old)
      → LeavesSince (IsBeforeOrAfter old.version digest groups group.kids) (device_of old) (device_of new))
      → Breaks old group.kids error new
  breaks_one old new group error running next not sound moments = record {
    tells = tells_by old new group error running next not;
    left = left_by old new group error sound not;
    moments = λ digest before rest is at_rest.
        weaker_since (IsBeforeOrAfter old.version digest before group.kids)
        (HasFirstOf old.version digest (kids_in before ++ (group.kids ++ rest)))
        (λ content left. first_of old.version digest before group.kids rest content is.sound sound left)
        (device_of old) (device_of new) (moments digest before is at_rest);
  }

  -- a group may be appended that begins where the entries end, and of which each parent can be
  -- written
  pub next_here : (j : Journal S G) (group : GroupView) → group.first ≡ length j.entries.items
      → list_all (λ (kid : Kid). fits_parent j.version kid.parent) group.kids ≡ true → is_next j group ≡ true
  next_here j group first fit =
      and_from (group.first == length j.entries.items) (list_all (λ (kid : Kid). fits_parent j.version kid.parent) group.kids)
      (eq-eqb group.first (length j.entries.items) first) fit

  -- there was no memory for a group
  pub breaks_early : (j : Journal S G) (kids : List Kid) → Breaks j kids NoMemory j
  breaks_early j kids = record {
    tells = refl;
    left = λ digest before rest is. first_here digest before (kids ++ rest) j is;
    moments = none_begun j j kids refl;
  }

  -- ---- one group after the other

  pub appends_none : (j : Journal S G) (kids : List Kid) → kids ≡ [] → j.failed ≡ false → Appends j kids j
  appends_none j kids none running = record {
    version = refl;
    running = running;
    failures = refl;
    groups = λ digest before is. record {
      more = [];
      full = tt;
      joined = sym none;
      is = subst (λ (groups : List (List Kid)). IsOf digest groups j) (sym (append-nil before)) is;
    };
    moments = none_begun j j kids refl;
    settled = λ at_rest. at_rest;
  }

  moments_behind : (old mid new : Journal S G) (kids after all : List Kid) → kids ++ after ≡ all → AppendsOne old kids mid
      → LeavesFirst mid after new → LeavesFirst old all new
  moments_behind old mid new kids after all e first more = λ digest before rest is at_rest.
      let v = old.version in
      let P = HasFirstOf v digest (kids_in before ++ (all ++ rest)) in
      let one : LeavesSince P (device_of old) (device_of mid) =
      subst (λ (ks : List Kid). LeavesSince (HasFirstOf v digest (kids_in before ++ ks)) (device_of old) (device_of mid))
      (sym (append_assoc kids after rest) ∙ ap (λ (ks : List Kid). ks ++ rest) e)
      (first.moments digest before (after ++ rest) is at_rest) in
      let others : LeavesSince P (device_of mid) (device_of new) =
      subst (λ (ks : List Kid). LeavesSince (HasFirstOf v digest ks) (device_of mid) (device_of new)) (behind before kids after all rest e)
      (subst (λ (w : Version). LeavesSince (HasFirstOf w digest (kids_in (before ++ kids ∷ []) ++ (after ++ rest))) (device_of mid) (device_of new))
      first.version (more digest (before ++ kids ∷ []) rest (first.groups digest before is) first.settled)) in
      then_since P (device_of old) (device_of mid) (device_of new) one others

  more_behind : (old mid new : Journal S G) (kids after all : List Kid) → kids ++ after ≡ all → (length kids ≡ MAX_GROUP) ⊎ (after ≡ [])
      → AppendsOne old kids mid → Appends mid after new → (digest : List ℕ) (before : List (List Kid)) → IsOf digest before old
      → HasMore digest before all new
  more_behind old mid new kids after all e last first more digest before is =
      let h = more.groups digest (before ++ kids ∷ []) (first.groups digest before is) in
      record {
        more = kids ∷ h.more;
        full = (
          elim last [
            | inl full ↦ inl full
            | inr none ↦
                inr (none_behind h.more after h.full (groups_have new.version (before ++ kids ∷ []) h.more h.is.sound) h.joined none)
          ],
          h.full,
        );
        joined = ap (λ (ks : List Kid). kids ++ ks) h.joined ∙ e;
        is = subst (λ (groups : List (List Kid)). IsOf digest groups new) (append_assoc before (kids ∷ []) h.more) h.is;
      }

  pub appends_more : (old mid new : Journal S G) (kids after all : List Kid) → kids ++ after ≡ all → (length kids ≡ MAX_GROUP) ⊎ (after ≡ [])
      → AppendsOne old kids mid → Appends mid after new → Appends old all new
  appends_more old mid new kids after all e last first more = record {
    version = more.version ∙ first.version;
    running = more.running;
    failures = more.failures ∙ first.failures;
    groups = more_behind old mid new kids after all e last first more;
    moments = moments_behind old mid new kids after all e first more.moments;
    settled = λ at_rest. more.settled first.settled;
  }

  tells_more : (old mid new : Journal S G) (error : JournalError) → (device_of mid).failures ≡ (device_of old).failures → Tells mid error new
      → Tells old error new
  tells_more old mid new NotAJournal same tells = tells
  tells_more old mid new OtherTask same tells = tells
  tells_more old mid new (Damaged at) same tells = tells
  tells_more old mid new Broken same tells = tells ∙ ap one_more same
  tells_more old mid new Failed same tells = tells
  tells_more old mid new JournalExists same tells = tells
  tells_more old mid new NotOut same tells = tells
  tells_more old mid new NoMemory same tells = tells ∙ same

  pub breaks_more : (old mid new : Journal S G) (kids after all : List Kid) (error : JournalError) → kids ++ after ≡ all
      → AppendsOne old kids mid → Breaks mid after error new → Breaks old all error new
  breaks_more old mid new kids after all error e first more = record {
    tells = tells_more old mid new error first.failures more.tells;
    left = λ digest before rest is.
        subst (λ (ks : List Kid). HasFirstOf old.version digest ks (content_of (device_of new))) (behind before kids after all rest e)
        (subst (λ (w : Version). HasFirstOf w digest (kids_in (before ++ kids ∷ []) ++ (after ++ rest)) (content_of (device_of new)))
        first.version (more.left digest (before ++ kids ∷ []) rest (first.groups digest before is)));
    moments = moments_behind old mid new kids after all e first more.moments;
  }

  -- a group that is not appended is the first of the entries
  pub breaks_first : (old new : Journal S G) (kids after all : List Kid) (error : JournalError) → kids ++ after ≡ all
      → Breaks old kids error new → Breaks old all error new
  breaks_first old new kids after all error e b = record {
    tells = b.tells;
    left = λ digest before rest is.
        subst (λ (ks : List Kid). HasFirstOf old.version digest (kids_in before ++ ks) (content_of (device_of new)))
        (sym (append_assoc kids after rest) ∙ ap (λ (ks : List Kid). ks ++ rest) e) (b.left digest before (after ++ rest) is);
    moments = λ digest before rest is at_rest.
        subst (λ (ks : List Kid). LeavesSince (HasFirstOf old.version digest (kids_in before ++ ks)) (device_of old) (device_of new))
        (sym (append_assoc kids after rest) ∙ ap (λ (ks : List Kid). ks ++ rest) e) (b.moments digest before (after ++ rest) is at_rest);
  }

-- ---- all of it

pub copied_by : {S : Type 0} {G : Ghosts S} (digest : List ℕ) (kids : List Kid) (old new : Journal S G) (left : Device)
    (r : Result (Unit {0}) JournalError) → IsOf digest [] old → old.version ≡ Two → left ≡ device_of new → OnOk r (Appends old kids new)
    → OnOk r (IsCopyOf digest kids (content_of left))
copied_by digest kids old new left (Ok done) is two same a =
    let h = a.groups digest [] is in
    let version : new.version ≡ Two = a.version ∙ two in
    record {
      groups = h.more;
      sound = subst (λ (v : Version). AllByRecursion (IsGroup v) h.more) version h.is.sound;
      full = h.full;
      joined = h.joined;
      bytes = ap content_of same ∙ (h.is.content ∙ ap (λ (v : Version). image v digest h.more) version);
    }
copied_by digest kids old new left (Err error) is two same a = tt

pub settled_by : {S : Type 0} {G : Ghosts S} (kids : List Kid) (old new : Journal S G) (left : Device) (r : Result (Unit {0}) JournalError)
    → left ≡ device_of new → IsSettled (device_of old) → OnOk r (Appends old kids new) → OnOk r (IsSettled left)
settled_by kids old new left (Ok done) same settled a = subst IsSettled (sym same) (a.settled settled)
settled_by kids old new left (Err error) same settled a = tt

pub failures_by : {S : Type 0} {G : Ghosts S} (kids : List Kid) (first : Device) (old new : Journal S G) (left : Device)
    (r : Result (Unit {0}) JournalError) → left ≡ device_of new → (device_of old).failures ≡ first.failures → OnOk r (Appends old kids new)
    → OnOk r (left.failures ≡ first.failures)
failures_by kids first old new left (Ok done) same made a = ap (λ (d : Device). d.failures) same ∙ (a.failures ∙ made)
failures_by kids first old new left (Err error) same made a = tt

-- all entries, and nothing after them
alone : (v : Version) (digest : List ℕ) (kids : List Kid) (content : List ℕ) → v ≡ Two
    → HasFirstOf v digest (kids_in [] ++ (kids ++ [])) content → HasFirstOf Two digest kids content
alone v digest kids content two has =
    subst (λ (ks : List Kid). HasFirstOf Two digest ks content) (append-nil kids)
    (subst (λ (w : Version). HasFirstOf w digest (kids ++ []) content) two has)

pub left_in_all : {S : Type 0} {G : Ghosts S} (digest : List ℕ) (kids : List Kid) (old new : Journal S G) (left : Device)
    (r : Result (Unit {0}) JournalError) → IsOf digest [] old → old.version ≡ Two → left ≡ device_of new → OnOk r (Appends old kids new)
    → IfErr r (λ error. Breaks old kids error new) → IsCopyUnderWay digest kids (content_of left)
left_in_all digest kids old new left (Ok done) is two same a b =
    let h = a.groups digest [] is in
    let has : HasFirstOf new.version digest (kids ++ []) (content_of (device_of new)) =
    subst (λ (ks : List Kid). HasFirstOf new.version digest (ks ++ []) (content_of (device_of new))) h.joined
    (first_here digest h.more [] new h.is) in
    inr (subst (λ (d : Device). HasFirstOf Two digest kids (content_of d)) (sym same)
    (alone new.version digest kids (content_of (device_of new)) (a.version ∙ two) has))
left_in_all digest kids old new left (Err error) is two same a b =
    inr (subst (λ (d : Device). HasFirstOf Two digest kids (content_of d)) (sym same)
    (alone old.version digest kids (content_of (device_of new)) two (b.left digest [] [] is)))

appended_leaves : {S : Type 0} {G : Ghosts S} (kids : List Kid) (old new : Journal S G) (r : Result (Unit {0}) JournalError)
    → OnOk r (Appends old kids new) → IfErr r (λ error. Breaks old kids error new) → LeavesFirst old kids new
appended_leaves kids old new (Ok done) a b = a.moments
appended_leaves kids old new (Err error) a b = b.moments

pub leaves_in_all : {S : Type 0} {G : Ghosts S} (digest : List ℕ) (kids : List Kid) (first : Device) (old new : Journal S G) (left : Device)
    (r : Result (Unit {0}) JournalError) → IsOf digest [] old → old.version ≡ Two → left ≡ device_of new → OnOk r (Appends old kids new)
    → IfErr r (λ error. Breaks old kids error new) → LeavesSince (IsMaking Two digest) first (device_of old) → IsSettled (device_of old)
    → LeavesSince (IsCopyUnderWay digest kids) first left
leaves_in_all digest kids first old new left r is two same a b made settled =
    let P = IsCopyUnderWay digest kids in
    let header : LeavesSince P first (device_of old) =
    weaker_since (IsMaking Two digest) P (λ content making. inl making) first (device_of old) made in
    let entries : LeavesSince P (device_of old) (device_of new) =
    weaker_since (HasFirstOf old.version digest (kids_in [] ++ (kids ++ []))) P
    (λ content has. inr (alone old.version digest kids content two has))
    (device_of old) (device_of new) (appended_leaves kids old new r a b digest [] [] is settled) in
    subst (λ (d : Device). LeavesSince P first d) (sym same) (then_since P first (device_of old) (device_of new) header entries)

-- ---- a journal that is not made

made_failures : (digest : List ℕ) (old new : Device) → RanThrough old (create_calls digest) new → new.failures ≡ old.failures
made_failures digest old new ran = ap (λ (d : Device). d.failures) (led_on old new (create_calls digest) ran)

pub begun_failures : {S : Type 0} {G : Ghosts S} (digest : List ℕ) (old : Device) (j : Journal S G) → IsMade digest old j
    → (device_of j).failures ≡ old.failures
begun_failures digest old j made = made_failures digest old (device_of j) made.ran

pub not_made_left : (digest : List ℕ) (old new : Device) (error : JournalError) → length digest ≡ DIGEST_LEN → content_of old ≡ []
    → IsNotMade digest old error new → IsMaking Two digest (content_of new)
not_made_left digest old new NotAJournal len empty not = absurd not
not_made_left digest old new OtherTask len empty not = absurd not
not_made_left digest old new (Damaged at) len empty not = absurd not
not_made_left digest old new Broken len empty not =
    elim not [
      | inl length_fails ↦ subst (λ (d : Device). IsMaking Two digest (content_of d)) (sym length_fails.1) (inl (empty_short (content_of old) empty))
      | inr broke ↦ create_ends digest old new (Err store.Failed) len (empty_short (content_of old) empty) broke.2
    ]
not_made_left digest old new Failed len empty not = absurd not
not_made_left digest old new JournalExists len empty not = absurd (not.1 empty)
not_made_left digest old new NotOut len empty not = absurd not
not_made_left digest old new NoMemory len empty not =
    create_ends digest old new (Err store.NoMemory) len (empty_short (content_of old) empty) not.2

pub not_made_kept : (digest : List ℕ) (old new : Device) (error : JournalError) → content_of old ≢ [] → IsNotMade digest old error new
    → content_of new ≡ content_of old
not_made_kept digest old new NotAJournal some not = absurd not
not_made_kept digest old new OtherTask some not = absurd not
not_made_kept digest old new (Damaged at) some not = absurd not
not_made_kept digest old new Broken some not =
    elim not [
      | inl length_fails ↦ ap content_of length_fails.1
      | inr broke ↦ absurd (some broke.1)
    ]
not_made_kept digest old new Failed some not = absurd not
not_made_kept digest old new JournalExists some not = ap content_of not.2
not_made_kept digest old new NotOut some not = absurd not
not_made_kept digest old new NoMemory some not = absurd (some not.1)

-- calls that end for lack of memory count no failure
ends_for_memory : (old : Device) (calls : List Call) (new : Device) → Ran old calls (Err store.NoMemory) new → new.failures ≡ old.failures
ends_for_memory old [] new ran = absurd ran.0
ends_for_memory old (call ∷ calls) new ran =
    elim ran [
      | inl w ↦ ends_for_memory (after_call old call) calls new w.1
      | inr ends ↦ ap (λ (d : Device). d.failures) ends.1
    ]

pub not_copied : (digest : List ℕ) (old new : Device) (error : JournalError) → IsNotMade digest old error new → IsNotCopied old error new
not_copied digest old new NotAJournal not = not
not_copied digest old new OtherTask not = not
not_copied digest old new (Damaged at) not = not
not_copied digest old new Broken not =
    elim not [
      | inl length_fails ↦ ap (λ (d : Device). d.failures) length_fails.1
      | inr broke ↦ counted old new (create_calls digest) broke.2
    ]
not_copied digest old new Failed not = not
not_copied digest old new JournalExists not = (not.1, not.2)
not_copied digest old new NotOut not = not
not_copied digest old new NoMemory not = ends_for_memory old (create_calls digest) new not.2

tells_copied : {S : Type 0} {G : Ghosts S} (first : Device) (old new : Journal S G) (error : JournalError)
    → (device_of old).failures ≡ first.failures → Tells old error new → IsNotCopied first error (device_of new)
tells_copied first old new NotAJournal same tells = tells
tells_copied first old new OtherTask same tells = tells
tells_copied first old new (Damaged at) same tells = tells
tells_copied first old new Broken same tells = tells ∙ ap one_more same
tells_copied first old new Failed same tells = tells
tells_copied first old new JournalExists same tells = absurd tells
tells_copied first old new NotOut same tells = tells
tells_copied first old new NoMemory same tells = tells ∙ same

pub not_all_copied : {S : Type 0} {G : Ghosts S} (kids : List Kid) (first : Device) (old new : Journal S G) (left : Device)
    (r : Result (Unit {0}) JournalError) → left ≡ device_of new → (device_of old).failures ≡ first.failures
    → IfErr r (λ error. Breaks old kids error new) → IfErr r (λ error. IsNotCopied first error left)
not_all_copied kids first old new left (Ok done) same made b = tt
not_all_copied kids first old new left (Err error) same made b =
    subst (λ (d : Device). IsNotCopied first error d) (sym same) (tells_copied first old new error made b.tells)
