-- What a stop at any moment leaves of a journal that is appended to, group after group.
use Rattle.std.proofs.Common.{◌≡◌, ◌⊎◌, inl, inr, ℕ, ◌+◌, ◌<◌, ◌≤◌, ◌^◌, true, Option, Some, None, List, [], ◌∷◌, ◌++◌, map, length, Ok, Err, refl, sym, ap, ◌∙◌, subst, append_assoc, append-nil, length-append, arith}
use Rattle.std.specs.Prelude.{Result, IfOk, IfSome, option_map}
use Rattle.std.specs.Option.{option_or}
use Rattle.std.specs.List.{list_all, AllByRecursion}
use Rattle.std.proofs.lemmas.Bool.{and_parts}
use Rattle.std.proofs.lemmas.List.{map-append}
use Rattle.hd_base.proofs.Options.{option_or_none}
use Rattle.hd_task.specs.declared.task.Task.{Task}
use Rattle.hd_task.specs.declared.plan.Kid.{Kid}
use Rattle.hd_task.specs.declared.plan.TheConstants.{ROOT_PARENT}
use Rattle.hd_store.specs.declared.store.Store.{Ghosts}
use Rattle.hd_store.specs.declared.error.StoreError.TheVariants as store
use Rattle.hd_store.specs.Device.{Device, content_of}
use Rattle.hd_image.specs.declared.entry.Entry.{Entry}
use Rattle.hd_image.specs.declared.entry.TheConstants.{MAX_GROUP}
use Rattle.hd_image.specs.declared.version.Version.{Version}
use Rattle.hd_image.specs.declared.header.TheConstants.{DIGEST_LEN, FIRST_GATE}
use Rattle.hd_image.specs.Image.{IsGroup, HasBytes, HasNumber, counted, entries_in, entries_of, entry_width, fits_parent, front, opened}
use Rattle.hd_image.specs.Stops.{IsBeforeOrAfter}
use Rattle.hd_image.proofs.Numbering.{all_told}
use Rattle.hd_image.proofs.Stopping.{appended_entries}
use Rattle.hd_journal.specs.declared.error.JournalError.{JournalError}
use Rattle.hd_journal.specs.declared.error.JournalError.TheVariants as errors
use Rattle.hd_journal.specs.declared.journal.Journal.{Journal}
use Rattle.hd_journal.specs.Answers.{IsAppended, IsNotAppended, BreaksAppending, StandsIn, is_next}
use Rattle.hd_journal.specs.Group.{GroupView}
use Rattle.hd_journal.specs.Journal.{IsOf, IsSame, device_of, kid_of, kids_of}
use Rattle.hd_journal.specs.Moments.{LeavesSince, IsSettled}
use Rattle.hd_journal.proofs.Contents.{append_ends}
use Rattle.hd_journal.proofs.Joining.{weaker_since}
use Rattle.hd_journal.proofs.Passing.{then_since, unchanged}
use Rattle.hd_journal.proofs.Standing.{stop_stands}
use Rattle.hd_base.specs.Lists.{BeginsWith}
use Rattle.hd_entries.specs.Resuming.{AreLegal, first_fault, fault_at}
use Rattle.hd_entries.specs.Settling.{BookState, IsBookKept}
use Rattle.hd_entries.proofs.Again.{nothing_kept}
use Rattle.hd_entries.proofs.Faultless.{kept_from, legal_from, no_faults}
use Rattle.hd_threads.specs.Growing.{JournalGrows}
use Rattle.hd_threads.proofs.Growing.{begins_through}
use Rattle.hd_threads.specs.Surviving.{IsLegalLog, kids_of_groups, StillStand, Survives}

-- ---- legal logs

free_front : (t : Task) (a b before : List Kid) → first_fault t before (a ++ b) ≡ None → first_fault t before a ≡ None
free_front t [] b before free = refl
free_front t (k ∷ a) b before free =
    let here = option_map (λ (r : _). (length before, r)) (fault_at t before k) in
    let parts = option_or_none here (first_fault t (before ++ k ∷ []) (a ++ b)) free in
    ap (λ o. option_or o (first_fault t (before ++ k ∷ []) a)) parts.0 ∙ free_front t a b (before ++ k ∷ []) parts.1

-- a beginning of a legal log is legal
legal_front : (t : Task) (log a : List Kid) → AreLegal t log → length log < ROOT_PARENT → BeginsWith log a → AreLegal t a
legal_front t log a legal short begins =
    let b = begins.0 in
    let whole : AreLegal t (a ++ b) = subst (AreLegal t) begins.1 legal in
    let free = free_front t a b [] (no_faults t (a ++ b) [] whole.0 refl whole.1 whole.2) in
    legal_from t a (kept_from t a [] (nothing_kept t) (omega (arith, short, ap length begins.1, length-append a b)) free)

-- what every book keeps is a legal log
pub kept_log : (b : BookState) → IsBookKept b → IsLegalLog (Some b.task) b.entries
kept_log b kept = ((_, kept.named, kept.marked.legal), kept.short)

-- ---- the pairs of groups

kids_back : (v : Version) (at : ℕ) (kids : List Kid) → map kid_of (entries_of v at kids) ≡ kids
kids_back v at [] = refl
kids_back v at (kid ∷ kids) = ap (λ (ks : List Kid). kid ∷ ks) (kids_back v (at + entry_width v) kids)

-- the pairs of groups begin with those of the first ones
kids_begin : (v : Version) (gate : ℕ) (groups more : List (List Kid))
    → BeginsWith (map kid_of (entries_in v gate (groups ++ more))) (map kid_of (entries_in v gate groups))
kids_begin v gate [] more = (map kid_of (entries_in v gate more), refl)
kids_begin v gate (group ∷ groups) more =
    let here = entries_of v (gate + 5) group in
    let next = gate + length (opened v group) in
    let rest = kids_begin v next groups more in (
      rest.0,
      map-append kid_of here (entries_in v next (groups ++ more))
          ∙ (ap (λ ks. map kid_of here ++ ks) rest.1
          ∙ (sym (append_assoc (map kid_of here) (map kid_of (entries_in v next groups)) rest.0)
          ∙ ap (λ ks. ks ++ rest.0) (sym (map-append kid_of here (entries_in v next groups))))),
    )

last_group : (P : List Kid → Type 0) (groups : List (List Kid)) (next : List Kid) → AllByRecursion P (groups ++ next ∷ []) → P next
last_group P [] next all = all.0
last_group P (group ∷ groups) next all = last_group P groups next all.1

-- ---- a group that may be appended

held_by : (v : Version) (kids : List Kid) → AllByRecursion (λ (kid : Kid). HasNumber v kid.parent) kids
    → AllByRecursion (λ (kid : Kid). kid.action < 2 ^ 32) kids → AllByRecursion (HasBytes v) kids
held_by v [] parents actions = tt
held_by v (kid ∷ kids) parents actions = (record { parent = parents.0; action = actions.0 }, held_by v kids parents.1 actions.1)

group_by : (v : Version) (kids : List Kid) → 1 ≤ length kids → length kids ≤ MAX_GROUP
    → list_all (λ (kid : Kid). fits_parent v kid.parent) kids ≡ true → AllByRecursion (λ (kid : Kid). kid.action < 2 ^ 32) kids → IsGroup v kids
group_by v kids some most fit actions = record { some = some; most = most; held = held_by v kids (all_told v kids fit) actions }

-- just these groups stand
just_these : (t : Task) (v : Version) (digest : List ℕ) (groups : List (List Kid)) (kids : List Kid) (content : List ℕ) → StandsIn v digest groups content
    → BeginsWith (kids_of_groups v groups) kids → StillStand t v digest groups kids content
just_these t v digest groups kids content stand has = record {
  more = [];
  stand = subst (λ gs. StandsIn v digest gs content) (sym (append-nil groups)) stand;
  has = subst (λ gs. BeginsWith (kids_of_groups v gs) kids) (sym (append-nil groups)) has;
  legal = inl (ap (kids_of_groups v) (append-nil groups));
}

-- fewer pairs are wanted
fewer : (t : Task) (v : Version) (digest : List ℕ) (groups : List (List Kid)) (few kids : List Kid) (content : List ℕ) → BeginsWith kids few
    → StillStand t v digest groups kids content → StillStand t v digest groups few content
fewer t v digest groups few kids content begins s = record {
  more = s.more;
  stand = s.stand;
  has = begins_through few kids (kids_of_groups v (groups ++ s.more)) begins s.has;
  legal = s.legal;
}

module _ {S : Type 0} {G : Ghosts S} where
  -- the pairs of a journal are those of its groups
  kids_by : (digest : List ℕ) (groups : List (List Kid)) (j : Journal S G) → IsOf digest groups j → kids_of j ≡ kids_of_groups j.version groups
  kids_by digest groups j is = ap (map kid_of) is.entries

  kids_with : (digest : List ℕ) (groups : List (List Kid)) (next : List Kid) (j : Journal S G) → IsOf digest groups j
      → kids_of_groups j.version (groups ++ next ∷ []) ≡ kids_of j ++ next
  kids_with digest groups next j is =
      let v = j.version in
      let at = length (front v digest groups) + 5 in
      ap (map kid_of) (appended_entries v digest groups next is.digest_len)
      ∙ (map-append kid_of (entries_in v FIRST_GATE groups) (entries_of v at next)
      ∙ (ap (λ ks. ks ++ map kid_of (entries_of v at next)) (sym (kids_by digest groups j is))
      ∙ ap (λ ks. kids_of j ++ ks) (kids_back v at next)))

  -- a journal's groups stand on its device
  stands_whole : (digest : List ℕ) (groups : List (List Kid)) (j : Journal S G) → IsOf digest groups j → StandsIn j.version digest groups (content_of (device_of j))
  stands_whole digest groups j is = record {
    gate = 0;
    behind = [];
    sound = is.sound;
    ends = λ e. omega (arith, e);
    whole = is.content;
  }

  -- its list has just its pairs
  lists_all : (digest : List ℕ) (groups : List (List Kid)) (j : Journal S G) → IsOf digest groups j → BeginsWith (kids_of_groups j.version groups) (kids_of j)
  lists_all digest groups j is = ([], sym (kids_by digest groups j is) ∙ sym (append-nil (kids_of j)))

  still_whole : (t : Task) (digest : List ℕ) (groups : List (List Kid)) (j : Journal S G) → IsOf digest groups j
      → StillStand t j.version digest groups (kids_of j) (content_of (device_of j))
  still_whole t digest groups j is =
      just_these t j.version digest groups (kids_of j) (content_of (device_of j)) (stands_whole digest groups j is) (lists_all digest groups j is)

  -- ---- nothing is appended

  same_survives : (t : Task) (old new : Journal S G) → device_of new ≡ device_of old → kids_of new ≡ kids_of old → Survives t old new
  same_survives t old new device kids = record {
    legal = inl kids;
    moments = λ digest groups is settled.
        unchanged (StillStand t old.version digest groups (kids_of old)) (device_of old) (device_of new)
        (ap (λ (d : Device). d.start) device) (ap (λ (d : Device). d.steps) device) settled (still_whole t digest groups old is);
    read = λ digest groups is.
        subst (λ ks. StillStand t old.version digest groups ks (content_of (device_of new))) (sym kids)
        (subst (λ d. StillStand t old.version digest groups (kids_of old) (content_of d)) (sym device) (still_whole t digest groups old is));
  }

  pub survives_itself : (task : Option Task) (j : Journal S G) → IfSome task (λ t. Survives t j j)
  survives_itself None j = tt
  survives_itself (Some t) j = same_survives t j j refl refl

  -- ---- a group is appended, or not

  module _ (t : Task) (old new : Journal S G) (next : List Kid) (legal : AreLegal t (kids_of old ++ next))
      (group : (digest : List ℕ) (groups : List (List Kid)) → IsOf digest groups old → IsGroup old.version next) where
    abbrev v : Version
    v = old.version

    with_next : (digest : List ℕ) (groups : List (List Kid)) (content : List ℕ) → IsOf digest groups old → StandsIn v digest (groups ++ next ∷ []) content
        → StillStand t v digest groups (kids_of old ++ next) content
    with_next digest groups content is stand =
        let all = kids_with digest groups next old is in
        record {
          more = next ∷ [];
          stand = stand;
          has = ([], all ∙ sym (append-nil (kids_of old ++ next)));
          legal = inr (subst (AreLegal t) (sym all) legal);
        }

    still_left : (digest : List ℕ) (groups : List (List Kid)) (content : List ℕ) → IsOf digest groups old → IsBeforeOrAfter v digest groups next content
        → StillStand t v digest groups (kids_of old) content
    still_left digest groups content is left =
        elim (stop_stands v digest groups next content is.sound (group digest groups is) left) [
          | inl stand ↦ just_these t v digest groups (kids_of old) content stand (lists_all digest groups old is)
          | inr stand ↦
              fewer t v digest groups (kids_of old) (kids_of old ++ next) content (next, refl) (with_next digest groups content is stand)
        ]

    still_moments : ((digest : List ℕ) (groups : List (List Kid)) → IsOf digest groups old → IsSettled (device_of old)
        → LeavesSince (IsBeforeOrAfter v digest groups next) (device_of old) (device_of new))
        → (digest : List ℕ) (groups : List (List Kid)) → IsOf digest groups old → IsSettled (device_of old)
        → LeavesSince (StillStand t v digest groups (kids_of old)) (device_of old) (device_of new)
    still_moments moments digest groups is settled =
        weaker_since (IsBeforeOrAfter v digest groups next) (StillStand t v digest groups (kids_of old))
        (λ content left. still_left digest groups content is left) (device_of old) (device_of new) (moments digest groups is settled)

  -- a group was appended
  appended_by : (t : Task) (old new : Journal S G) (group : GroupView) → IsAppended old group new → kids_of new ≡ kids_of old ++ group.kids
      → ((digest : List ℕ) (groups : List (List Kid)) → IsOf digest groups old → IsOf digest (groups ++ group.kids ∷ []) new)
      → ((digest : List ℕ) (groups : List (List Kid)) → IsOf digest groups old → IsSettled (device_of old)
      → LeavesSince (IsBeforeOrAfter old.version digest groups group.kids) (device_of old) (device_of new))
      → AreLegal t (kids_of old ++ group.kids) → Survives t old new
  appended_by t old new group a kids whole moments legal =
      let next = group.kids in
      let sound = λ (digest : List ℕ) (groups : List (List Kid)) (is : IsOf digest groups old).
      subst (λ v. IsGroup v next) a.version (last_group (IsGroup new.version) groups next (whole digest groups is).sound) in
      record {
        legal = inr (subst (AreLegal t) (sym kids) legal);
        moments = still_moments t old new next legal sound moments;
        read = λ digest groups is.
            subst (λ ks. StillStand t old.version digest groups ks (content_of (device_of new))) (sym kids)
            (with_next t old new next legal sound digest groups (content_of (device_of new)) is
            (subst (λ v. StandsIn v digest (groups ++ next ∷ []) (content_of (device_of new))) a.version
            (stands_whole digest (groups ++ next ∷ []) new (whole digest groups is))));
      }

  -- the device failed meanwhile
  broken_by : (t : Task) (old new : Journal S G) (group : GroupView) → BreaksAppending old group new → kids_of new ≡ kids_of old
      → ((digest : List ℕ) (groups : List (List Kid)) → IsOf digest groups old → IsSettled (device_of old)
      → LeavesSince (IsBeforeOrAfter old.version digest groups group.kids) (device_of old) (device_of new))
      → IsGroup old.version group.kids → AreLegal t (kids_of old ++ group.kids) → Survives t old new
  broken_by t old new group b kids moments sound legal =
      let next = group.kids in
      let one = λ (digest : List ℕ) (groups : List (List Kid)) (is : IsOf digest groups old). sound in
      record {
        legal = inl kids;
        moments = still_moments t old new next legal one moments;
        read = λ digest groups is.
            subst (λ ks. StillStand t old.version digest groups ks (content_of (device_of new))) (sym kids)
            (still_left t old new next legal one digest groups (content_of (device_of new)) is
            (append_ends old.version digest groups next (device_of old) (device_of new) old.last_gate (Err store.Failed) is.gate is.content b.ran));
      }

  not_appended_by : (t : Task) (old new : Journal S G) (group : GroupView) (error : JournalError) → IsNotAppended old group error new
      → kids_of new ≡ kids_of old
      → ((digest : List ℕ) (groups : List (List Kid)) → IsOf digest groups old → IsSettled (device_of old)
      → LeavesSince (IsBeforeOrAfter old.version digest groups group.kids) (device_of old) (device_of new))
      → 1 ≤ length group.kids → length group.kids ≤ MAX_GROUP → AllByRecursion (λ (kid : Kid). kid.action < 2 ^ 32) group.kids
      → AreLegal t (kids_of old ++ group.kids) → Survives t old new
  not_appended_by t old new group errors.NotAJournal not kids moments some most actions legal = absurd not
  not_appended_by t old new group errors.OtherTask not kids moments some most actions legal = absurd not
  not_appended_by t old new group (errors.Damaged at) not kids moments some most actions legal = absurd not
  not_appended_by t old new group errors.Device not kids moments some most actions legal =
      let fit = and_parts _ _ not.next in
      broken_by t old new group not kids moments (group_by old.version group.kids some most fit.1 actions) legal
  not_appended_by t old new group errors.Failed not kids moments some most actions legal = same_survives t old new not.1.device kids
  not_appended_by t old new group errors.JournalExists not kids moments some most actions legal = absurd not
  not_appended_by t old new group errors.NotOut not kids moments some most actions legal = same_survives t old new not.2.device kids
  not_appended_by t old new group errors.NoMemory not kids moments some most actions legal = same_survives t old new not.2.device kids

  -- the same, where the task is that of a log which begins with the journal's list and the group
  pub appended_survives : (task : Option Task) (log : List Kid) (old new : Journal S G) (group : GroupView) → IsAppended old group new
      → kids_of new ≡ kids_of old ++ group.kids
      → ((digest : List ℕ) (groups : List (List Kid)) → IsOf digest groups old → IsOf digest (groups ++ group.kids ∷ []) new)
      → ((digest : List ℕ) (groups : List (List Kid)) → IsOf digest groups old → IsSettled (device_of old)
      → LeavesSince (IsBeforeOrAfter old.version digest groups group.kids) (device_of old) (device_of new))
      → IsLegalLog task log → BeginsWith log (kids_of old ++ group.kids) → IfSome task (λ t. Survives t old new)
  appended_survives None log old new group a kids whole moments legal begins = tt
  appended_survives (Some t) log old new group a kids whole moments legal begins =
      appended_by t old new group a kids whole moments (legal_front t log (kids_of old ++ group.kids) legal.0 legal.1 begins)

  pub not_appended_survives : (task : Option Task) (log : List Kid) (old new : Journal S G) (group : GroupView) (error : JournalError)
      → IsNotAppended old group error new → kids_of new ≡ kids_of old
      → ((digest : List ℕ) (groups : List (List Kid)) → IsOf digest groups old → IsSettled (device_of old)
      → LeavesSince (IsBeforeOrAfter old.version digest groups group.kids) (device_of old) (device_of new))
      → 1 ≤ length group.kids → length group.kids ≤ MAX_GROUP → AllByRecursion (λ (kid : Kid). kid.action < 2 ^ 32) group.kids
      → IsLegalLog task log → BeginsWith log (kids_of old ++ group.kids) → IfSome task (λ t. Survives t old new)
  not_appended_survives None log old new group error not kids moments some most actions legal begins = tt
  not_appended_survives (Some t) log old new group error not kids moments some most actions legal begins =
      not_appended_by t old new group error not kids moments some most actions
      (legal_front t log (kids_of old ++ group.kids) legal.0 legal.1 begins)

  -- ---- one after the other

  module _ (t : Task) (a b c : Journal S G) (grows : JournalGrows a b) (x : Survives t a b) (y : Survives t b c) where
    legal_through : (kids_of c ≡ kids_of a) ⊎ AreLegal t (kids_of c)
    legal_through =
        elim y.legal [
          | inr legal ↦ inr legal
          | inl same ↦ elim x.legal [
            | inr legal ↦ inr (subst (AreLegal t) (sym same) legal)
            | inl before ↦ inl (same ∙ before)
          ]
        ]

    still_through : (digest : List ℕ) (groups more : List (List Kid)) (kids : List Kid) (content : List ℕ) → IsOf digest groups a
        → IsOf digest (groups ++ more) b → StillStand t b.version digest (groups ++ more) kids content → StillStand t a.version digest groups kids content
    still_through digest groups more kids content was is later =
        let s : StillStand t a.version digest (groups ++ more) kids content =
        subst (λ v. StillStand t v digest (groups ++ more) kids content) grows.version later in
        let all : (groups ++ more) ++ s.more ≡ groups ++ (more ++ s.more) = append_assoc groups more s.more in
        let here : kids_of b ≡ kids_of_groups a.version (groups ++ more) =
        kids_by digest (groups ++ more) b is ∙ ap (λ v. kids_of_groups v (groups ++ more)) grows.version in
        record {
          more = more ++ s.more;
          stand = subst (λ gs. StandsIn a.version digest gs content) all s.stand;
          has = subst (λ gs. BeginsWith (kids_of_groups a.version gs) kids) all s.has;
          legal =
              elim s.legal [
                | inr legal ↦ inr (subst (λ gs. AreLegal t (kids_of_groups a.version gs)) all legal)
                | inl same ↦
                    let whole : kids_of_groups a.version (groups ++ (more ++ s.more)) ≡ kids_of b =
                    ap (kids_of_groups a.version) (sym all) ∙ (same ∙ sym here) in
                    elim x.legal [
                      | inr legal ↦ inr (subst (AreLegal t) (sym whole) legal)
                      | inl before ↦ inl (whole ∙ (before ∙ kids_by digest groups a was))
                    ]
              ];
        }

    survives_by : (IsSettled (device_of a) → IsSettled (device_of b)) → Survives t a c
    survives_by settles = record {
      legal = legal_through;
      moments = λ digest groups is settled.
          let first = grows.groups digest groups is in
          then_since (StillStand t a.version digest groups (kids_of a)) (device_of a) (device_of b) (device_of c) (x.moments digest groups is settled)
          (weaker_since (StillStand t b.version digest (groups ++ first.0) (kids_of b)) (StillStand t a.version digest groups (kids_of a))
          (λ content left.
          fewer t a.version digest groups (kids_of a) (kids_of b) content grows.begins
          (still_through digest groups first.0 (kids_of b) content is first.1 left))
          (device_of b) (device_of c) (y.moments digest (groups ++ first.0) first.1 (settles settled)));
      read = λ digest groups is.
          let first = grows.groups digest groups is in
          still_through digest groups first.0 (kids_of c) (content_of (device_of c)) is first.1
          (y.read digest (groups ++ first.0) first.1);
    }

  pub survives_through : (task later : Option Task) (a b c : Journal S G) → later ≡ task → JournalGrows a b → (IsSettled (device_of a) → IsSettled (device_of b))
      → IfSome task (λ t. Survives t a b) → IfSome later (λ t. Survives t b c) → IfSome task (λ t. Survives t a c)
  survives_through None later a b c same grows settles x y = tt
  survives_through (Some t) later a b c same grows settles x y =
      survives_by t a b c grows x (subst (λ o. IfSome o (λ t. Survives t b c)) same y) settles
