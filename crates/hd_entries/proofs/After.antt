-- The parts of a book after a batch that is not refused: they show what the batch makes of the
-- book, and keep what they kept.
use Rattle.std.proofs.Common.{◌≡◌, ℕ, ◌+◌, ◌-◌, ◌*◌, ◌^◌, ◌<◌, ◌≤◌, Bool, true, false, cond, not, Option, Some, None, List, [], ◌∷◌, ◌++◌, map, replicate, length, get_or, slice_get, inl, inr, refl, sym, ap, ap₂, ◌∙◌, subst, arith, length-append, true≢false}
use Rattle.std.specs.Prelude.{flat_map}
use Rattle.std.specs.List.{AllByRecursion}
use Rattle.std.proofs.lemmas.Bool.{cases_lt, leb-true}
use Rattle.std.proofs.lemmas.List.{get_or_append_left, get_or-append_right, get_or-replicate, length-replicate, length-map, map-append, ext_get_or}
use Rattle.hd_task.specs.declared.task.Task.{Task}
use Rattle.hd_task.specs.declared.plan.Kid.{Kid}
use Rattle.hd_task.specs.declared.plan.TheConstants.{ROOT_PARENT}
use Rattle.hd_task.specs.declared.departure.Departure.{Departure}
use Rattle.hd_task.specs.Plans.{exec}
use Rattle.hd_task.specs.Expansions.{applicable_at, followed_by, children, generated, departures_of}
use Rattle.hd_node.specs.declared.batch.Outcome.{Outcome}
use Rattle.hd_node.specs.declared.batch.Outcome.TheVariants as outcome
use Rattle.hd_node.specs.Outcome.{kid_of}
use Rattle.hd_entries.specs.declared.entry.ExpandedPlan.{ExpandedPlan}
use Rattle.hd_entries.specs.declared.entry.Best.{Best}
use Rattle.hd_entries.specs.declared.refusal.Refusal.{Refusal}
use Rattle.hd_entries.specs.declared.refusal.Refusal.TheVariants.{Full}
use Rattle.hd_tables.specs.Kids.{KidsView}
use Rattle.hd_entries.specs.Kids.{kids_from, posted_by}
use Rattle.hd_entries.specs.Settling.{BookState, IsBookKept, is_posted, first_refusal, all_settled, entry_of, IsOutcomeOfTask}
use Rattle.hd_entries.specs.Holding.{EntriesView, successor_at_entry, node_at, plans_at, state_by, state_of, view_of, SettlesEach, IsBestOf, AreExpanded, HasKids, IsHeldBy, IsHeld}
use Rattle.hd_entries.specs.Admitting.{marks_after, SameButMarks}
use Rattle.hd_entries.specs.declared.content.EntriesContent.{EntriesContent}
use Rattle.hd_entries.specs.Refusing.{has_room, refusal_to}
use Rattle.hd_entries.specs.Growing.{entered_by, best_by, departure_by, successor_count, posted_all}
use Rattle.hd_entries.proofs.Adding.{entered-count}
use Rattle.hd_node.proofs.Steps.{few_actions}
use Rattle.hd_entries.proofs.Children.{few_applicable}
use Rattle.hd_entries.proofs.Naming.{length-plans_of, posted_by-append}
use Rattle.hd_entries.proofs.Judging.{all_known, length-marks_after, marked_at}
use Rattle.hd_entries.proofs.Posting.{posted_for, posted_kids, posted_marks, posted_entries, kids_led}
use Rattle.hd_entries.proofs.Accepting.{accepted_kept, all_entries, Follows, at_first, batch_follows, batch_task}
use Rattle.hd_entries.proofs.Best.{best_all, departure_all}

-- ---- lists

pub entered_kids : (outcomes : List Outcome) → map successor_at_entry (entered_by outcomes) ≡ flat_map entry_of outcomes
entered_kids [] = refl
entered_kids (outcome.Expanded e ∷ outcomes) = ap (λ (ks : List Kid). e.kid ∷ ks) (entered_kids outcomes)
entered_kids (outcome.Duplicate k by ∷ outcomes) = entered_kids outcomes
entered_kids (outcome.Bounded k h ∷ outcomes) = entered_kids outcomes

-- ---- a batch

module _ (t : Task) (entries : List ExpandedPlan) (best : Option Best) (departure : Option Departure) (table : KidsView) (most : ℕ) (h : IsHeldBy t entries best departure table most) (outcomes : List Outcome) (own : AllByRecursion (IsOutcomeOfTask t) outcomes) (free : first_refusal (state_by t entries table.marks) [] outcomes ≡ None) (room : length entries + length (flat_map entry_of outcomes) ≤ most) (marked_table : KidsView) (same_kids : marked_table.kids ≡ table.kids) (same_count : marked_table.entries ≡ table.entries) (same_marks : marked_table.marks ≡ marks_after (state_by t entries table.marks) outcomes) where
  abbrev kids : List Kid
  kids = map successor_at_entry entries

  abbrev before : BookState
  before = state_by t entries table.marks

  abbrev after : BookState
  after = all_settled before outcomes

  abbrev old : List (List ℕ)
  old = plans_at kids

  abbrev entries' : List ExpandedPlan
  entries' = entries ++ entered_by outcomes

  abbrev E : List (List ℕ)
  E = plans_at (map successor_at_entry entries')

  -- the table, where the batch's successors are marked already, with what the batch posts
  abbrev table' : KidsView
  table' = posted_all marked_table outcomes

  fits : length after.entries < ROOT_PARENT
  fits = omega (arith, h.numbered, room, ap length (all_entries outcomes before), length-append kids (flat_map entry_of outcomes), length-map entries successor_at_entry)

  f : Follows t kids table.marks h.kept outcomes after.entries after.marks
  f = batch_follows t kids table.marks h.kept [] outcomes kids table.marks (at_first t kids table.marks h.kept) free own fits

  task_stays : after.task ≡ t
  task_stays = batch_task t kids table.marks h.kept outcomes free own fits

  new_kids : map successor_at_entry entries' ≡ after.entries
  new_kids = map-append successor_at_entry entries (entered_by outcomes) ∙ (ap (λ ks. kids ++ ks) (entered_kids outcomes) ∙ sym (all_entries outcomes before))

  tail : E ≡ old ++ f.more
  tail = ap plans_at new_kids ∙ f.tail

  old_count : length old ≡ length kids
  old_count = length-plans_of kids old h.kept.named

  old_short : length old < ROOT_PARENT
  old_short = omega (arith, old_count, h.kept.short)

  same_number : length old ≡ length entries
  same_number = old_count ∙ length-map entries successor_at_entry

  short : length E < ROOT_PARENT
  short = omega (arith, ap length new_kids, length-plans_of after.entries (plans_at after.entries) f.kept.named, ap (λ ks. length (plans_at ks)) new_kids, fits)

  posted_tail : posted_by t E ≡ posted_by t old ++ kids_from t (length old) f.more
  posted_tail = ap (posted_by t) tail ∙ posted_by-append t old f.more

  -- ---- the marks

  each_posted : AllByRecursion (λ o. is_posted before (kid_of o) ≡ true) outcomes
  each_posted = all_known (λ (q : Kid). is_posted before q ≡ true) outcomes f.known

  long : length (marks_after before outcomes) ≡ length table.marks
  long = length-marks_after t kids table.marks h.kept outcomes table.marks

  mark_at : (j : ℕ) → j < length after.marks → get_or after.marks j true ≡ get_or (marks_after before outcomes ++ replicate (successor_count outcomes) false) j true
  mark_at j lt =
      elim (cases_lt j (length table.marks)) [
        | inl within ↦
            f.olds j within
            ∙ (sym (marked_at t kids table.marks h.kept outcomes table.marks refl each_posted j within)
            ∙ sym (get_or_append_left (marks_after before outcomes) (replicate (successor_count outcomes) false) true j (omega (arith, within, long))))
        | inr beyond ↦
            f.news j beyond lt
            ∙ sym (get_or-append_right (marks_after before outcomes) (replicate (successor_count outcomes) false) (length table.marks) j true long beyond
            ∙ get_or-replicate (successor_count outcomes) (j - length table.marks) false true (omega (arith, lt, beyond, f.grown)))
      ]

  marks_are : after.marks ≡ marks_after before outcomes ++ replicate (successor_count outcomes) false
  marks_are =
      ext_get_or true after.marks (marks_after before outcomes ++ replicate (successor_count outcomes) false)
      (omega (arith, f.grown, long, length-append (marks_after before outcomes) (replicate (successor_count outcomes) false), length-replicate (successor_count outcomes) false))
      mark_at

  -- ---- the book

  pub state_after : state_by t entries' table'.marks ≡ after
  state_after =
      ap₂ (λ (ks : List Kid) (ms : List Bool). let b : BookState = record { task = t; entries = ks; marks = ms } in b) new_kids (posted_marks outcomes marked_table ∙ (ap (λ (ms : List Bool). ms ++ replicate (successor_count outcomes) false) same_marks ∙ sym marks_are))
      ∙ ap (λ (u : Task). let b : BookState = record { task = u; entries = after.entries; marks = after.marks } in b) (sym task_stays)

  kept_after : IsBookKept (state_by t entries' table'.marks)
  kept_after = subst IsBookKept (sym state_after) (accepted_kept before outcomes h.kept own free fits)

  plans_after : AreExpanded t entries' (best_by best (length entries) outcomes) (departure_by departure (length entries) outcomes)
  plans_after = record {
    named = kept_after.named;
    short = omega (arith, kept_after.short, length-map entries' successor_at_entry);
    nodes =
        ap (map (exec t)) tail
        ∙ (map-append (exec t) old f.more
        ∙ (ap₂ (λ xs ys. xs ++ ys) h.plans.nodes f.leads ∙ sym (map-append (λ e. Some (node_at e)) entries (entered_by outcomes))));
    best_is =
        subst (λ xs. IsBestOf t xs (best_by best (length entries) outcomes)) (sym tail)
        (subst (λ n. IsBestOf t (old ++ f.more) (best_by best n outcomes)) same_number (best_all t outcomes old f.more best own f.leads h.plans.best_is));
    departure_is =
        ap (λ n. departure_by departure n outcomes) (sym same_number)
        ∙ (departure_all t outcomes old f.more departure own f.leads h.plans.departure_is ∙ ap (λ xs. slice_get (departures_of t xs) 0) (sym tail));
  }

  posts_after : HasKids t entries' table'
  posts_after = record {
    posted =
        posted_kids outcomes marked_table
        ∙ (ap₂ (λ (ks : List Kid) (n : ℕ). ks ++ posted_for n outcomes) (same_kids ∙ h.posts.posted) (same_count ∙ (h.posts.entered ∙ sym same_number))
        ∙ (ap (λ (ks : List Kid). posted_by t old ++ ks) (sym (kids_led t (length old) outcomes f.more own f.leads)) ∙ sym posted_tail));
    entered = posted_entries outcomes marked_table ∙ (ap (λ (n : ℕ). n + length (entered_by outcomes)) (same_count ∙ h.posts.entered) ∙ sym (length-append entries (entered_by outcomes)));
  }

  pub held_after : IsHeldBy t entries' (best_by best (length entries) outcomes) (departure_by departure (length entries) outcomes) table' most
  held_after = record {
    kept = kept_after;
    plans = plans_after;
    posts = posts_after;
    within = omega (arith, room, length-append entries (entered_by outcomes), entered-count outcomes);
    numbered = h.numbered;
  }

  -- each outcome settles one successor
  pub settles_each : SettlesEach before after outcomes
  settles_each = f.counted

-- ---- what a batch that is not refused says

record IsFree (room : Bool) (why : Option Refusal) : Type 0 where
  has_room : room ≡ true
  nothing : why ≡ None

unrefused : (room : Bool) (why : Option Refusal) → cond (not room) (Some Full) why ≡ None → IsFree room why
unrefused false why e = absurd (cc)
unrefused true why e = record { has_room = refl; nothing = e }

-- there is room for its entries, and no outcome is refused
pub record IsAdmitted (c : EntriesContent) (outcomes : List Outcome) : Type 0 where
  pub room : length c.expanded.entries.items + length (flat_map entry_of outcomes) ≤ c.most
  pub nothing : first_refusal (state_of c) [] outcomes ≡ None

pub admitted : (c : EntriesContent) (outcomes outcomes' : List Outcome) → outcomes' ≡ outcomes → refusal_to (view_of c) outcomes' ≡ None → IsAdmitted c outcomes
admitted c outcomes outcomes' same e =
    let v = view_of c in
    let free = unrefused (has_room v outcomes) (first_refusal v.state [] outcomes) (ap (refusal_to v) (sym same) ∙ e) in
    record {
      room =
          omega (arith, leb-true (length v.state.entries + length (flat_map entry_of outcomes)) v.most free.has_room, length-map c.expanded.entries.items successor_at_entry);
      nothing = free.nothing;
    }

-- ---- how many successors are posted is far from a u64's end

few_children : (t : Task) (p : List ℕ) → length (children t p) ≤ 2 ^ 20
few_children t p = omega (arith, length-map (applicable_at t (exec t p)) (followed_by p), few_applicable t (exec t p), few_actions t)

few_generated : (t : Task) (expanded : List (List ℕ)) → length (flat_map (children t) expanded) ≤ length expanded * 1048576
few_generated t [] = omega arith
few_generated t (p ∷ expanded) =
    omega (arith, length-append (children t p) (flat_map (children t) expanded), few_children t p, few_generated t expanded)

pub posted_small : (t : Task) (expanded : List (List ℕ)) → length expanded < ROOT_PARENT → length (generated t expanded) < 2 ^ 61
posted_small t expanded short = omega (arith, few_generated t expanded, short)

-- ---- if there is room

full : (room : Bool) (why : Option Refusal) → room ≡ false → cond (not room) (Some Full) why ≡ Some Full
full false why e = refl
full true why e = absurd (true≢false e)

goes_on : (room : Bool) (why : Option Refusal) → room ≡ true → cond (not room) (Some Full) why ≡ why
goes_on true why e = refl
goes_on false why e = absurd (true≢false (sym e))

pub refused_full : (b : EntriesView) (outcomes : List Outcome) → has_room b outcomes ≡ false → refusal_to b outcomes ≡ Some Full
refused_full b outcomes e = full (has_room b outcomes) (first_refusal b.state [] outcomes) e

pub refused_by_first : (b : EntriesView) (outcomes : List Outcome) → has_room b outcomes ≡ true → refusal_to b outcomes ≡ first_refusal b.state [] outcomes
refused_by_first b outcomes e = goes_on (has_room b outcomes) (first_refusal b.state [] outcomes) e

-- ---- the same parts, by other names

-- what a table keeps, another with the same successors and marks keeps
same_table :
    (t : Task) (entries : List ExpandedPlan) (best : Option Best) (departure : Option Departure) (table other : KidsView) (most : ℕ)
    → other.kids ≡ table.kids → other.marks ≡ table.marks → other.entries ≡ table.entries
    → IsHeldBy t entries best departure table most → IsHeldBy t entries best departure other most
same_table t entries best departure table other most ks ms n h = record {
  kept = subst (λ (xs : List Bool). IsBookKept (state_by t entries xs)) (sym ms) h.kept;
  plans = h.plans;
  posts = record { posted = ks ∙ h.posts.posted; entered = n ∙ h.posts.entered };
  within = h.within;
  numbered = h.numbered;
}

pub same_held :
    {t t' : Task} {entries entries' : List ExpandedPlan} {best best' : Option Best} {departure departure' : Option Departure} {table table' : KidsView} {most most' : ℕ}
    → t ≡ t' → entries ≡ entries' → best ≡ best' → departure ≡ departure' → table ≡ table' → most ≡ most'
    → IsHeldBy t entries best departure table most → IsHeldBy t' entries' best' departure' table' most'
same_held e1 e2 e3 e4 e5 e6 h = subst (λ x. x) (λ i. IsHeldBy (e1 i) (e2 i) (e3 i) (e4 i) (e5 i) (e6 i)) h

-- parts whose marks are as they were
pub held_again : (c d : EntriesContent) → SameButMarks c d → d.kids.marks ≡ c.kids.marks → IsHeld c → IsHeld d
held_again c d s ms h =
    same_held (sym s.task) (sym s.entries) (sym s.best) (sym s.departure) refl (sym s.most)
    (same_table c.expanded.task.now c.expanded.entries.items c.expanded.best c.expanded.departure c.kids d.kids c.most s.posted ms s.entered h)

pub view_again : (c d : EntriesContent) → SameButMarks c d → d.kids.marks ≡ c.kids.marks → view_of d ≡ view_of c
view_again c d s ms = λ i. record {
  state = record { task = s.task i; entries = map successor_at_entry (s.entries i); marks = ms i };
  most = s.most i;
}
