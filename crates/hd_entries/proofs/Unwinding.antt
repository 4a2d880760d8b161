-- The marks of outcomes that are judged one after the other, and taken back.
use Rattle.std.proofs.Common.{◌≡◌, ℕ, zero, suc, ◌+◌, ◌-◌, ◌<◌, Bool, true, false, List, take, drop, get_or, sym, ap, ◌∙◌, subst, arith}
use Rattle.hd_task.specs.declared.task.Task.{Task}
use Rattle.hd_tables.specs.Kids.{KidsView, with_mark_at}
use Rattle.hd_node.specs.declared.batch.Outcome.{Outcome}
use Rattle.hd_node.specs.Outcome.{kid_of}
use Rattle.hd_entries.specs.declared.entry.ExpandedPlan.{ExpandedPlan}
use Rattle.hd_entries.specs.declared.expanded.ExpandedPlans.{ExpandedPlans}
use Rattle.hd_entries.specs.Settling.{BookState, knows_parent, place_of, is_posted, is_marked, refusal_by}
use Rattle.hd_entries.specs.Holding.{state_with, HasKids}
use Rattle.hd_entries.specs.Admitting.{first_wrong, marks_after, with_marks}
use Rattle.hd_entries.specs.Undoing.{MarksNext, MarksAll}
use Rattle.hd_entries.proofs.Accepting.{IsAccepted, accepted}
use Rattle.hd_entries.proofs.Judging.{right_on, marks_on}

-- the table with a mark has the same successors
pub posts_stay : (t : Task) (entries : List ExpandedPlan) (table : KidsView) (place : ℕ) (mark : Bool) (after : KidsView) → after ≡ with_mark_at table place mark → HasKids t entries table → HasKids t entries after
posts_stay t entries table place mark after is posts = record {
  posted = ap (λ (k : KidsView). k.kids) is ∙ posts.posted;
  entered = ap (λ (k : KidsView). k.entries) is ∙ posts.entered;
}

pub posts_before : (t : Task) (entries : List ExpandedPlan) (before : KidsView) (place : ℕ) (mark : Bool) (after : KidsView) → after ≡ with_mark_at before place mark → HasKids t entries after → HasKids t entries before
posts_before t entries before place mark after is posts = record {
  posted = sym (ap (λ (k : KidsView). k.kids) is) ∙ posts.posted;
  entered = sym (ap (λ (k : KidsView). k.entries) is) ∙ posts.entered;
}

module _ (x : ExpandedPlans) (before after : KidsView) (outcomes : List Outcome) (n : ℕ) (m : MarksNext x before after outcomes n) where
  abbrev b : BookState
  b = state_with x before.marks

  abbrev place : ℕ
  place = place_of b (kid_of m.outcome)

  -- its successor is posted, and had no mark
  pub was_open : IsAccepted (knows_parent b (kid_of m.outcome)) (is_posted b (kid_of m.outcome)) (is_marked b (kid_of m.outcome)) (refusal_by b (take n outcomes) m.outcome)
  was_open = accepted (knows_parent b (kid_of m.outcome)) (is_posted b (kid_of m.outcome)) (is_marked b (kid_of m.outcome)) (refusal_by b (take n outcomes) m.outcome) m.right

  pub unset : get_or before.marks place true ≡ false
  unset = was_open.is_open

  -- the outcomes that are left are judged as before
  pub next_first : first_wrong b (take n outcomes) (drop n outcomes) ≡ first_wrong (state_with x after.marks) (take (n + 1) outcomes) (drop (n + 1) outcomes)
  next_first =
      right_on b outcomes n m.outcome m.within m.there m.right
      ∙ ap (λ (ms : List Bool). first_wrong (state_with x ms) (take (n + 1) outcomes) (drop (n + 1) outcomes)) (sym (ap (λ (k : KidsView). k.marks) m.more))

  pub next_marks : marks_after b (drop n outcomes) ≡ marks_after (state_with x after.marks) (drop (n + 1) outcomes)
  next_marks =
      marks_on b outcomes n m.outcome m.within m.there
      ∙ ap (λ (ms : List Bool). marks_after (state_with x ms) (drop (n + 1) outcomes)) (sym (ap (λ (k : KidsView). k.marks) m.more))

  pub next_same : (first : KidsView) → before ≡ with_marks first before.marks → after ≡ with_marks first after.marks
  next_same first is =
      m.more
      ∙ (ap (λ (k : KidsView). with_mark_at k place true) is
      ∙ ap (with_marks first) (sym (ap (λ (k : KidsView). k.marks) m.more)))

-- one more
pub marks_more :
    (x : ExpandedPlans) (first before after : KidsView) (outcomes : List Outcome) (n : ℕ) → MarksNext x before after outcomes n → MarksAll x first outcomes n before → MarksAll x first outcomes (n + 1) after
marks_more x first before after outcomes n next all =
    let on : suc n ≡ n + 1 = omega arith in
    let whole : MarksAll x first outcomes (suc n) after = (before, next, all) in
    subst (λ (k : ℕ). MarksAll x first outcomes k after) on whole

-- the last one
pub marks_last :
    (x : ExpandedPlans) (first table : KidsView) (outcomes : List Outcome) (left : ℕ) → 0 < left → MarksAll x first outcomes left table
    → (before : KidsView) × MarksNext x before table outcomes (left - 1) × MarksAll x first outcomes (left - 1) before
marks_last x first table outcomes zero some all = absurd (omega (arith, some))
marks_last x first table outcomes (suc n) some all =
    let on : n ≡ suc n - 1 = omega arith in
    subst (λ (k : ℕ). (before : KidsView) × MarksNext x before table outcomes k × MarksAll x first outcomes k before) on all

-- none
pub marks_none : (x : ExpandedPlans) (first table : KidsView) (outcomes : List Outcome) (left : ℕ) → left ≡ 0 → MarksAll x first outcomes left table → table ≡ first
marks_none x first table outcomes left none all = subst (λ (k : ℕ). MarksAll x first outcomes k table) none all
