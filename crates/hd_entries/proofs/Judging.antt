-- Outcomes that are judged one after the other, each with the successors of those before it marked,
-- are refused as the definition says.
use Rattle.std.proofs.Common.{◌≡◌, ◌≢◌, ℕ, ◌+◌, ◌<◌, ◌||◌, nat_lt, Bool, true, false, cond, not, Option, Some, None, List, [], ◌∷◌, ◌++◌, set, take, drop, length, get_or, inl, inr, refl, sym, ap, ◌∙◌, subst, arith, length-set, get_or-set_same, get_or-set_other, true≢false}
use Rattle.std.specs.List.{position, position_or_len, AllByRecursion}
use Rattle.std.specs.Option.{option_or}
use Rattle.std.proofs.lemmas.Bool.{cases_eq, or_right, ltb-true}
use Rattle.std.proofs.lemmas.Option.{none-some, same_Some}
use Rattle.std.proofs.lemmas.List.{set-set, set-get_or, take_more, drop_more, drop_all}
use Rattle.std.proofs.lemmas.List.Folds.{list_any-append}
use Rattle.hd_base.proofs.Truth.{or-false}
use Rattle.hd_task.specs.declared.task.Task.{Task}
use Rattle.hd_task.specs.declared.plan.Kid.{Kid}
use Rattle.hd_tables.specs.Kids.{KidsView, root, same_kid, with_mark_at}
use Rattle.hd_node.specs.declared.batch.Outcome.{Outcome}
use Rattle.hd_node.specs.Outcome.{kid_of}
use Rattle.hd_entries.specs.declared.refusal.Refusal.{Refusal}
use Rattle.hd_entries.specs.declared.refusal.Refusal.TheVariants.{UnknownParent, NotAKid, SettledBefore}
use Rattle.hd_entries.specs.Kids.{posted_by}
use Rattle.hd_entries.specs.Settling.{BookState, expansions, IsBookKept, knows_parent, place_of, is_posted, is_marked, refusal_by, is_settled_by, refusal_of, first_refusal}
use Rattle.hd_entries.specs.Admitting.{refusal_at, IsRight, marked, first_wrong, marks_after, with_marks}
use Rattle.hd_entries.proofs.Accepting.{same_kid-true, same_kid-refl, accepted, stands, posted_apart, or_yes, or_no}

-- ---- places

pub found_at : {X : Type 0} (p : X → Bool) (xs : List X) (i : ℕ) → position p xs ≡ Some i → (nat_lt (position_or_len p xs) (length xs) ≡ true) × (i ≡ position_or_len p xs)
found_at p xs i e =
    elim (nat_lt (position_or_len p xs) (length xs)) as (λ b. cond b (Some (position_or_len p xs)) None ≡ Some i → (b ≡ true) × (i ≡ position_or_len p xs)) [
      | true ↦ λ e. (refl, sym (same_Some (position_or_len p xs) i e))
      | false ↦ λ e. absurd (none-some i e)
    ] e

pub found_nowhere : {X : Type 0} (p : X → Bool) (xs : List X) → position p xs ≡ None → nat_lt (position_or_len p xs) (length xs) ≡ false
found_nowhere p xs e =
    elim (nat_lt (position_or_len p xs) (length xs)) as (λ b. cond b (Some (position_or_len p xs)) None ≡ None → b ≡ false) [
      | true ↦ λ e. absurd (none-some (position_or_len p xs) (sym e))
      | false ↦ λ e. refl
    ] e

-- ---- the order of refusals

pub unknown : (known posted settled : Bool) (why : Option Refusal) → known ≡ false → cond (not known) (Some UnknownParent) (cond (not posted) (Some NotAKid) (cond settled (Some SettledBefore) why)) ≡ Some UnknownParent
unknown false posted settled why e = refl
unknown true posted settled why e = absurd (true≢false e)

pub not_posted : (known posted settled : Bool) (why : Option Refusal) → known ≡ true → posted ≡ false → cond (not known) (Some UnknownParent) (cond (not posted) (Some NotAKid) (cond settled (Some SettledBefore) why)) ≡ Some NotAKid
not_posted true false settled why k p = refl
not_posted true true settled why k p = absurd (true≢false p)
not_posted false posted settled why k p = absurd (true≢false (sym k))

-- ---- truth values

first_marked : (m a s r : Bool) → m ≡ true → s ≡ true → (m || r) ≡ (a || (s || r))
first_marked true true s r e f = refl
first_marked true false true r e f = refl
first_marked true false false r e f = absurd (true≢false (sym f))
first_marked false a s r e f = absurd (true≢false (sym e))

later_marked : (m a s r : Bool) → m ≡ a → s ≡ false → (m || r) ≡ (a || (s || r))
later_marked m a false r e f = ap (λ (b : Bool). b || r) e
later_marked m a true r e f = absurd (true≢false f)

-- ---- a kept book, and the same book with further marks

module _ (t : Task) (entries : List Kid) (marks0 : List Bool) (kept : IsBookKept (record { task = t; entries = entries; marks = marks0 })) where
  abbrev before : BookState
  before = record { task = t; entries = entries; marks = marks0 }

  abbrev holding : List Bool → BookState
  holding marks = record { task = t; entries = entries; marks = marks }

  abbrev P : List Kid
  P = posted_by t (expansions before)

  -- the successor at another place is another one
  pub other_there : (k : Kid) → is_posted before k ≡ true → (j : ℕ) → j < length marks0 → j ≢ place_of before k → same_kid (get_or P j root) k ≡ false
  other_there k posted j lt ne =
      let at = stands before kept k posted in
      elim (same_kid (get_or P j root) k) as (λ b. same_kid (get_or P j root) k ≡ b → b ≡ false) [
        | true ↦ λ e. absurd (posted_apart t entries marks0 kept j (place_of before k) (omega (arith, kept.marked.one_each)) at.within
            (same_kid-true (get_or P j root) k e ∙ sym at.kid) ne)
        | false ↦ λ e. refl
      ] refl

  within_marks : (k : Kid) → is_posted before k ≡ true → (marks : List Bool) → length marks ≡ length marks0 → place_of before k < length marks
  within_marks k posted marks long =
      let at = stands before kept k posted in
      let lt = at.within in
      let each = kept.marked.one_each in
      omega (arith, lt, each, long)

  pub length-marks_after : (outcomes : List Outcome) (marks : List Bool) → length (marks_after (holding marks) outcomes) ≡ length marks
  length-marks_after [] marks = refl
  length-marks_after (o ∷ outcomes) marks =
      length-marks_after outcomes (set marks (place_of before (kid_of o)) true) ∙ length-set marks (place_of before (kid_of o)) true

  -- the marks after outcomes whose successors are posted
  pub marked_at :
      (outcomes : List Outcome) (marks : List Bool) → length marks ≡ length marks0 → AllByRecursion (λ o. is_posted before (kid_of o) ≡ true) outcomes → (j : ℕ) → j < length marks0
      → get_or (marks_after (holding marks) outcomes) j true ≡ (get_or marks j true || is_settled_by outcomes (get_or P j root))
  marked_at [] marks long posted j lt = sym (or-false (get_or marks j true))
  marked_at (o ∷ outcomes) marks long posted j lt =
      let k = kid_of o in
      let p = place_of before k in
      let q = get_or P j root in
      let rest = is_settled_by outcomes q in
      marked_at outcomes (set marks p true) (length-set marks p true ∙ long) posted.1 j lt
      ∙ (elim (cases_eq j p) [
        | inl e ↦
            let same : q ≡ k = ap (λ (n : ℕ). get_or P n root) e ∙ (stands before kept k posted.0).kid in
            first_marked (get_or (set marks p true) j true) (get_or marks j true) (same_kid q k) rest
            (ap (λ (n : ℕ). get_or (set marks p true) n true) e ∙ get_or-set_same marks p true true (within_marks k posted.0 marks long))
            (subst (λ (x : Kid). same_kid x k ≡ true) (sym same) (same_kid-refl k))
        | inr ne ↦
            later_marked (get_or (set marks p true) j true) (get_or marks j true) (same_kid q k) rest
            (get_or-set_other marks p j true true ne)
            (other_there k posted.0 j lt ne)
      ])

  -- the marks are those of the book and of the successors of outcomes
  record AreMarked (earlier : List Outcome) (marks : List Bool) : Type 0 where
    long : length marks ≡ length marks0
    each : (j : ℕ) → j < length marks0 → get_or marks j true ≡ (get_or marks0 j true || is_settled_by earlier (get_or P j root))

  one_more : (earlier : List Outcome) (marks : List Bool) (o : Outcome) → AreMarked earlier marks → is_posted before (kid_of o) ≡ true
      → AreMarked (earlier ++ o ∷ []) (set marks (place_of before (kid_of o)) true)
  one_more earlier marks o m posted = record {
    long = length-set marks (place_of before (kid_of o)) true ∙ m.long;
    each = λ j lt.
        let k = kid_of o in
        let p = place_of before k in
        let q = get_or P j root in
        let all = list_any-append (λ (o : Outcome). same_kid q (kid_of o)) earlier (o ∷ []) in
        elim (cases_eq j p) [
          | inl e ↦
              let same : q ≡ k = ap (λ (n : ℕ). get_or P n root) e ∙ (stands before kept k posted).kid in
              ap (λ (n : ℕ). get_or (set marks p true) n true) e
              ∙ (get_or-set_same marks p true true (within_marks k posted marks m.long)
              ∙ (or_yes (get_or marks0 j true) (is_settled_by earlier q) (same_kid q k) (subst (λ (x : Kid). same_kid x k ≡ true) (sym same) (same_kid-refl k))
              ∙ ap (λ (b : Bool). get_or marks0 j true || b) (sym all)))
          | inr ne ↦
              get_or-set_other marks p j true true ne
              ∙ (m.each j lt
              ∙ (or_no (get_or marks0 j true) (is_settled_by earlier q) (same_kid q k) (other_there k posted j lt ne)
              ∙ ap (λ (b : Bool). get_or marks0 j true || b) (sym all)))
        ];
  }

  -- an outcome is refused the same way
  same_refusal : (earlier : List Outcome) (marks : List Bool) (o : Outcome) → AreMarked earlier marks → refusal_at (holding marks) earlier o ≡ refusal_of before earlier o
  same_refusal earlier marks o m =
      let k = kid_of o in
      let p = place_of before k in
      let known = knows_parent before k in
      let why = refusal_by before earlier o in
      let now = is_marked (holding marks) k in
      let then = is_marked before k || is_settled_by earlier k in
      elim (is_posted before k) as (λ b. is_posted before k ≡ b
      → cond (not known) (Some UnknownParent) (cond (not b) (Some NotAKid) (cond now (Some SettledBefore) why))
      ≡ cond (not known) (Some UnknownParent) (cond (not b) (Some NotAKid) (cond then (Some SettledBefore) why))) [
        | true ↦ λ posted.
            let at = stands before kept k posted in
            let lt : p < length marks0 = within_marks k posted marks0 refl in
            let same : now ≡ then = m.each p lt ∙ ap (λ (q : Kid). get_or marks0 p true || is_settled_by earlier q) at.kid in
            ap (λ (b : Bool). cond (not known) (Some UnknownParent) (cond b (Some SettledBefore) why)) same
        | false ↦ λ _. refl
      ] refl

  firsts_agree : (earlier later : List Outcome) (marks : List Bool) → AreMarked earlier marks → first_wrong (holding marks) earlier later ≡ first_refusal before earlier later
  firsts_agree earlier [] marks m = refl
  firsts_agree earlier (o ∷ later) marks m =
      let k = kid_of o in
      let rest = first_wrong (holding (set marks (place_of before k) true)) (earlier ++ o ∷ []) later in
      ap (λ (r : Option Refusal). option_or r rest) (same_refusal earlier marks o m)
      ∙ (elim (refusal_of before earlier o) as (λ r. refusal_of before earlier o ≡ r → option_or r rest ≡ option_or r (first_refusal before (earlier ++ o ∷ []) later)) [
        | Some r ↦ λ _. refl
        | None ↦ λ free.
            let a = accepted (knows_parent before k) (is_posted before k) (is_marked before k || is_settled_by earlier k) (refusal_by before earlier o) free in
            firsts_agree (earlier ++ o ∷ []) later (set marks (place_of before k) true) (one_more earlier marks o m a.is_posted)
      ] refl)

  pub first_same : (outcomes : List Outcome) → first_wrong before [] outcomes ≡ first_refusal before [] outcomes
  first_same outcomes = firsts_agree [] outcomes marks0 (record { long = refl; each = λ j lt. sym (or-false (get_or marks0 j true)) })

-- what holds of each successor that outcomes settle
pub all_known : (Q : Kid → Type 0) (outcomes : List Outcome) → ((q : Kid) → is_settled_by outcomes q ≡ true → Q q) → AllByRecursion (λ o. Q (kid_of o)) outcomes
all_known Q [] h = tt
all_known Q (o ∷ outcomes) h = (
  h (kid_of o) (ap (λ (b : Bool). b || is_settled_by outcomes (kid_of o)) (same_kid-refl (kid_of o))),
  all_known Q outcomes (λ q e. h q (or_right (same_kid q (kid_of o)) (is_settled_by outcomes q) e)),
)

-- ---- an outcome that is right

-- its successor stands at its place, and is not settled
pub open_place : (b : BookState) (earlier : List Outcome) (o : Outcome) (place : ℕ) → IsRight b earlier o place
    → (place < length (posted_by b.task (expansions b))) × (get_or b.marks place true ≡ false)
open_place b earlier o place right =
    let k = kid_of o in
    let a = accepted (knows_parent b k) (is_posted b k) (is_marked b k) (refusal_by b earlier o) right.nothing in (
      subst (λ (p : ℕ). p < length (posted_by b.task (expansions b))) (sym right.stands) (ltb-true (place_of b k) (length (posted_by b.task (expansions b))) a.is_posted),
      ap (λ (p : ℕ). get_or b.marks p true) right.stands ∙ a.is_open,
    )

-- the outcomes from a number on, where that one is right
pub right_on : (b : BookState) (outcomes : List Outcome) (n : ℕ) (o : Outcome) → n < length outcomes → o ≡ get_or outcomes n o → refusal_at b (take n outcomes) o ≡ None
    → first_wrong b (take n outcomes) (drop n outcomes) ≡ first_wrong (marked b o) (take (n + 1) outcomes) (drop (n + 1) outcomes)
right_on b outcomes n o lt is right =
    let rest = drop (n + 1) outcomes in
    ap (first_wrong b (take n outcomes)) (drop_more outcomes n o lt ∙ ap (λ (x : Outcome). x ∷ rest) (sym is))
    ∙ (ap (λ (r : Option Refusal). option_or r (first_wrong (marked b o) (take n outcomes ++ o ∷ []) rest)) right
    ∙ ap (λ (xs : List Outcome). first_wrong (marked b o) xs rest) (sym (take_more outcomes n o lt ∙ ap (λ (x : Outcome). take n outcomes ++ x ∷ []) (sym is))))

-- and where it is refused
pub wrong_here : (b : BookState) (outcomes : List Outcome) (n : ℕ) (o : Outcome) (r : Refusal) → n < length outcomes → o ≡ get_or outcomes n o → refusal_at b (take n outcomes) o ≡ Some r
    → first_wrong b (take n outcomes) (drop n outcomes) ≡ Some r
wrong_here b outcomes n o r lt is wrong =
    let rest = drop (n + 1) outcomes in
    ap (first_wrong b (take n outcomes)) (drop_more outcomes n o lt ∙ ap (λ (x : Outcome). x ∷ rest) (sym is))
    ∙ ap (λ (w : Option Refusal). option_or w (first_wrong (marked b o) (take n outcomes ++ o ∷ []) rest)) wrong

pub marks_on : (b : BookState) (outcomes : List Outcome) (n : ℕ) (o : Outcome) → n < length outcomes → o ≡ get_or outcomes n o
    → marks_after b (drop n outcomes) ≡ marks_after (marked b o) (drop (n + 1) outcomes)
marks_on b outcomes n o lt is = ap (marks_after b) (drop_more outcomes n o lt ∙ ap (λ (x : Outcome). x ∷ drop (n + 1) outcomes) (sym is))

-- none are left
pub none_left : (b : BookState) (outcomes : List Outcome) (n : ℕ) → n ≡ length outcomes → first_wrong b (take n outcomes) (drop n outcomes) ≡ None
none_left b outcomes n e = ap (first_wrong b (take n outcomes)) (drop_all n outcomes (omega (arith, e)))

pub no_marks : (b : BookState) (outcomes : List Outcome) (n : ℕ) → n ≡ length outcomes → marks_after b (drop n outcomes) ≡ b.marks
no_marks b outcomes n e = ap (marks_after b) (drop_all n outcomes (omega (arith, e)))

-- a mark that is set and taken back
pub mark_back : (table : KidsView) (place : ℕ) → get_or table.marks place true ≡ false → with_mark_at (with_mark_at table place true) place false ≡ table
mark_back table place unset =
    ap (λ (ms : List Bool). with_marks table ms)
    (set-set table.marks place true false
    ∙ (ap (set table.marks place) (sym unset) ∙ set-get_or table.marks place true))
