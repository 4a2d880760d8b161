-- Entries that are made again: the next entry marks its own successor, and its successors are open.
use Rattle.std.proofs.Common.{◌≡◌, ◌≢◌, ℕ, ◌+◌, ◌<◌, ◌≤◌, ◌==◌, Bool, true, false, cond, not, ◌&&◌, ◌||◌, Option, Some, None, List, [], ◌∷◌, ◌++◌, map, set, replicate, fold, take, drop, length, get_or, inl, inr, refl, sym, ap, ap₂, ◌∙◌, subst, arith, length-append, length-set, append-nil, get_or-set_other, get_or-set_same}
use Rattle.std.specs.Prelude.{option_and_then, option_map, unwrap_or}
use Rattle.std.specs.Option.{option_or}
use Rattle.std.proofs.lemmas.Bool.{cases_eq, ne_eqb, ltb-true}
use Rattle.std.proofs.lemmas.Option.{none-some}
use Rattle.std.proofs.lemmas.List.{get_or-map, length-map, map-append, ext_get_or, take_more, drop_more, length-take}
use Rattle.std.proofs.lemmas.List.Folds.{list_any-append}
use Rattle.hd_base.proofs.Tests.{nat_lt-position_or_len}
use Rattle.hd_base.proofs.Truth.{or-false}
use Rattle.hd_task.specs.declared.task.Task.{Task}
use Rattle.hd_task.specs.declared.plan.Kid.{Kid}
use Rattle.hd_task.specs.declared.plan.TheConstants.{ROOT_PARENT}
use Rattle.hd_task.specs.Plans.{exec}
use Rattle.hd_task.specs.Expansions.{applicable_at, followed_by, generated}
use Rattle.hd_task.specs.Entries.{plan_of, plans_of, with_entry}
use Rattle.hd_hmax.specs.Rounds.{hmax}
use Rattle.hd_tables.specs.Kids.{root, same_kid, kid_from}
use Rattle.hd_entries.specs.declared.refusal.Refusal.{Refusal}
use Rattle.hd_entries.specs.declared.refusal.Refusal.TheVariants.{UnknownParent, NotAKid, SettledBefore}
use Rattle.hd_entries.specs.Kids.{kids_of, posted_by}
use Rattle.hd_entries.specs.Marks.{IsMarked}
use Rattle.hd_entries.specs.Settling.{BookState, IsBookKept, knows_parent, place_of, is_posted, is_marked}
use Rattle.hd_entries.specs.Holding.{plans_at}
use Rattle.hd_entries.specs.Resuming.{has, fault_at, first_fault, resumed_state}
use Rattle.hd_entries.proofs.Accepting.{same_kid-refl, stands, IsAt, first_kept}
use Rattle.hd_entries.proofs.Judging.{other_there}
use Rattle.hd_entries.proofs.Marking.{expanded_marks}
use Rattle.hd_entries.proofs.Naming.{plans_of-push, posted_by-append, length-plans_of}
use Rattle.hd_entries.proofs.Walking.{parent_names}

-- ---- truth values

or_last : (a c : Bool) → c ≡ true → (a || (c || false)) ≡ true
or_last true c e = refl
or_last false c e = or-false c ∙ e

or_nothing : (a c : Bool) → c ≡ false → (a || (c || false)) ≡ a
or_nothing true c e = refl
or_nothing false c e = or-false c ∙ e

-- ---- an entry's successors are not among the entries up to it

other_parent : (k q : Kid) → (q.parent ≡ k.parent → ⊥) → same_kid k q ≡ false
other_parent k q ne = ap (λ b. b && (k.action == q.action)) (ne_eqb k.parent q.parent (λ e. ne (sym e)))

pub none_later :
    (ks : List Kid) (before all : List (List ℕ)) (n a : ℕ) → fold with_entry (Some before) ks ≡ Some all → length before + length ks ≤ n + 1 → n < ROOT_PARENT
    → has ks (kid_from n a) ≡ false
none_later [] before all n a e le short = refl
none_later (k ∷ ks) before all n a e le short =
    elim (plan_of before k) as (λ o. plan_of before k ≡ o → fold with_entry (option_and_then (λ p. Some (before ++ p ∷ [])) o) ks ≡ Some all → has (k ∷ ks) (kid_from n a) ≡ false) [
      | None ↦ λ is e. absurd (none-some all (sym (nothing ks) ∙ e))
      | Some p ↦ λ is e.
          let here : same_kid (kid_from n a) k ≡ false =
          other_parent (kid_from n a) k (λ same.
          let within = (parent_names before k p (λ root. omega arith) is).within in
          omega (arith, within, same, le))
          in
          ap₂ (λ x y. x || y) here (none_later ks (before ++ p ∷ []) all n a e (omega (arith, length-append before (p ∷ []))) short)
    ] refl e
  where
    nothing : (ks : List Kid) → fold with_entry None ks ≡ None
    nothing [] = refl
    nothing (k ∷ ks) = nothing ks

-- ---- a search made again, and a successor

module _ (t : Task) (before : List Kid) (kept : IsBookKept (resumed_state t before)) (k : Kid) where
  abbrev b : BookState
  b = resumed_state t before

  abbrev E : List (List ℕ)
  E = plans_at before

  abbrev P : List Kid
  P = posted_by t E

  -- the mark of a posted successor
  pub mark_is : is_posted b k ≡ true → is_marked b k ≡ has before k
  mark_is posted =
      let at = stands b kept k posted in
      get_or-map (has before) P (place_of b k) root true (ltb-true (place_of b k) (length P) posted) ∙ ap (has before) at.kid

  pub posted_is : has P k ≡ is_posted b k
  posted_is = sym (nat_lt-position_or_len (same_kid k) P)

  -- the fault of a successor, by the tests of a book
  pub fault_is : fault_at t before k ≡ cond (not (knows_parent b k)) (Some UnknownParent) (cond (not (is_posted b k)) (Some NotAKid) (cond (is_marked b k) (Some SettledBefore) None))
  fault_is =
      let known = knows_parent b k in
      elim (is_posted b k) as (λ c. is_posted b k ≡ c → cond (not known) (Some UnknownParent) (cond (not (has P k)) (Some NotAKid) (cond (has before k) (Some SettledBefore) None)) ≡ cond (not known) (Some UnknownParent) (cond (not c) (Some NotAKid) (cond (is_marked b k) (Some SettledBefore) None))) [
        | true ↦ λ e.
            ap₂ (λ (x y : Bool). cond (not known) (Some UnknownParent) (cond (not x) (Some NotAKid) (cond y (Some SettledBefore) None))) (posted_is ∙ e) (sym (mark_is e))
        | false ↦ λ e.
            ap (λ (x : Bool). cond (not known) (Some UnknownParent) (cond (not x) (Some NotAKid) (cond (has before k) (Some SettledBefore) None))) (posted_is ∙ e)
      ] refl

  -- ---- the successor is the next entry

  module _ (posted : is_posted b k ≡ true) (free : is_marked b k ≡ false) (room : length before + 1 < ROOT_PARENT) where
    abbrev place : ℕ
    place = place_of b k

    at : IsAt b k
    at = stands b kept k posted

    -- the plan of the successor
    abbrev p : List ℕ
    p = get_or (generated t E) (place_of b k) []

    abbrev actions : List ℕ
    actions = applicable_at t (exec t p)

    abbrev after : List Kid
    after = before ++ k ∷ []

    pub names : plans_of after ≡ Some (E ++ p ∷ [])
    names = plans_of-push before k E p kept.named at.plan

    pub plans : plans_at after ≡ E ++ p ∷ []
    plans = ap (λ x. unwrap_or x []) names

    pub count : length E ≡ length before
    count = length-plans_of before E kept.named

    -- its successors come after the others
    pub posted_now : posted_by t (plans_at after) ≡ P ++ kids_of (length before) actions
    posted_now =
        ap (posted_by t) plans
        ∙ (posted_by-append t E (p ∷ [])
        ∙ (ap (λ ks. P ++ ks) (append-nil (kids_of (length E) actions)) ∙ ap (λ n. P ++ kids_of n actions) count))

    -- and are no entries
    pub new_open : (a : ℕ) → has after (kid_from (length before) a) ≡ false
    new_open a = none_later after [] (E ++ p ∷ []) (length before) a names (omega (arith, length-append before (k ∷ []))) (omega arith)

    pub has_other : (q : Kid) → same_kid q k ≡ false → has after q ≡ has before q
    has_other q e = list_any-append (same_kid q) before (k ∷ []) ∙ or_nothing (has before q) (same_kid q k) e

    pub has_itself : has after k ≡ true
    has_itself = list_any-append (same_kid k) before (k ∷ []) ∙ or_last (has before k) (same_kid k k) (same_kid-refl k)

    pub within : place_of b k < length P
    within = ltb-true (place_of b k) (length P) posted

    within_marks : place_of b k < length (map (has before) P)
    within_marks = omega (arith, within, length-map P (has before))

    -- the successor at another place is another one
    pub other_kid : (j : ℕ) → j < length P → j ≢ place_of b k → same_kid (get_or P j root) k ≡ false
    other_kid j lt ne = other_there t before (map (has before) P) kept k posted j (omega (arith, lt, length-map P (has before))) ne

    old_mark : (j : ℕ) → j < length P → get_or (set (map (has before) P) place true) j true ≡ has after (get_or P j root)
    old_mark j lt =
        elim (cases_eq j place) [
          | inl e ↦
              ap (λ (n : ℕ). get_or (set (map (has before) P) place true) n true) e
              ∙ (get_or-set_same (map (has before) P) place true true within_marks
              ∙ (sym has_itself ∙ ap (has after) (sym (ap (λ (n : ℕ). get_or P n root) e ∙ at.kid))))
          | inr ne ↦
              get_or-set_other (map (has before) P) place j true true ne
              ∙ (get_or-map (has before) P j root true lt ∙ sym (has_other (get_or P j root) (other_kid j lt ne)))
        ]

    old_marks : set (map (has before) P) place true ≡ map (has after) P
    old_marks =
        ext_get_or true (set (map (has before) P) place true) (map (has after) P)
        (omega (arith, length-set (map (has before) P) place true, length-map P (has before), length-map P (has after)))
        (λ j lt.
        let lt' : j < length P = omega (arith, lt, length-set (map (has before) P) place true, length-map P (has before)) in
        old_mark j lt' ∙ sym (get_or-map (has after) P j root true lt'))

    new_marks : (ns : List ℕ) → map (has after) (kids_of (length before) ns) ≡ replicate (length ns) false
    new_marks [] = refl
    new_marks (a ∷ ns) = ap₂ (λ (x : Bool) (xs : List Bool). x ∷ xs) (new_open a) (new_marks ns)

    -- the marks are again those of the entries
    pub marks_now : set (map (has before) P) place true ++ replicate (length actions) false ≡ map (has after) (posted_by t (plans_at after))
    marks_now =
        ap₂ (λ (xs ys : List Bool). xs ++ ys) old_marks (sym (new_marks actions))
        ∙ (sym (map-append (has after) P (kids_of (length before) actions)) ∙ ap (map (has after)) (sym posted_now))

    pub kept_now : IsBookKept (resumed_state t after)
    kept_now = record {
      named = names ∙ ap Some (sym plans);
      marked =
          subst (IsMarked t (hmax t) (plans_at after)) marks_now
          (subst (λ xs. IsMarked t (hmax t) xs (set (map (has before) P) place true ++ replicate (length actions) false)) (sym plans)
          (subst (λ n. IsMarked t (hmax t) (E ++ p ∷ []) (set (map (has before) P) place true ++ replicate n false)) (length-map actions (followed_by p))
          (expanded_marks t (hmax t) E (map (has before) P) place kept.marked within_marks free)));
      short = omega (arith, length-append before (k ∷ []));
    }

-- ---- faults, entry by entry

-- an entry that has no fault
pub faults_on : (t : Task) (entries : List Kid) (n : ℕ) (k : Kid) → n < length entries → k ≡ get_or entries n k → fault_at t (take n entries) k ≡ None
    → first_fault t (take n entries) (drop n entries) ≡ first_fault t (take (n + 1) entries) (drop (n + 1) entries)
faults_on t entries n k lt is free =
    let rest = drop (n + 1) entries in
    let front = take n entries in
    ap (first_fault t front) (drop_more entries n k lt ∙ ap (λ (x : Kid). x ∷ rest) (sym is))
    ∙ (ap (λ (r : Option Refusal). option_or (option_map (λ (r : Refusal). (length front, r)) r) (first_fault t (front ++ k ∷ []) rest)) free
    ∙ ap (λ (xs : List Kid). first_fault t xs rest) (sym (take_more entries n k lt ∙ ap (λ (x : Kid). front ++ x ∷ []) (sym is))))

-- and one that has
pub fault_here : (t : Task) (entries : List Kid) (n : ℕ) (k : Kid) (r : Refusal) → n < length entries → k ≡ get_or entries n k → fault_at t (take n entries) k ≡ Some r
    → first_fault t (take n entries) (drop n entries) ≡ Some (n, r)
fault_here t entries n k r lt is fault =
    let rest = drop (n + 1) entries in
    let front = take n entries in
    let number : length front ≡ n = omega (arith, length-take n entries) in
    ap (first_fault t front) (drop_more entries n k lt ∙ ap (λ (x : Kid). x ∷ rest) (sym is))
    ∙ (ap (λ (o : Option Refusal). option_or (option_map (λ (r : Refusal). (length front, r)) o) (first_fault t (front ++ k ∷ []) rest)) fault
    ∙ ap (λ (m : ℕ). Some (m, r)) number)

-- before anything is an entry again
pub nothing_kept : (t : Task) → IsBookKept (resumed_state t [])
nothing_kept t = first_kept t
