-- A batch that is not refused keeps the book: outcome by outcome, beside the book before the batch.
use Rattle.std.proofs.Common.{◌≡◌, ◌≢◌, ℕ, zero, suc, ◌+◌, ◌-◌, ◌<◌, ◌≤◌, ◌==◌, nat_le, Bool, true, false, cond, not, ◌||◌, Option, Some, None, List, [], ◌∷◌, ◌++◌, map, set, replicate, length, get_or, slice_get, Contains, ◌⊎◌, inl, inr, refl, sym, ap, ap₂, ◌∙◌, subst, arith, length-append, length-set, append_assoc, append-nil, get_or-set_other, get_or-set_same, true≢false}
use Rattle.std.specs.Prelude.{flat_map, option_and_then, unwrap_or}
use Rattle.std.specs.List.{position_or_len, AllByRecursion, count_by}
use Rattle.std.specs.Option.{option_or}
use Rattle.std.proofs.lemmas.Bool.{cases_lt, cases_eq, and_parts, and_from, or_parts, eqb-true, eq-eqb, ltb-true, lt-ltb, leb-true}
use Rattle.std.proofs.lemmas.Option.{none-some, same_Some, slice_get_within, get_or_from_slice_get}
use Rattle.std.proofs.lemmas.List.{get_or_append_left, get_or-append_right, get_or-replicate, length-replicate, get_or-map, length-map, map-append}
use Rattle.std.proofs.lemmas.List.Sums.{passes_at_first}
use Rattle.std.proofs.lemmas.List.Folds.{list_any-append}
use Rattle.std.proofs.lemmas.List.Elements.{Contains-append_left, Contains-push, Contains-get_or}
use Rattle.hd_base.proofs.Tests.{position_or_len-append_left, count_by-set, count_by-append, count_by-replicate_none}
use Rattle.hd_base.proofs.Lists.{slice_get-push_cases}
use Rattle.hd_base.proofs.Truth.{or-false}
use Rattle.hd_task.specs.declared.state.State.{State}
use Rattle.hd_task.specs.declared.task.Task.{Task}
use Rattle.hd_task.specs.declared.plan.Kid.{Kid}
use Rattle.hd_task.specs.declared.plan.TheConstants.{ROOT_PARENT}
use Rattle.hd_task.specs.Plans.{Node, exec, node}
use Rattle.hd_task.specs.Expansions.{followed_by, applicable_at, children, generated, bound_of}
use Rattle.hd_task.specs.Entries.{plan_of, plans_of}
use Rattle.hd_task.specs.Covers.{IsBounded, Dead, Reaches, IsJustified}
use Rattle.hd_hmax.specs.Rounds.{hmax}
use Rattle.hd_task.proofs.Growing.{bound_grows}
use Rattle.hd_node.specs.Children.{ChildView}
use Rattle.hd_node.specs.Expansion.{ExpansionView}
use Rattle.hd_hmax.specs.Estimate.{EstimateView}
use Rattle.hd_node.specs.declared.batch.By.{By}
use Rattle.hd_node.specs.declared.batch.By.TheVariants.{Entry, Here}
use Rattle.hd_node.specs.declared.batch.Outcome.{Outcome}
use Rattle.hd_node.specs.declared.batch.Outcome.TheVariants.{Expanded, Duplicate, Bounded}
use Rattle.hd_node.specs.Children.{children_at}
use Rattle.hd_hmax.specs.Value.{estimated}
use Rattle.hd_node.specs.Outcome.{kid_of}
use Rattle.hd_node.proofs.Steps.{children-actions}
use Rattle.hd_entries.specs.declared.refusal.Refusal.{Refusal}
use Rattle.hd_entries.specs.declared.refusal.Refusal.TheVariants.{UnknownParent, NotAKid, SettledBefore, StateDiffers, NotDominated, BelowBound}
use Rattle.hd_tables.specs.Kids.{root, same_kid}
use Rattle.hd_entries.specs.Kids.{kids_from, posted_by}
use Rattle.hd_entries.specs.Marks.{IsMarked}
use Rattle.hd_entries.specs.Settling.{BookState, expansions, IsBookKept, knows_parent, place_of, is_posted, is_marked, node_of, same_state, has_state, is_node, dominates, expanded_node, node_by, reaches, refusal_by, is_settled_by, refusal_of, first_refusal, settled, all_settled, entry_of, IsOutcomeOfTask}
use Rattle.hd_entries.specs.Holding.{node_at}
use Rattle.hd_entries.specs.Growing.{entry_gained, entered_by, successor_count}
use Rattle.hd_entries.proofs.Adding.{entered_nothing, no_kids, entered_by-push, kids_in-push}
use Rattle.hd_entries.proofs.Marking.{apart, expanded_marks, settled_marks, none_marked}
use Rattle.hd_entries.proofs.Same.{same_state-true}
use Rattle.hd_entries.proofs.Naming.{plans_of-push, posted_named, posted_by-append, generated-append, posted_count, length-plans_of}

-- ---- tests

pub same_kid-true : (k q : Kid) → same_kid k q ≡ true → k ≡ q
same_kid-true k q e =
    let parts = and_parts (k.parent == q.parent) (k.action == q.action) e in
    ap₂ (λ (p a : ℕ). let kid : Kid = record { parent = p; action = a } in kid) (eqb-true k.parent q.parent parts.0) (eqb-true k.action q.action parts.1)

pub same_kid-refl : (k : Kid) → same_kid k k ≡ true
same_kid-refl k = and_from (k.parent == k.parent) (k.action == k.action) (eq-eqb k.parent k.parent refl) (eq-eqb k.action k.action refl)

-- what a node test says
pub is_node-true : (o : Option Node) (s : State) (cost : ℕ) → is_node o s cost ≡ true → o ≡ Some (node s cost)
is_node-true None s cost e = absurd (true≢false (sym e))
is_node-true (Some r) s cost e =
    let parts = and_parts (same_state r.state s) (r.cost == cost) e in
    ap₂ (λ (x : State) (c : ℕ). Some (node x c)) (same_state-true r.state s parts.0) (eqb-true r.cost cost parts.1)

-- ---- what an outcome that is not refused says

pub record IsAccepted (known posted settled : Bool) (why : Option Refusal) : Type 0 where
  pub is_known : known ≡ true
  pub is_posted : posted ≡ true
  pub is_open : settled ≡ false
  pub nothing : why ≡ None

pub accepted : (known posted settled : Bool) (why : Option Refusal) → cond (not known) (Some UnknownParent) (cond (not posted) (Some NotAKid) (cond settled (Some SettledBefore) why)) ≡ None → IsAccepted known posted settled why
accepted true true false why e = record { is_known = refl; is_posted = refl; is_open = refl; nothing = e }
accepted true true true why e = absurd (cc)
accepted true false settled why e = absurd (cc)
accepted false posted settled why e = absurd (cc)

-- ---- the successors of a kept book

-- a posted successor stands at its place, and names the plan that is generated there
pub record IsAt (b : BookState) (k : Kid) : Type 0 where
  pub within : place_of b k < length (generated b.task (expansions b))
  pub kid : get_or (posted_by b.task (expansions b)) (place_of b k) root ≡ k
  pub plan : plan_of (expansions b) k ≡ Some (get_or (generated b.task (expansions b)) (place_of b k) [])

pub count-entries : (b : BookState) → IsBookKept b → length (expansions b) ≡ length b.entries
count-entries b kept = length-plans_of b.entries (expansions b) kept.named

pub stands : (b : BookState) → IsBookKept b → (k : Kid) → is_posted b k ≡ true → IsAt b k
stands b kept k e =
    let t = b.task in
    let E = expansions b in
    let j = place_of b k in
    let posted = posted_by t E in
    let short : length E < ROOT_PARENT = omega (arith, count-entries b kept, kept.short) in
    let lt : j < length posted = ltb-true j (length posted) e in
    let lt' : j < length (generated t E) = omega (arith, posted_count t E short) in
    let is_k : k ≡ get_or posted j root = same_kid-true k (get_or posted j root) (passes_at_first (same_kid k) posted root lt) in
    record {
      within = lt';
      kid = sym is_k;
      plan =
          ap (plan_of E) is_k
          ∙ (sym (get_or-map (plan_of E) posted j root None lt)
          ∙ (ap (λ (xs : List (Option (List ℕ))). get_or xs j None) (posted_named t E short)
          ∙ get_or-map Some (generated t E) j [] None lt'));
    }

-- ---- outcomes so far, and one more

-- an expansion among the outcomes so far and one more
expanded_cases : (earlier : List Outcome) (o : Outcome) (i : ℕ) (r : Node) → expanded_node (slice_get (earlier ++ o ∷ []) i) ≡ Some r → (expanded_node (slice_get earlier i) ≡ Some r) ⊎ (expanded_node (Some o) ≡ Some r)
expanded_cases earlier o i r e =
    elim (slice_get (earlier ++ o ∷ []) i) as (λ s. slice_get (earlier ++ o ∷ []) i ≡ s → expanded_node s ≡ Some r → (expanded_node (slice_get earlier i) ≡ Some r) ⊎ (expanded_node (Some o) ≡ Some r)) [
      | None ↦ λ _ e. absurd (none-some r e)
      | Some y ↦ λ is e. elim (slice_get-push_cases earlier o i y is) [
        | inl at ↦ inl (ap expanded_node at ∙ e)
        | inr same ↦ inr (ap (λ z. expanded_node (Some z)) same ∙ e)
      ]
    ] refl e

-- a successor that the outcomes so far and one more do not settle
other_kid : (earlier : List Outcome) (o : Outcome) (q : Kid) → is_settled_by (earlier ++ o ∷ []) q ≡ false → (is_settled_by earlier q ≡ false) × (same_kid q (kid_of o) ≡ false)
other_kid earlier o q e =
    let parts = or_parts (is_settled_by earlier q) (is_settled_by (o ∷ []) q) (sym (list_any-append (λ o. same_kid q (kid_of o)) earlier (o ∷ [])) ∙ e) in
    (parts.0, (or_parts (same_kid q (kid_of o)) false parts.1).0)

-- ---- what the tests of an outcome say

-- what a domination test says
record HasDominated (a r : Option Node) : Type 0 where
  better : Node
  worse : Node
  is_better : a ≡ Some better
  is_worse : r ≡ Some worse
  same_state : better.state ≡ worse.state
  no_dearer : better.cost ≤ worse.cost

dominates-true : (a r : Option Node) → dominates a r ≡ true → HasDominated a r
dominates-true None r e = absurd (true≢false (sym e))
dominates-true (Some a) None e = absurd (true≢false (sym e))
dominates-true (Some a) (Some r) e =
    let parts = and_parts (same_state a.state r.state) (nat_le a.cost r.cost) e in
    record { better = a; worse = r; is_better = refl; is_worse = refl; same_state = same_state-true a.state r.state parts.0; no_dearer = leb-true a.cost r.cost parts.1 }

-- what a bound test says of a node
record HasReached (bound : Option ℕ) (r : Node) (v : ℕ) : Type 0 where
  limit : ℕ
  is_limit : bound ≡ Some limit
  reached : limit ≤ r.cost + v

reaches-true : (bound : Option ℕ) (r : Node) (v : ℕ) → reaches bound (Some r) (Some v) ≡ true → HasReached bound r v
reaches-true None r v e = absurd (true≢false (sym e))
reaches-true (Some limit) r v e = record { limit = limit; is_limit = refl; reached = leb-true limit (r.cost + v) e }

-- a node that is there, and has a state
record IsThere (o : Option Node) (s : State) : Type 0 where
  at : Node
  is_at : o ≡ Some at
  same : at.state ≡ s

there : (o : Option Node) (s : State) → has_state o s ≡ true → IsThere o s
there None s e = absurd (true≢false (sym e))
there (Some r) s e = record { at = r; is_at = refl; same = same_state-true r.state s e }

-- a test that refuses where it fails
pub passes : (b : Bool) (x : Refusal) → cond b None (Some x) ≡ None → b ≡ true
passes true x e = refl
passes false x e = absurd (cc)

-- two tests, one after the other
passes_both : (a b : Bool) (x y : Refusal) → cond a (cond b None (Some x)) (Some y) ≡ None → (a ≡ true) × (b ≡ true)
passes_both true b x y e = (refl, passes b x e)
passes_both false b x y e = absurd (cc)

-- a plan that a list has
record HasPlan (t : Task) (expanded : List (List ℕ)) (r : Node) : Type 0 where
  plan : List ℕ
  among : Contains expanded plan
  executes : exec t plan ≡ Some r

entry_plan : (t : Task) (expanded : List (List ℕ)) (n : ℕ) (r : Node) → option_and_then (exec t) (slice_get expanded n) ≡ Some r → HasPlan t expanded r
entry_plan t expanded n r e =
    elim (slice_get expanded n) as (λ o. slice_get expanded n ≡ o → option_and_then (exec t) o ≡ Some r → HasPlan t expanded r) [
      | None ↦ λ _ e. absurd (none-some r e)
      | Some p ↦ λ is e.
          let lt = slice_get_within expanded n p is in
          let at : get_or expanded n [] ≡ p = get_or_from_slice_get expanded n p [] is in
          record { plan = p; among = subst (Contains expanded) at (Contains-get_or expanded n [] lt); executes = e }
    ] refl e

-- ---- entries only grow

one_entry : (o : Outcome) (b : BookState) → (settled b o).entries ≡ b.entries ++ entry_of o
one_entry (Expanded e) b = refl
one_entry (Duplicate k by) b = sym (append-nil b.entries)
one_entry (Bounded k h) b = sym (append-nil b.entries)

pub all_entries : (outcomes : List Outcome) (b : BookState) → (all_settled b outcomes).entries ≡ b.entries ++ flat_map entry_of outcomes
all_entries [] b = sym (append-nil b.entries)
all_entries (o ∷ outcomes) b =
    all_entries outcomes (settled b o)
    ∙ (ap (λ (ks : List Kid). ks ++ flat_map entry_of outcomes) (one_entry o b) ∙ append_assoc b.entries (entry_of o) (flat_map entry_of outcomes))

entries_grow : (outcomes : List Outcome) (b : BookState) → length b.entries ≤ length (all_settled b outcomes).entries
entries_grow outcomes b = omega (arith, ap length (all_entries outcomes b), length-append b.entries (flat_map entry_of outcomes))

-- ---- truth values

pub or_yes : (a b c : Bool) → c ≡ true → true ≡ (a || (b || (c || false)))
or_yes true b c e = refl
or_yes false true c e = refl
or_yes false false c e = sym e ∙ sym (or-false c)

pub or_no : (a b c : Bool) → c ≡ false → (a || b) ≡ (a || (b || (c || false)))
or_no true b c e = refl
or_no false true c e = refl
or_no false false c e = sym e ∙ sym (or-false c)

only : (b : Bool) → (b || false) ≡ true → b ≡ true
only b e = sym (or-false b) ∙ e

-- ---- the book after earlier outcomes of a batch, beside the book before it

module _ (t : Task) (entries0 : List Kid) (marks0 : List Bool) (kept0 : IsBookKept (record { task = t; entries = entries0; marks = marks0 })) where
  -- the book before the batch
  abbrev before : BookState
  before = record { task = t; entries = entries0; marks = marks0 }

  abbrev old : List (List ℕ)
  old = expansions before

  -- two places of the old successors have different ones
  pub posted_apart : (i j : ℕ) → i < length (generated t old) → j < length (generated t old) → get_or (posted_by t old) i root ≡ get_or (posted_by t old) j root → i ≢ j → ⊥
  posted_apart i j hi hj e ne =
      let short : length old < ROOT_PARENT = omega (arith, count-entries before kept0, kept0.short) in
      let count : length (posted_by t old) ≡ length (generated t old) = posted_count t old short in
      let at : (n : ℕ) → n < length (generated t old) → plan_of old (get_or (posted_by t old) n root) ≡ Some (get_or (generated t old) n []) = λ n lt.
      sym (get_or-map (plan_of old) (posted_by t old) n root None (omega (arith, count)))
      ∙ (ap (λ (xs : List (Option (List ℕ))). get_or xs n None) (posted_named t old short) ∙ get_or-map Some (generated t old) n [] None lt)
      in
      apart t old i j kept0.marked.legal ne hi hj (same_Some _ _ (sym (at i hi) ∙ (ap (plan_of old) e ∙ at j hj)))

  -- the book after some outcomes: it is kept, goes on from the old plans, has left the marks of
  -- other successors, and has the nodes of the outcomes that are expansions; its further plans lead
  -- where those do, and the successors that they post are not marked
  pub record Follows (earlier : List Outcome) (entries : List Kid) (marks : List Bool) : Type 0 where
    pub kept : IsBookKept (record { task = t; entries = entries; marks = marks })
    pub more : List (List ℕ)
    pub tail : expansions (record { task = t; entries = entries; marks = marks }) ≡ old ++ more
    pub opens : (k : Kid) → is_posted before k ≡ true → is_marked before k ≡ false → is_settled_by earlier k ≡ false → get_or marks (place_of before k) true ≡ false
    pub leads : map (exec t) more ≡ map (λ e. Some (node_at e)) (entered_by earlier)
    pub grown : length marks ≡ length marks0 + successor_count earlier
    pub counted : count_by (λ (m : Bool). m) marks ≡ count_by (λ (m : Bool). m) marks0 + length earlier
    pub known : (q : Kid) → is_settled_by earlier q ≡ true → is_posted before q ≡ true
    pub olds : (j : ℕ) → j < length marks0 → get_or marks j true ≡ (get_or marks0 j true || is_settled_by earlier (get_or (posted_by t old) j root))
    pub news : (j : ℕ) → length marks0 ≤ j → j < length marks → get_or marks j true ≡ false
    pub nodes : (i : ℕ) (r : Node) → expanded_node (slice_get earlier i) ≡ Some r → (p : List ℕ) × Contains (expansions (record { task = t; entries = entries; marks = marks })) p × (exec t p ≡ Some r)

  module _ (earlier : List Outcome) (entries : List Kid) (marks : List Bool) (f : Follows earlier entries marks) (k : Kid) (posted : is_posted before k ≡ true) where
    abbrev now : BookState
    now = record { task = t; entries = entries; marks = marks }

    abbrev E : List (List ℕ)
    E = expansions now

    place : ℕ
    place = place_of before k

    at_old : IsAt before k
    at_old = stands before kept0 k posted

    posted_tail : posted_by t E ≡ posted_by t old ++ kids_from t (length old) f.more
    posted_tail = ap (posted_by t) f.tail ∙ posted_by-append t old f.more

    generated_tail : generated t E ≡ generated t old ++ flat_map (children t) f.more
    generated_tail = ap (generated t) f.tail ∙ generated-append t old f.more

    within_old : place_of before k < length (posted_by t old)
    within_old = ltb-true (place_of before k) (length (posted_by t old)) posted

    same_place : place_of now k ≡ place_of before k
    same_place =
        ap (position_or_len (same_kid k)) posted_tail
        ∙ position_or_len-append_left (same_kid k) (posted_by t old) (kids_from t (length old) f.more) within_old

    still_posted : is_posted now k ≡ true
    still_posted =
        lt-ltb (place_of now k) (length (posted_by t E))
        (omega (arith, same_place, within_old, ap length posted_tail, length-append (posted_by t old) (kids_from t (length old) f.more)))

    at_now : IsAt now k
    at_now = stands now f.kept k still_posted

    -- the plan of the successor is the same
    same_plan : get_or (generated t E) (place_of now k) [] ≡ get_or (generated t old) (place_of before k) []
    same_plan =
        ap (λ n. get_or (generated t E) n []) same_place
        ∙ (ap (λ xs. get_or xs (place_of before k) []) generated_tail
        ∙ get_or_append_left (generated t old) (flat_map (children t) f.more) [] (place_of before k) at_old.within)

    -- where it leads
    leads : node_of before k ≡ exec t (get_or (generated t E) (place_of now k) [])
    leads = ap (option_and_then (exec t)) at_old.plan ∙ ap (exec t) (sym same_plan)

    within_marks : place_of now k < length marks
    within_marks = omega (arith, at_now.within, f.kept.marked.one_each)

    -- another posted successor stands elsewhere
    elsewhere : (q : Kid) → is_posted before q ≡ true → same_kid q k ≡ false → place_of before q ≢ place_of now k
    elsewhere q posted_q other e =
        let at_q = stands before kept0 q posted_q in
        let same : q ≡ k =
        sym at_q.kid ∙ (ap (λ n. get_or (posted_by t old) n root) (e ∙ same_place) ∙ at_old.kid)
        in
        true≢false (sym (subst (λ x. same_kid q x ≡ true) same (same_kid-refl q)) ∙ other)

    -- a successor that neither the book before nor the outcomes settle is open
    open_now : is_marked before k ≡ false → is_settled_by earlier k ≡ false → get_or marks (place_of now k) true ≡ false
    open_now unmarked other = ap (λ n. get_or marks n true) same_place ∙ f.opens k posted unmarked other

    -- another old place has another successor
    other_place : (j : ℕ) → j < length marks0 → j ≢ place_of now k → same_kid (get_or (posted_by t old) j root) k ≡ false
    other_place j lt ne =
        elim (same_kid (get_or (posted_by t old) j root) k) as (λ b. same_kid (get_or (posted_by t old) j root) k ≡ b → b ≡ false) [
          | true ↦ λ e. absurd (posted_apart j (place_of before k) (omega (arith, kept0.marked.one_each)) at_old.within
              (same_kid-true (get_or (posted_by t old) j root) k e ∙ sym at_old.kid) (λ same. ne (same ∙ sym same_place)))
          | false ↦ λ e. refl
        ] refl

    -- the old marks, with that of the successor
    old_marks : (o : Outcome) → kid_of o ≡ k → (j : ℕ) → j < length marks0 → get_or (set marks (place_of now k) true) j true ≡ (get_or marks0 j true || is_settled_by (earlier ++ o ∷ []) (get_or (posted_by t old) j root))
    old_marks o is_k j lt =
        let q = get_or (posted_by t old) j root in
        let settled_q : is_settled_by (earlier ++ o ∷ []) q ≡ (is_settled_by earlier q || (same_kid q k || false)) =
        list_any-append (λ o. same_kid q (kid_of o)) earlier (o ∷ []) ∙ ap (λ (x : Kid). is_settled_by earlier q || (same_kid q x || false)) is_k
        in
        elim (cases_eq j (place_of now k)) [
          | inl e ↦
              let same : q ≡ k = ap (λ n. get_or (posted_by t old) n root) (e ∙ same_place) ∙ at_old.kid in
              ap (λ n. get_or (set marks (place_of now k) true) n true) e
              ∙ (get_or-set_same marks (place_of now k) true true within_marks
              ∙ (or_yes (get_or marks0 j true) (is_settled_by earlier q) (same_kid q k) (subst (λ x. same_kid x k ≡ true) (sym same) (same_kid-refl k))
              ∙ ap (λ b. get_or marks0 j true || b) (sym settled_q)))
          | inr ne ↦
              get_or-set_other marks (place_of now k) j true true ne
              ∙ (f.olds j lt
              ∙ (or_no (get_or marks0 j true) (is_settled_by earlier q) (same_kid q k) (other_place j lt ne)
              ∙ ap (λ b. get_or marks0 j true || b) (sym settled_q)))
        ]

    new_marks_unset : (j : ℕ) → length marks0 ≤ j → j < length (set marks (place_of now k) true) → get_or (set marks (place_of now k) true) j true ≡ false
    new_marks_unset j le lt =
        get_or-set_other marks (place_of now k) j true true (λ e. omega (arith, same_place, at_old.within, kept0.marked.one_each))
        ∙ f.news j le (omega (arith, length-set marks (place_of now k) true))

    known_now : (o : Outcome) → kid_of o ≡ k → (q : Kid) → is_settled_by (earlier ++ o ∷ []) q ≡ true → is_posted before q ≡ true
    known_now o is_k q e =
        elim (is_settled_by earlier q) as (λ b. is_settled_by earlier q ≡ b → is_posted before q ≡ true) [
          | true ↦ λ b. f.known q b
          | false ↦ λ b.
              let last : (same_kid q (kid_of o) || false) ≡ true =
              ap (λ x. x || (same_kid q (kid_of o) || false)) (sym b) ∙ (sym (list_any-append (λ o. same_kid q (kid_of o)) earlier (o ∷ [])) ∙ e)
              in
              subst (λ (x : Kid). is_posted before x ≡ true) (sym (same_kid-true q k (only (same_kid q k) (ap (λ (x : Kid). same_kid q x || false) (sym is_k) ∙ last)))) posted
        ] refl

    -- ---- the successor is settled without an entry

    abbrev p : List ℕ
    p = get_or (generated t E) (place_of now k) []

    mark_follows : (o : Outcome) → kid_of o ≡ k → expanded_node (Some o) ≡ None → is_marked before k ≡ false → is_settled_by earlier k ≡ false → IsJustified t (hmax t) E p → Follows (earlier ++ o ∷ []) entries (set marks (place_of now k) true)
    mark_follows o is_k no_node unmarked other just = record {
      kept = record {
        named = f.kept.named;
        marked = settled_marks t (hmax t) E marks (place_of now k) f.kept.marked within_marks (open_now unmarked other) just;
        short = f.kept.short;
      };
      more = f.more;
      tail = f.tail;
      opens = λ q posted_q unmarked_q free.
          let parts = other_kid earlier o q free in
          get_or-set_other marks (place_of now k) (place_of before q) true true (elsewhere q posted_q (ap (same_kid q) (sym is_k) ∙ parts.1))
          ∙ f.opens q posted_q unmarked_q parts.0;
      leads =
          f.leads
          ∙ ap (map (λ e. Some (node_at e)))
          (sym (append-nil (entered_by earlier)) ∙ (ap (λ xs. entered_by earlier ++ xs) (sym (entered_nothing o no_node)) ∙ sym (entered_by-push earlier o)));
      grown = omega (arith, length-set marks (place_of now k) true, f.grown, kids_in-push earlier o, no_kids o no_node);
      counted = omega (arith, count_by-set (λ (m : Bool). m) marks (place_of now k) true true within_marks (open_now unmarked other) refl, f.counted, length-append earlier (o ∷ []));
      known = known_now o is_k;
      olds = old_marks o is_k;
      news = new_marks_unset;
      nodes = λ i r e.
          elim (expanded_cases earlier o i r e) [
            | inl old_node ↦ f.nodes i r old_node
            | inr its_node ↦ absurd (none-some r (sym no_node ∙ its_node))
          ];
    }

    -- a plan of the list has the state at no greater cost
    dominated : (a : Option Node) → ((r : Node) → a ≡ Some r → HasPlan t E r) → dominates a (node_of before k) ≡ true → IsJustified t (hmax t) E p
    dominated a plan_for e =
        let d = dominates-true a (node_of before k) e in
        let q = plan_for d.better d.is_better in
        record {
          end = d.worse;
          executes = sym leads ∙ d.is_worse;
          why = inl (record { plan = q.plan; end = d.better; among = q.among; executes = q.executes; same_state = d.same_state; no_dearer = d.no_dearer });
        }

    older_plan : (r : Node) → HasPlan t old r → HasPlan t E r
    older_plan r q = record {
      plan = q.plan;
      among = subst (λ xs. Contains xs q.plan) (sym f.tail) (Contains-append_left old f.more q.plan q.among);
      executes = q.executes;
    }

    plan_by : (by : By) (r : Node) → node_by before earlier by ≡ Some r → HasPlan t E r
    plan_by (Entry n) r e = older_plan r (entry_plan t old n r e)
    plan_by (Here i) r e = let q = f.nodes i r e in record { plan = q.0; among = q.1; executes = q.2 }

    -- the estimate is infinite, or the cost and the estimate reach the bound
    within_bound : (r : Node) (estimate : Option ℕ) → reaches (bound_of t old) (Some r) estimate ≡ true → IsBounded (bound_of t E) r.cost estimate
    within_bound r None e = Dead refl
    within_bound r (Some v) e =
        let d = reaches-true (bound_of t old) r v e in
        let grown = bound_grows t old f.more d.limit d.is_limit in
        Reaches grown.0 v (ap (bound_of t) f.tail ∙ grown.1) refl (omega (arith, grown.2, d.reached))

    bounded : (h : EstimateView) → h.task ≡ t → has_state (node_of before k) h.state ≡ true → reaches (bound_of t old) (node_of before k) (estimated h.value) ≡ true → IsJustified t (hmax t) E p
    bounded h own same e =
        let d = there (node_of before k) h.state same in
        let value : estimated h.value ≡ hmax t d.at.state = h.estimates ∙ (ap (λ (u : Task). hmax u h.state) own ∙ ap (hmax t) (sym d.same)) in
        let test : reaches (bound_of t old) (Some d.at) (estimated h.value) ≡ true =
        ap (λ (o : Option Node). reaches (bound_of t old) o (estimated h.value)) (sym d.is_at) ∙ e
        in
        record {
          end = d.at;
          executes = sym leads ∙ d.is_at;
          why = inr (subst (IsBounded (bound_of t E) d.at.cost) value (within_bound d.at (estimated h.value) test));
        }

    -- ---- the successor is expanded

    module _ (e : ExpansionView) (own : e.task ≡ t) (is_k : e.kid ≡ k) (right : is_node (node_of before k) e.state e.cost ≡ true) (room : length entries + 1 < ROOT_PARENT) (unmarked : is_marked before k ≡ false) (other : is_settled_by earlier k ≡ false) where
      abbrev o : Outcome
      o = Expanded e

      executes_p : exec t p ≡ Some (node e.state e.cost)
      executes_p = sym leads ∙ is_node-true (node_of before k) e.state e.cost right

      as_many : length (children t p) ≡ length e.children
      as_many =
          length-map (applicable_at t (exec t p)) (followed_by p)
          ∙ (ap (λ r. length (applicable_at t r)) executes_p
          ∙ (ap length (sym (children-actions t (node e.state e.cost)))
          ∙ (length-map (children_at t (node e.state e.cost)) (λ (c : ChildView). c.action)
          ∙ ap length (ap (λ (u : Task). children_at u (node e.state e.cost)) (sym own) ∙ sym e.all_children))))

      abbrev after : BookState
      after = record { task = t; entries = entries ++ k ∷ []; marks = set marks (place_of now k) true ++ replicate (length e.children) false }

      names : plans_of (entries ++ k ∷ []) ≡ Some (E ++ p ∷ [])
      names = plans_of-push entries k E p f.kept.named at_now.plan

      new_plans : expansions after ≡ E ++ p ∷ []
      new_plans = ap (λ x. unwrap_or x []) names

      new_marks : IsMarked t (hmax t) (expansions after) after.marks
      new_marks =
          subst (λ xs. IsMarked t (hmax t) xs after.marks) (sym new_plans)
          (subst (λ n. IsMarked t (hmax t) (E ++ p ∷ []) (set marks (place_of now k) true ++ replicate n false)) as_many
          (expanded_marks t (hmax t) E marks (place_of now k) f.kept.marked within_marks (open_now unmarked other)))

      expanded_follows : Follows (earlier ++ o ∷ []) (entries ++ k ∷ []) (set marks (place_of now k) true ++ replicate (length e.children) false)
      expanded_follows = record {
        kept = record {
          named = names ∙ ap Some (sym new_plans);
          marked = new_marks;
          short = omega (arith, length-append entries (k ∷ []));
        };
        more = f.more ++ p ∷ [];
        tail = new_plans ∙ (ap (λ xs. xs ++ p ∷ []) f.tail ∙ append_assoc old f.more (p ∷ []));
        opens = λ q posted_q unmarked_q free.
            let parts = other_kid earlier o q free in
            let at_q = stands before kept0 q posted_q in
            let within_q : place_of before q < length (set marks (place_of now k) true) =
            omega (arith, at_q.within, f.kept.marked.one_each, ap length generated_tail, length-append (generated t old) (flat_map (children t) f.more), length-set marks (place_of now k) true)
            in
            get_or_append_left (set marks (place_of now k) true) (replicate (length e.children) false) true (place_of before q) within_q
            ∙ (get_or-set_other marks (place_of now k) (place_of before q) true true (elsewhere q posted_q (ap (same_kid q) (sym is_k) ∙ parts.1))
            ∙ f.opens q posted_q unmarked_q parts.0);
        leads =
            map-append (exec t) f.more (p ∷ [])
            ∙ (ap₂ (λ xs (ys : Option Node). xs ++ ys ∷ []) f.leads executes_p
            ∙ (sym (map-append (λ x. Some (node_at x)) (entered_by earlier) (entry_gained o))
            ∙ ap (map (λ x. Some (node_at x))) (sym (entered_by-push earlier o))));
        grown =
            omega (arith, length-append (set marks (place_of now k) true) (replicate (length e.children) false), length-set marks (place_of now k) true, length-replicate (length e.children) false, f.grown, kids_in-push earlier o);
        counted =
            omega (arith, count_by-append (λ (m : Bool). m) (set marks (place_of now k) true) (replicate (length e.children) false), count_by-replicate_none (λ (m : Bool). m) (length e.children) false refl, count_by-set (λ (m : Bool). m) marks (place_of now k) true true within_marks (open_now unmarked other) refl, f.counted, length-append earlier (o ∷ []));
        known = known_now o is_k;
        olds = λ j lt.
            get_or_append_left (set marks (place_of now k) true) (replicate (length e.children) false) true j
            (omega (arith, length-set marks (place_of now k) true, f.grown))
            ∙ old_marks o is_k j lt;
        news = λ j le lt.
            elim (cases_lt j (length (set marks (place_of now k) true))) [
              | inl lt' ↦
                  get_or_append_left (set marks (place_of now k) true) (replicate (length e.children) false) true j lt'
                  ∙ new_marks_unset j le lt'
              | inr ge ↦
                  get_or-append_right (set marks (place_of now k) true) (replicate (length e.children) false) (length (set marks (place_of now k) true)) j true refl ge
                  ∙ get_or-replicate (length e.children) (j - length (set marks (place_of now k) true)) false true
                  (omega (arith, length-append (set marks (place_of now k) true) (replicate (length e.children) false), length-replicate (length e.children) false))
            ];
        nodes = λ i r at.
            elim (expanded_cases earlier o i r at) [
              | inl old_node ↦
                  let q = f.nodes i r old_node in
                  (q.0, subst (λ xs. Contains xs q.0) (sym new_plans) (Contains-append_left E (p ∷ []) q.0 q.1), q.2)
              | inr its_node ↦ (p, subst (λ xs. Contains xs p) (sym new_plans) (Contains-push E p), executes_p ∙ its_node)
            ];
      }

  -- ---- a whole batch

  pub at_first : Follows [] entries0 marks0
  at_first = record {
    kept = kept0;
    more = [];
    tail = sym (append-nil old);
    opens = λ k posted unmarked free. unmarked;
    leads = refl;
    grown = omega arith;
    counted = omega arith;
    known = λ q e. absurd (true≢false (sym e));
    olds = λ j lt. sym (or-false (get_or marks0 j true));
    news = λ j le lt. absurd (omega arith);
    nodes = λ i r e. absurd (none-some r (sym (no_outcome i) ∙ e));
  }
    where
      no_outcome : (i : ℕ) → expanded_node (slice_get [] i) ≡ None
      no_outcome zero = refl
      no_outcome (suc i) = refl

  neither : (a b : Option Refusal) → option_or a b ≡ None → (a ≡ None) × (b ≡ None)
  neither None b e = (refl, e)
  neither (Some x) b e = absurd (cc)

  -- an outcome that is not refused
  one_follows :
      (earlier : List Outcome) (o : Outcome) (entries : List Kid) (marks : List Bool) → Follows earlier entries marks → refusal_of before earlier o ≡ None → IsOutcomeOfTask t o → length (settled (record { task = t; entries = entries; marks = marks }) o).entries < ROOT_PARENT
      → Follows (earlier ++ o ∷ []) (settled (record { task = t; entries = entries; marks = marks }) o).entries (settled (record { task = t; entries = entries; marks = marks }) o).marks
  one_follows earlier (Expanded e) entries marks f free own room =
      let a = accepted (knows_parent before e.kid) (is_posted before e.kid) (is_marked before e.kid || is_settled_by earlier e.kid) (refusal_by before earlier (Expanded e)) free in
      let closed = or_parts (is_marked before e.kid) (is_settled_by earlier e.kid) a.is_open in
      expanded_follows earlier entries marks f e.kid a.is_posted e own refl (passes (is_node (node_of before e.kid) e.state e.cost) StateDiffers a.nothing) (omega (arith, length-append entries (e.kid ∷ []))) closed.0 closed.1
  one_follows earlier (Duplicate k by) entries marks f free own room =
      let a = accepted (knows_parent before k) (is_posted before k) (is_marked before k || is_settled_by earlier k) (refusal_by before earlier (Duplicate k by)) free in
      let closed = or_parts (is_marked before k) (is_settled_by earlier k) a.is_open in
      mark_follows earlier entries marks f k a.is_posted (Duplicate k by) refl refl closed.0 closed.1
      (dominated earlier entries marks f k a.is_posted (node_by before earlier by) (plan_by earlier entries marks f k a.is_posted by) (passes (dominates (node_by before earlier by) (node_of before k)) NotDominated a.nothing))
  one_follows earlier (Bounded k h) entries marks f free own room =
      let a = accepted (knows_parent before k) (is_posted before k) (is_marked before k || is_settled_by earlier k) (refusal_by before earlier (Bounded k h)) free in
      let closed = or_parts (is_marked before k) (is_settled_by earlier k) a.is_open in
      let both = passes_both (has_state (node_of before k) h.state) (reaches (bound_of t old) (node_of before k) (estimated h.value)) BelowBound StateDiffers a.nothing in
      mark_follows earlier entries marks f k a.is_posted (Bounded k h) refl refl closed.0 closed.1
      (bounded earlier entries marks f k a.is_posted h own both.0 both.1)

  same_task : (o : Outcome) (entries : List Kid) (marks : List Bool) → settled (record { task = t; entries = entries; marks = marks }) o ≡ record { task = t; entries = (settled (record { task = t; entries = entries; marks = marks }) o).entries; marks = (settled (record { task = t; entries = entries; marks = marks }) o).marks }
  same_task (Expanded e) entries marks = refl
  same_task (Duplicate k by) entries marks = refl
  same_task (Bounded k h) entries marks = refl

  -- a book that is kept, whatever its task
  record IsKeptOf (b : BookState) : Type 0 where
    kept : IsBookKept b
    task : b.task ≡ t

  batch_kept :
      (earlier later : List Outcome) (entries : List Kid) (marks : List Bool) → Follows earlier entries marks → first_refusal before earlier later ≡ None → AllByRecursion (IsOutcomeOfTask t) later → length (all_settled (record { task = t; entries = entries; marks = marks }) later).entries < ROOT_PARENT
      → IsKeptOf (all_settled (record { task = t; entries = entries; marks = marks }) later)
  batch_kept earlier [] entries marks f free own room = record { kept = f.kept; task = refl }
  batch_kept earlier (o ∷ later) entries marks f free own room =
      let parts = neither (refusal_of before earlier o) (first_refusal before (earlier ++ o ∷ []) later) free in
      let next = settled (record { task = t; entries = entries; marks = marks }) o in
      let short : length next.entries < ROOT_PARENT = omega (arith, entries_grow later next, room) in
      let step = one_follows earlier o entries marks f parts.0 own.0 short in
      subst (λ b. IsKeptOf (all_settled b later)) (sym (same_task o entries marks))
      (batch_kept (earlier ++ o ∷ []) later next.entries next.marks step parts.1 own.1
      (subst (λ b. length (all_settled b later).entries < ROOT_PARENT) (same_task o entries marks) room))

  -- the book after a whole batch, beside the book before it
  pub batch_follows :
      (earlier later : List Outcome) (entries : List Kid) (marks : List Bool) → Follows earlier entries marks → first_refusal before earlier later ≡ None → AllByRecursion (IsOutcomeOfTask t) later
      → length (all_settled (record { task = t; entries = entries; marks = marks }) later).entries < ROOT_PARENT
      → Follows (earlier ++ later) (all_settled (record { task = t; entries = entries; marks = marks }) later).entries (all_settled (record { task = t; entries = entries; marks = marks }) later).marks
  batch_follows earlier [] entries marks f free own room = subst (λ os. Follows os entries marks) (sym (append-nil earlier)) f
  batch_follows earlier (o ∷ later) entries marks f free own room =
      let parts = neither (refusal_of before earlier o) (first_refusal before (earlier ++ o ∷ []) later) free in
      let next = settled (record { task = t; entries = entries; marks = marks }) o in
      let short : length next.entries < ROOT_PARENT = omega (arith, entries_grow later next, room) in
      let step = one_follows earlier o entries marks f parts.0 own.0 short in
      let then =
      batch_follows (earlier ++ o ∷ []) later next.entries next.marks step parts.1 own.1
      (subst (λ b. length (all_settled b later).entries < ROOT_PARENT) (same_task o entries marks) room)
      in
      subst (λ b. Follows (earlier ++ o ∷ later) (all_settled b later).entries (all_settled b later).marks) (sym (same_task o entries marks))
      (subst (λ os. Follows os (all_settled (record { task = t; entries = next.entries; marks = next.marks }) later).entries (all_settled (record { task = t; entries = next.entries; marks = next.marks }) later).marks)
      (append_assoc earlier (o ∷ []) later) then)

  pub batch_task :
      (outcomes : List Outcome) → first_refusal before [] outcomes ≡ None → AllByRecursion (IsOutcomeOfTask t) outcomes → length (all_settled before outcomes).entries < ROOT_PARENT
      → (all_settled before outcomes).task ≡ t
  batch_task outcomes free own room = (batch_kept [] outcomes entries0 marks0 at_first free own room).task

-- a batch that is not refused leaves a kept book
pub accepted_kept : (b : BookState) (outcomes : List Outcome) → IsBookKept b → AllByRecursion (IsOutcomeOfTask b.task) outcomes → first_refusal b [] outcomes ≡ None → length (all_settled b outcomes).entries < ROOT_PARENT → IsBookKept (all_settled b outcomes)
accepted_kept b outcomes kept own free room =
    (batch_kept b.task b.entries b.marks kept [] outcomes b.entries b.marks (at_first b.task b.entries b.marks kept) free own room).kept

-- a book without entries
pub first_kept : (t : Task) → IsBookKept (record { task = t; entries = []; marks = false ∷ [] })
first_kept t = record { named = refl; marked = none_marked t (hmax t); short = omega arith }
