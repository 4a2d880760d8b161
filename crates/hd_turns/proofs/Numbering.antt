-- A batch that is accepted, and what its numbers do to a worker.
use Rattle.std.proofs.Common.{◌≡◌, ℕ, zero, suc, ◌+◌, ◌-◌, ◌<◌, nat_lt, Bool, true, false, cond, not, ◌||◌, ◌⊎◌, inl, inr, Option, Some, None, List, [], ◌∷◌, ◌++◌, map, take, length, get_or, slice_get, Contains, true≢false, refl, sym, ap, ◌∙◌, subst, arith, length-append, append_assoc, append-nil}
use Rattle.std.specs.Prelude.{flat_map, option_and_then}
use Rattle.std.specs.List.{list_any, AllByRecursion}
use Rattle.std.specs.Option.{option_or}
use Rattle.std.proofs.lemmas.Bool.{cases_lt, lt-ltb, le-ltb}
use Rattle.std.proofs.lemmas.Option.{none-some}
use Rattle.std.proofs.Math.Seq.{get_or-append_seam}
use Rattle.std.proofs.lemmas.List.{map-append}
use Rattle.std.proofs.lemmas.List.Elements.{Contains-append_left, Contains-append_right}
use Rattle.hd_base.proofs.Lists.{AllByRecursion-append, cons_parts}
use Rattle.hd_base.proofs.Members.{Contains-map, Contains-first, Contains-later}
use Rattle.hd_base.proofs.Tests.{list_any-from_contains, nat_lt-position_or_len}
use Rattle.hd_task.specs.declared.task.Task.{Task}
use Rattle.hd_task.specs.declared.plan.Kid.{Kid}
use Rattle.hd_task.specs.declared.plan.TheConstants.{ROOT_PARENT}
use Rattle.hd_task.specs.Plans.{Node, exec, node}
use Rattle.hd_task.specs.Expansions.{followed_by, applicable_at}
use Rattle.hd_task.proofs.Runs.{exec-push}
use Rattle.hd_node.specs.declared.batch.By.{By}
use Rattle.hd_node.specs.declared.batch.By.TheVariants.{Entry, Here}
use Rattle.hd_node.specs.declared.batch.Outcome.{Outcome}
use Rattle.hd_node.specs.declared.batch.Outcome.TheVariants.{Expanded, Duplicate, Bounded}
use Rattle.hd_node.specs.Children.{ChildView, children_at}
use Rattle.hd_node.specs.Outcome.{kid_of}
use Rattle.hd_node.proofs.Steps.{children-actions, children_step}
use Rattle.hd_entries.specs.declared.refusal.Refusal.{Refusal}
use Rattle.hd_entries.specs.declared.refusal.Refusal.TheVariants.{UnknownParent, NotAKid, SettledBefore}
use Rattle.hd_tables.specs.Kids.{root, kid_from, same_kid}
use Rattle.hd_entries.specs.Kids.{kids_of, kids_from, posted_by}
use Rattle.hd_entries.specs.Settling.{BookState, expansions, IsBookKept, knows_parent, is_posted, is_marked, node_by, expanded_node, refusal_by, is_settled_by, first_refusal, all_settled, entry_of, IsOutcomeOfTask}
use Rattle.hd_entries.specs.Holding.{released_from, released_by, node_at}
use Rattle.hd_entries.specs.Growing.{entered_by}
use Rattle.hd_entries.proofs.Naming.{plan_of-kid, posted_by-append, length-plans_of}
use Rattle.hd_entries.proofs.Accepting.{Follows, at_first, batch_follows, batch_task, accepted_kept, all_entries, same_kid-refl}
use Rattle.hd_closed.specs.Closed.{Closed}
use Rattle.hd_closed.specs.Numbering.{numbered, closed_numbered}
use Rattle.hd_turns.specs.Calls.{ranks, outcome_numbered}
use Rattle.hd_turns.specs.Growth.{Grows}
use Rattle.hd_turns.specs.Truth.{IsTrueParcel, IsUnrefused, AreRight, IsClosedBy}
use Rattle.hd_turns.proofs.Lists.{slice_get-append_left, slice_get-append_right, then_at}
use Rattle.hd_turns.proofs.Growing.{entry_stays, right_stays, right_moves}

-- ---- outcomes that are right, and refusals

pub all_of_task : (b : BookState) (earlier later : List Outcome) → AreRight b earlier later → AllByRecursion (IsOutcomeOfTask b.task) later
all_of_task b earlier [] x = tt
all_of_task b earlier (o ∷ later) x = (x.0.of_task, all_of_task b (earlier ++ o ∷ []) later x.1)

late_or_none :
    (known posted settled : Bool) (why next : Option Refusal) → known ≡ true → posted ≡ true → why ≡ None → (next ≡ None) ⊎ (next ≡ Some SettledBefore)
    → (option_or (cond (not known) (Some UnknownParent) (cond (not posted) (Some NotAKid) (cond settled (Some SettledBefore) why))) next ≡ None)
    ⊎ (option_or (cond (not known) (Some UnknownParent) (cond (not posted) (Some NotAKid) (cond settled (Some SettledBefore) why))) next ≡ Some SettledBefore)
late_or_none false posted settled why next k p n rest = absurd (true≢false (sym k))
late_or_none true false settled why next k p n rest = absurd (true≢false (sym p))
late_or_none true true true why next k p n rest = inr refl
late_or_none true true false None next k p n rest = rest
late_or_none true true false (Some y) next k p n rest = absurd (none-some y (sym n))

-- outcomes that are right are refused for nothing but a successor that was settled before
pub settled_or_none : (b : BookState) (earlier later : List Outcome) → AreRight b earlier later → (first_refusal b earlier later ≡ None) ⊎ (first_refusal b earlier later ≡ Some SettledBefore)
settled_or_none b earlier [] x = inl refl
settled_or_none b earlier (o ∷ later) x =
    late_or_none (knows_parent b (kid_of o)) (is_posted b (kid_of o)) (is_marked b (kid_of o) || is_settled_by earlier (kid_of o)) (refusal_by b earlier o) (first_refusal b (earlier ++ o ∷ []) later)
    x.0.known x.0.posted x.0.unrefused (settled_or_none b (earlier ++ o ∷ []) later x.1)

pub split_right : (b : BookState) (earlier xs ys : List Outcome) → AreRight b earlier (xs ++ ys) → AreRight b earlier xs × AreRight b (earlier ++ xs) ys
split_right b earlier [] ys x = (tt, subst (λ (os : List Outcome). AreRight b os ys) (sym (append-nil earlier)) x)
split_right b earlier (o ∷ xs) ys x =
    let r = split_right b (earlier ++ o ∷ []) xs ys x.1 in
    ((x.0, r.0), subst (λ (os : List Outcome). AreRight b os ys) (append_assoc earlier (o ∷ []) xs) r.1)

pub push_right : (b : BookState) (earlier xs : List Outcome) (o : Outcome) → AreRight b earlier xs → IsUnrefused b (earlier ++ xs) o → AreRight b earlier (xs ++ o ∷ [])
push_right b earlier [] o x r = (subst (λ (os : List Outcome). IsUnrefused b os o) (append-nil earlier) r, tt)
push_right b earlier (y ∷ xs) o x r =
    (x.0, push_right b (earlier ++ y ∷ []) xs o x.1 (subst (λ (os : List Outcome). IsUnrefused b os o) (sym (append_assoc earlier (y ∷ []) xs)) r))

-- ---- ranks

pub length-ranks : (n : ℕ) (outcomes : List Outcome) → length (ranks n outcomes) ≡ length outcomes
length-ranks n [] = refl
length-ranks n (o ∷ outcomes) = ap suc (length-ranks (n + length (entry_of o)) outcomes)

pub get_or-ranks : (n : ℕ) (outcomes : List Outcome) (i : ℕ) → i < length outcomes → get_or (ranks n outcomes) i 0 ≡ n + length (flat_map entry_of (take i outcomes))
get_or-ranks n [] i lt = absurd (omega arith)
get_or-ranks n (o ∷ outcomes) zero lt =
    let none : length (flat_map entry_of (take zero (o ∷ outcomes))) ≡ 0 = refl in
    let is : n ≡ n + length (flat_map entry_of (take zero (o ∷ outcomes))) = omega arith in
    is
get_or-ranks n (o ∷ outcomes) (suc i) lt =
    let rest = get_or-ranks (n + length (entry_of o)) outcomes i (omega arith) in
    let whole : length (flat_map entry_of (take (suc i) (o ∷ outcomes))) ≡ length (entry_of o) + length (flat_map entry_of (take i outcomes)) =
    length-append (entry_of o) (flat_map entry_of (take i outcomes))
    in
    let is : (n + length (entry_of o)) + length (flat_map entry_of (take i outcomes)) ≡ n + length (flat_map entry_of (take (suc i) (o ∷ outcomes))) = omega arith in
    rest ∙ is

-- ---- places of entries

-- an expansion of a batch is the entry of as many before it
entered_at : (batch : List Outcome) (i : ℕ) (r : Node) → expanded_node (slice_get batch i) ≡ Some r → option_and_then (λ e. Some (node_at e)) (slice_get (entered_by batch) (length (flat_map entry_of (take i batch)))) ≡ Some r
entered_at [] i r e = absurd (none-some r e)
entered_at (Expanded x ∷ batch) zero r e = e
entered_at (Expanded x ∷ batch) (suc i) r e = entered_at batch i r e
entered_at (Duplicate k by ∷ batch) zero r e = absurd (none-some r e)
entered_at (Duplicate k by ∷ batch) (suc i) r e = entered_at batch i r e
entered_at (Bounded k h ∷ batch) zero r e = absurd (none-some r e)
entered_at (Bounded k h ∷ batch) (suc i) r e = entered_at batch i r e

-- ---- a batch that is accepted

module _ (t : Task) (entries0 : List Kid) (marks0 : List Bool) (kept0 : IsBookKept (record { task = t; entries = entries0; marks = marks0 })) (batch : List Outcome) (free : first_refusal (record { task = t; entries = entries0; marks = marks0 }) [] batch ≡ None) (own : AllByRecursion (IsOutcomeOfTask t) batch) (room : length (all_settled (record { task = t; entries = entries0; marks = marks0 }) batch).entries < ROOT_PARENT) where
  abbrev before : BookState
  before = record { task = t; entries = entries0; marks = marks0 }

  abbrev after : BookState
  after = all_settled before batch

  follows : Follows t entries0 marks0 kept0 batch after.entries after.marks
  follows = batch_follows t entries0 marks0 kept0 [] batch entries0 marks0 (at_first t entries0 marks0 kept0) free own room

  task_after : after.task ≡ t
  task_after = batch_task t entries0 marks0 kept0 batch free own room

  tail_after : expansions after ≡ expansions before ++ follows.more
  tail_after = follows.tail

  pub grows : Grows before after
  grows = record {
    same_task = task_after;
    more = follows.more;
    tail = tail_after;
    longer = omega (arith, ap length (all_entries batch before), length-append entries0 (flat_map entry_of batch));
  }

  count : length (expansions before) ≡ length entries0
  count = length-plans_of entries0 (expansions before) kept0.named

  kept_after : IsBookKept after
  kept_after = accepted_kept before batch kept0 own free room

  -- the entry of an expansion of the batch
  entry_is :
      (i : ℕ) (r : Node) → expanded_node (slice_get batch i) ≡ Some r
      → option_and_then (exec after.task) (slice_get (expansions after) (length entries0 + length (flat_map entry_of (take i batch)))) ≡ Some r
  entry_is i r e =
      let j = length (flat_map entry_of (take i batch)) in
      ap (λ (u : Task). option_and_then (exec u) (slice_get (expansions after) (length entries0 + j))) task_after
      ∙ (ap (λ (xs : List (List ℕ)). option_and_then (exec t) (slice_get xs (length entries0 + j))) tail_after
      ∙ (ap (option_and_then (exec t)) (slice_get-append_right (expansions before) follows.more (length entries0 + j) j (omega (arith, count)))
      ∙ (then_at (exec t) follows.more j
      ∙ (ap (λ (xs : List (Option Node)). option_and_then (λ (o : Option Node). o) (slice_get xs j)) follows.leads
      ∙ (sym (then_at (λ e. Some (node_at e)) (entered_by batch) j)
      ∙ entered_at batch i r e)))))

  -- ---- what names an outcome, once the batch is numbered

  abbrev given : List ℕ
  given = ranks 0 batch

  abbrev renamed : Outcome → Outcome
  renamed o = outcome_numbered (length entries0) given o

  same_node : (os : List Outcome) (j : ℕ) → expanded_node (slice_get (map renamed os) j) ≡ expanded_node (slice_get os j)
  same_node [] j = refl
  same_node (Expanded e ∷ os) zero = refl
  same_node (Duplicate k by ∷ os) zero = refl
  same_node (Bounded k h ∷ os) zero = refl
  same_node (o ∷ os) (suc j) = same_node os j

  abbrev choice : ℕ → Bool → By
  choice i within = cond within (Entry (length entries0 + get_or given i 0)) (Here (i - length given))

  by_numbered : (earlier : List Outcome) (by : By) (r : Node) → node_by before (batch ++ earlier) by ≡ Some r → node_by after (map renamed earlier) (numbered (length entries0) given by) ≡ Some r
  by_numbered earlier (Entry n) r e = entry_stays before after grows n r e
  by_numbered earlier (Here i) r e =
      let len : length given ≡ length batch = length-ranks 0 batch in
      elim (cases_lt i (length batch)) [
        | inl lt ↦
            let rank : get_or given i 0 ≡ 0 + length (flat_map entry_of (take i batch)) = get_or-ranks 0 batch i lt in
            let same : length entries0 + get_or given i 0 ≡ length entries0 + length (flat_map entry_of (take i batch)) = omega arith in
            ap (λ (x : Bool). node_by after (map renamed earlier) (choice i x)) (lt-ltb i (length given) (omega arith))
            ∙ (ap (λ (m : ℕ). option_and_then (exec after.task) (slice_get (expansions after) m)) same
            ∙ entry_is i r (ap expanded_node (sym (slice_get-append_left batch earlier i lt)) ∙ e))
        | inr le ↦
            ap (λ (x : Bool). node_by after (map renamed earlier) (choice i x)) (le-ltb i (length given) (omega arith))
            ∙ (same_node earlier (i - length given)
            ∙ (ap expanded_node (sym (slice_get-append_right batch earlier i (i - length given) (omega arith))) ∙ e))
      ]

  right_numbered : (earlier : List Outcome) (o : Outcome) → IsUnrefused before (batch ++ earlier) o → IsUnrefused after (map renamed earlier) (renamed o)
  right_numbered earlier (Expanded e) x = let y = right_stays before after grows (batch ++ earlier) (Expanded e) x in record { of_task = y.of_task; known = y.known; posted = y.posted; unrefused = y.unrefused }
  right_numbered earlier (Duplicate k by) x = right_moves before after grows (batch ++ earlier) (map renamed earlier) by (numbered (length entries0) given by) k (by_numbered earlier by) x
  right_numbered earlier (Bounded k h) x = let y = right_stays before after grows (batch ++ earlier) (Bounded k h) x in record { of_task = y.of_task; known = y.known; posted = y.posted; unrefused = y.unrefused }

  pub all_numbered : (earlier later : List Outcome) → AreRight before (batch ++ earlier) later → AreRight after (map renamed earlier) (map renamed later)
  all_numbered earlier [] x = tt
  all_numbered earlier (o ∷ later) x = (
    right_numbered earlier o x.0,
    subst (λ (os : List Outcome). AreRight after os (map renamed later)) (map-append renamed earlier (o ∷ []))
        (all_numbered (earlier ++ o ∷ []) later (subst (λ (os : List Outcome). AreRight before os later) (append_assoc batch earlier (o ∷ [])) x.1)),
  )

  pub closed_after : (rest : List Outcome) (c : Closed) → IsClosedBy before (batch ++ rest) c → IsClosedBy after (map renamed rest) (closed_numbered (length entries0) given c)
  closed_after rest c x = by_numbered rest c.by (node c.state c.cost) x

  -- ---- what the batch releases

  count_after : length (expansions after) ≡ length after.entries
  count_after = length-plans_of after.entries (expansions after) kept_after.named

  or_right : (x y : Bool) → y ≡ true → (x || y) ≡ true
  or_right true y e = refl
  or_right false y e = e

  -- a successor of an entry
  kid_true :
      (front behind : List (List ℕ)) (p : List ℕ) (r : Node) (c : ChildView) → expansions after ≡ front ++ p ∷ behind → exec t p ≡ Some r → Contains (children_at t r) c
      → IsTrueParcel after (released_from (length front) c)
  kid_true front behind p r c is leads among =
      let expanded = expansions after in
      let n = length front in
      let lt : n < length expanded = omega (arith, ap length is, length-append front (p ∷ behind)) in
      let short : length expanded < ROOT_PARENT = omega (arith, count_after, room) in
      let at : get_or expanded n [] ≡ p = ap (λ (xs : List (List ℕ)). get_or xs n []) is ∙ get_or-append_seam front p behind [] in
      let step = children_step t r c among in
      let plan = plan_of-kid expanded n c.action p lt short at in
      let named : Contains (applicable_at t (exec t p)) c.action =
      subst (λ (xs : List ℕ). Contains xs c.action) (children-actions t r ∙ ap (applicable_at t) (sym leads)) (Contains-map (λ (c : ChildView). c.action) (children_at t r) c among)
      in
      let its : Contains (kids_of n (applicable_at t (exec t p))) (kid_from n c.action) = Contains-map (kid_from n) (applicable_at t (exec t p)) c.action named in
      let posted : Contains (kids_from t n (p ∷ behind)) (kid_from n c.action) = Contains-append_left (kids_of n (applicable_at t (exec t p))) (kids_from t (n + 1) behind) (kid_from n c.action) its in
      let whole : Contains (posted_by t expanded) (kid_from n c.action) =
      subst (λ (ks : List Kid). Contains ks (kid_from n c.action)) (sym (ap (posted_by t) is ∙ posted_by-append t front (p ∷ behind)))
      (Contains-append_right (posted_by t front) (kids_from t n (p ∷ behind)) (kid_from n c.action) posted)
      in
      record {
        known = or_right (same_kid (kid_from n c.action) root) (nat_lt n (length after.entries)) (lt-ltb n (length after.entries) (omega (arith, count_after)));
        posted =
            nat_lt-position_or_len (same_kid (kid_from n c.action)) (posted_by after.task expanded)
            ∙ (ap (λ (u : Task). list_any (same_kid (kid_from n c.action)) (posted_by u expanded)) task_after
            ∙ list_any-from_contains (same_kid (kid_from n c.action)) (posted_by t expanded) (kid_from n c.action) whole (same_kid-refl (kid_from n c.action)));
        leads =
            ap (option_and_then (exec after.task)) plan
            ∙ (ap (λ (u : Task). exec u (followed_by p c.action)) task_after
            ∙ (exec-push t p r c.action leads ∙ step.leads));
      }

  children_true :
      (front behind : List (List ℕ)) (p : List ℕ) (r : Node) (cs : List ChildView) → expansions after ≡ front ++ p ∷ behind → exec t p ≡ Some r → ((c : ChildView) → Contains cs c → Contains (children_at t r) c)
      → AllByRecursion (IsTrueParcel after) (map (released_from (length front)) cs)
  children_true front behind p r [] is leads among = tt
  children_true front behind p r (c ∷ cs) is leads among =
      (kid_true front behind p r c is leads (among c (Contains-first c cs)), children_true front behind p r cs is leads (λ x m. among x (Contains-later c cs x m)))

  released_true :
      (front rest : List (List ℕ)) (os : List Outcome) (n : ℕ) → n ≡ length front → expansions after ≡ front ++ rest → map (exec t) rest ≡ map (λ e. Some (node_at e)) (entered_by os) → AllByRecursion (IsOutcomeOfTask t) os
      → AllByRecursion (IsTrueParcel after) (released_by n os)
  released_true front rest [] n en is leads own = tt
  released_true front rest (Duplicate k by ∷ os) n en is leads own = released_true front rest os (n + 0) (omega arith) is leads own.1
  released_true front rest (Bounded k h ∷ os) n en is leads own = released_true front rest os (n + 0) (omega arith) is leads own.1
  released_true front [] (Expanded e ∷ os) n en is leads own = absurd (cc)
  released_true front (p ∷ rest) (Expanded e ∷ os) n en is leads own =
      let r = node e.state e.cost in
      let parts = cons_parts (exec t p) (Some r) (map (exec t) rest) (map (λ e. Some (node_at e)) (entered_by os)) leads in
      let its : e.children ≡ children_at t r = e.all_children ∙ ap (λ (u : Task). children_at u r) own.0 in
      AllByRecursion-append (IsTrueParcel after) (map (released_from n) e.children) (released_by (n + 1) os)
      (subst (λ (m : ℕ). AllByRecursion (IsTrueParcel after) (map (released_from m) e.children)) (sym en)
      (children_true front rest p r e.children is parts.0 (λ c m. subst (λ (cs : List ChildView). Contains cs c) its m)))
      (released_true (front ++ p ∷ []) rest os (n + 1) (omega (arith, length-append front (p ∷ []))) (is ∙ sym (append_assoc front (p ∷ []) rest)) parts.1 own.1)

  pub all_released : AllByRecursion (IsTrueParcel after) (released_by (length entries0) batch)
  all_released = released_true (expansions before) follows.more batch (length entries0) (sym count) tail_after follows.leads own
