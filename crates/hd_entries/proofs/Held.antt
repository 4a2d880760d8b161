-- What the parts of a book say of a successor: whether it is posted, and where it leads.
use Rattle.std.proofs.Common.{◌≡◌, ◌≢◌, ℕ, zero, suc, ◌+◌, ◌-◌, ◌<◌, ◌≤◌, ◌==◌, nat_lt, Bool, true, false, cond, not, ◌&&◌, ◌||◌, Option, Some, None, is_some, List, [], ◌∷◌, filter, length, get_or, slice_get, ◌⊎◌, inl, inr, refl, sym, ap, ap₂, ◌∙◌, subst, arith, true≢false}
use Rattle.std.specs.Prelude.{option_and_then}
use Rattle.std.specs.List.{list_any, range_with_len}
use Rattle.std.proofs.lemmas.Bool.{cases_eq, and_parts, eq-eqb, ne_eqb, ltb-true}
use Rattle.std.proofs.lemmas.Option.{none-some, slice_get-get_or, slice_get_past, slice_get_within, get_or_from_slice_get}
use Rattle.std.proofs.lemmas.List.{get_or-map, length-map}
use Rattle.std.proofs.lemmas.List.Folds.{list_any-append, list_any_none}
use Rattle.std.proofs.lemmas.List.Elements.{Contains-get_or}
use Rattle.hd_base.proofs.Members.{Contains-filter, Contains-range_with_len, passes-from_filter}
use Rattle.hd_base.proofs.Tests.{nat_lt-position_or_len, list_any-from_contains}
use Rattle.hd_base.proofs.Truth.{or-false}
use Rattle.hd_task.specs.declared.task.Task.{Task}
use Rattle.hd_task.specs.declared.plan.Kid.{Kid}
use Rattle.hd_task.specs.declared.plan.TheConstants.{ROOT_PARENT, ROOT_ACTION}
use Rattle.hd_task.specs.Plans.{Node, IsStateOf, step_by, start, exec, node}
use Rattle.hd_task.specs.Departures.{action_departs}
use Rattle.hd_task.specs.Expansions.{is_applicable, applicable_at}
use Rattle.hd_task.proofs.Runs.{exec-push, exec-state, step_within}
use Rattle.hd_entries.specs.declared.entry.ExpandedPlan.{ExpandedPlan}
use Rattle.hd_entries.specs.declared.expanded.ExpandedPlans.{ExpandedPlans}
use Rattle.hd_entries.specs.declared.refusal.Refusal.{Refusal}
use Rattle.hd_entries.specs.declared.refusal.Refusal.TheVariants.{UnknownParent, NotAKid, SettledBefore}
use Rattle.hd_tables.specs.Kids.{root, same_kid}
use Rattle.hd_entries.specs.Kids.{kids_of, kids_from, posted_by}
use Rattle.hd_entries.specs.Settling.{expansions, knows_parent, is_posted, node_of}
use Rattle.hd_entries.specs.Holding.{successor_at_entry, node_at, unmarked, IsExpanded}
use Rattle.hd_entries.proofs.Accepting.{same_kid-true}
use Rattle.hd_entries.proofs.Naming.{plan_of-kid}

-- ---- the successors of an entry

any_of : (k : Kid) (n : ℕ) (actions : List ℕ) → k.parent ≡ n → list_any (same_kid k) (kids_of n actions) ≡ list_any (λ a. k.action == a) actions
any_of k n [] e = refl
any_of k n (a ∷ actions) e =
    ap₂ (λ x y. x || y) (ap (λ b. b && (k.action == a)) (eq-eqb k.parent n e)) (any_of k n actions e)

none_of : (k : Kid) (n : ℕ) (actions : List ℕ) → k.parent ≢ n → list_any (same_kid k) (kids_of n actions) ≡ false
none_of k n [] ne = refl
none_of k n (a ∷ actions) ne =
    ap₂ (λ x y. x || y) (ap (λ b. b && (k.action == a)) (ne_eqb k.parent n ne)) (none_of k n actions ne)

-- the successors of entries that are numbered from a greater number on are others
pub none_below : (t : Task) (k : Kid) (n : ℕ) (expanded : List (List ℕ)) → k.parent < n → list_any (same_kid k) (kids_from t n expanded) ≡ false
none_below t k n [] lt = refl
none_below t k n (p ∷ expanded) lt =
    list_any-append (same_kid k) (kids_of n (applicable_at t (exec t p))) (kids_from t (n + 1) expanded)
    ∙ ap₂ (λ x y. x || y) (none_of k n (applicable_at t (exec t p)) (λ e. omega arith)) (none_below t k (n + 1) expanded (omega arith))

-- and so are those of entries up to it
pub none_above : (t : Task) (k : Kid) (n : ℕ) (expanded : List (List ℕ)) → n + length expanded ≤ k.parent → list_any (same_kid k) (kids_from t n expanded) ≡ false
none_above t k n [] le = refl
none_above t k n (p ∷ expanded) le =
    list_any-append (same_kid k) (kids_of n (applicable_at t (exec t p))) (kids_from t (n + 1) expanded)
    ∙ ap₂ (λ x y. x || y) (none_of k n (applicable_at t (exec t p)) (λ e. omega arith)) (none_above t k (n + 1) expanded (omega arith))

pub at_entry : (t : Task) (k : Kid) (n : ℕ) (expanded : List (List ℕ)) → n ≤ k.parent → k.parent < n + length expanded → list_any (same_kid k) (kids_from t n expanded) ≡ list_any (λ a. k.action == a) (applicable_at t (exec t (get_or expanded (k.parent - n) [])))
at_entry t k n [] le lt = absurd (omega arith)
at_entry t k n (p ∷ expanded) le lt =
    let whole = list_any-append (same_kid k) (kids_of n (applicable_at t (exec t p))) (kids_from t (n + 1) expanded) in
    elim (cases_eq k.parent n) [
      | inl e ↦
          let first : k.parent - n ≡ 0 = omega arith in
          whole
          ∙ (ap₂ (λ x y. x || y) (any_of k n (applicable_at t (exec t p)) e) (none_below t k (n + 1) expanded (omega arith))
          ∙ (or-false (list_any (λ a. k.action == a) (applicable_at t (exec t p)))
          ∙ ap (λ i. list_any (λ a. k.action == a) (applicable_at t (exec t (get_or (p ∷ expanded) i [])))) (sym first)))
      | inr ne ↦
          let next : k.parent - n ≡ suc (k.parent - (n + 1)) = omega arith in
          whole
          ∙ (ap₂ (λ x y. x || y) (none_of k n (applicable_at t (exec t p)) ne) (at_entry t k (n + 1) expanded (omega arith) (omega arith))
          ∙ ap (λ i. list_any (λ a. k.action == a) (applicable_at t (exec t (get_or (p ∷ expanded) i [])))) (sym next))
    ]

-- ---- actions

some_within : (t : Task) (r : Node) (n : ℕ) (o : Option Node) → step_by t r n ≡ o → is_some o ≡ true → n < length t.actions
some_within t r n None e d = absurd (true≢false (sym d))
some_within t r n (Some to) e d = step_within t r n to e

-- an applicable action is one of the task's
pub applicable_within : (t : Task) (r : Node) (n : ℕ) → is_applicable t (Some r) n ≡ true → n < length t.actions
applicable_within t r n e = some_within t r n (step_by t r n) refl (and_parts (is_some (step_by t r n)) (not (action_departs t r n)) e).0

-- an action is among the applicable ones exactly where it is applicable
applicable-any : (t : Task) (r : Node) (a : ℕ) → list_any (λ b. a == b) (applicable_at t (Some r)) ≡ is_applicable t (Some r) a
unfolding applicable_at
applicable-any t r a =
    elim (is_applicable t (Some r) a) as (λ b. is_applicable t (Some r) a ≡ b → list_any (λ b. a == b) (filter (is_applicable t (Some r)) (range_with_len 0 (length t.actions))) ≡ b) [
      | true ↦ λ e.
          let lt = applicable_within t r a e in
          list_any-from_contains (λ b. a == b) (filter (is_applicable t (Some r)) (range_with_len 0 (length t.actions))) a
          (Contains-filter (is_applicable t (Some r)) (range_with_len 0 (length t.actions)) a (Contains-range_with_len (length t.actions) a lt) e)
          (eq-eqb a a refl)
      | false ↦ λ e.
          list_any_none (λ b. a == b) (filter (is_applicable t (Some r)) (range_with_len 0 (length t.actions)))
          (λ i d lt.
          let xs = filter (is_applicable t (Some r)) (range_with_len 0 (length t.actions)) in
          ne_eqb a (get_or xs i d) (λ same.
          true≢false (sym (subst (λ x. is_applicable t (Some r) x ≡ true) (sym same)
          (passes-from_filter (is_applicable t (Some r)) (range_with_len 0 (length t.actions)) (get_or xs i d) (Contains-get_or xs i d lt))) ∙ e)))
    ] refl

-- ---- a book

module _ (x : ExpandedPlans) (h : IsExpanded x) where
  abbrev t : Task
  t = x.task.now

  abbrev E : List (List ℕ)
  E = expansions (unmarked x)

  pub count : length E ≡ length x.entries.items
  count =
      sym (length-map E (exec t))
      ∙ (ap length h.nodes ∙ length-map x.entries.items (λ e. Some (node_at e)))

  pub short : length E < ROOT_PARENT
  short = omega (arith, h.short, count)

  runs : (n : ℕ) (e d : ExpandedPlan) → n < length x.entries.items → e ≡ get_or x.entries.items n d → exec t (get_or E n []) ≡ Some (node_at e)
  runs n e d lt is =
      let lt' : n < length E = omega (arith, count) in
      sym (get_or-map (exec t) E n [] None lt')
      ∙ (ap (λ xs. get_or xs n None) h.nodes
      ∙ (get_or-map (λ e. Some (node_at e)) x.entries.items n d None lt ∙ ap (λ x. Some (node_at x)) (sym is)))

  -- the node of an entry
  pub entry_node : (n : ℕ) (e d : ExpandedPlan) → n < length x.entries.items → e ≡ get_or x.entries.items n d → option_and_then (exec t) (slice_get E n) ≡ Some (node_at e)
  entry_node n e d lt is =
      let lt' : n < length E = omega (arith, count) in
      ap (option_and_then (exec t)) (slice_get-get_or E n [] lt') ∙ runs n e d lt is

  pub entry_found : (n : ℕ) (e : ExpandedPlan) → slice_get x.entries.items n ≡ Some e → option_and_then (exec t) (slice_get E n) ≡ Some (node_at e)
  entry_found n e at = entry_node n e e (slice_get_within x.entries.items n e at) (sym (get_or_from_slice_get x.entries.items n e e at))

  pub entry_missing : (n : ℕ) → slice_get x.entries.items n ≡ None → option_and_then (exec t) (slice_get E n) ≡ None
  entry_missing n none =
      ap (option_and_then (exec t)) (elim (slice_get E n) as (λ o. slice_get E n ≡ o → o ≡ None) [
        | None ↦ λ _. refl
        | Some p ↦ λ at.
            let lt : n < length x.entries.items = omega (arith, count, slice_get_within E n p at) in
            absurd (lost x.entries.items n lt none)
      ] refl)
    where
      lost : (es : List ExpandedPlan) (n : ℕ) → n < length es → slice_get es n ≡ None → ⊥
      lost [] n lt e = omega (arith, lt)
      lost (e ∷ es) zero lt is = none-some e (sym is)
      lost (e ∷ es) (suc n) lt is = lost es n (omega (arith, lt)) is

  pub no_entry : (n : ℕ) → length x.entries.items ≤ n → option_and_then (exec t) (slice_get E n) ≡ None
  no_entry n le = ap (option_and_then (exec t)) (slice_get_past E n (omega (arith, count)))

  pub entry_state : (n : ℕ) (e d : ExpandedPlan) → n < length x.entries.items → e ≡ get_or x.entries.items n d → IsStateOf t e.state
  entry_state n e d lt is = exec-state t (get_or E n []) (node_at e) (runs n e d lt is)

  pub posted-any : (k : Kid) → is_posted (unmarked x) k ≡ list_any (same_kid k) (posted_by t E)
  posted-any k = nat_lt-position_or_len (same_kid k) (posted_by t E)

  -- a successor of an entry is posted where its action is applicable
  pub entry_posted : (k : Kid) (e d : ExpandedPlan) → k.parent < length x.entries.items → e ≡ get_or x.entries.items k.parent d → is_applicable t (Some (node_at e)) k.action ≡ is_posted (unmarked x) k
  entry_posted k e d lt is =
      let lt' : k.parent < length E = omega (arith, count) in
      let other : same_kid k root ≡ false = ap (λ b. b && (k.action == ROOT_ACTION)) (ne_eqb k.parent ROOT_PARENT (λ e. omega (arith, short))) in
      let first : k.parent - 0 ≡ k.parent = omega arith in
      sym (applicable-any t (node_at e) k.action)
      ∙ (ap (λ r. list_any (λ a. k.action == a) (applicable_at t r)) (sym (runs k.parent e d lt is))
      ∙ (ap (λ i. list_any (λ a. k.action == a) (applicable_at t (exec t (get_or E i [])))) (sym first)
      ∙ (sym (at_entry t k 0 E (omega arith) (omega arith))
      ∙ (ap (λ b. b || list_any (same_kid k) (kids_from t 0 E)) (sym other) ∙ sym (posted-any k)))))

  -- and leads where the action's step does
  pub entry_leads : (k : Kid) (e d : ExpandedPlan) (to : Node) → k.parent < length x.entries.items → e ≡ get_or x.entries.items k.parent d → step_by t (node_at e) k.action ≡ Some to → node_of (unmarked x) k ≡ Some to
  entry_leads k e d to lt is at =
      let lt' : k.parent < length E = omega (arith, count) in
      let r = node_at e in
      ap (option_and_then (exec t)) (plan_of-kid E k.parent k.action (get_or E k.parent []) lt' short refl)
      ∙ (exec-push t (get_or E k.parent []) r k.action (runs k.parent e d lt is) ∙ at)

  -- a successor whose parent is known is the root, or of an entry
  pub parent_known : (k : Kid) → knows_parent (unmarked x) k ≡ true → (same_kid k root ≡ true) ⊎ (k.parent < length x.entries.items)
  parent_known k e =
      elim (same_kid k root) as (λ b. (b || nat_lt k.parent (length (unmarked x).entries)) ≡ true → (b ≡ true) ⊎ (k.parent < length x.entries.items)) [
        | true ↦ λ e. inl refl
        | false ↦ λ e. inr (omega (arith, ltb-true k.parent (length (unmarked x).entries) e, length-map x.entries.items successor_at_entry))
      ] e

  pub root_kid : (k : Kid) → knows_parent (unmarked x) k ≡ true → k.parent ≡ ROOT_PARENT → same_kid k root ≡ true
  root_kid k e is =
      elim (parent_known k e) [
        | inl same ↦ same
        | inr lt ↦ absurd (omega (arith, short, count))
      ]

  pub entry_kid : (k : Kid) → knows_parent (unmarked x) k ≡ true → k.parent ≢ ROOT_PARENT → k.parent < length x.entries.items
  entry_kid k e ne =
      elim (parent_known k e) [
        | inl same ↦ absurd (ne (ap (λ (q : Kid). q.parent) (same_kid-true k root same)))
        | inr lt ↦ lt
      ]

  pub root_leads : (k : Kid) → same_kid k root ≡ true → node_of (unmarked x) k ≡ Some (node t.initial 0)
  unfolding start
  root_leads k e = ap (node_of (unmarked x)) (same_kid-true k root e)

  -- the root is posted, and leads to the start
  pub root_posted : (k : Kid) → same_kid k root ≡ true → is_posted (unmarked x) k ≡ true
  root_posted k e = posted-any k ∙ ap (λ b. b || list_any (same_kid k) (kids_from t 0 E)) e

-- ---- the order of refusals

pub late : (known posted settled : Bool) (why : Option Refusal) → known ≡ true → posted ≡ true → settled ≡ false → why ≡ cond (not known) (Some UnknownParent) (cond (not posted) (Some NotAKid) (cond settled (Some SettledBefore) why))
late true true false why k p m = refl
late true true true why k p m = absurd (true≢false m)
late true false settled why k p m = absurd (true≢false (sym p))
late false posted settled why k p m = absurd (true≢false (sym k))

pub settled_before : (known posted settled : Bool) (why : Option Refusal) → known ≡ true → posted ≡ true → settled ≡ true → Some SettledBefore ≡ cond (not known) (Some UnknownParent) (cond (not posted) (Some NotAKid) (cond settled (Some SettledBefore) why))
settled_before true true true why k p m = refl
settled_before true true false why k p m = absurd (true≢false (sym m))
settled_before true false settled why k p m = absurd (true≢false (sym p))
settled_before false posted settled why k p m = absurd (true≢false (sym k))
