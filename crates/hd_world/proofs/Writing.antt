-- What entries of a legal list are made of can be written.
use Rattle.std.proofs.Common.{◌≡◌, ◌⊎◌, inl, inr, ℕ, zero, suc, ◌+◌, ◌^◌, ◌<◌, ◌≤◌, ◌==◌, ◌||◌, nat_lt, nat_le, ◌&&◌, Bool, true, false, cond, not, Option, Some, None, List, [], ◌∷◌, ◌++◌, length, true≢false, refl, sym, ap, ◌∙◌, arith, length-append}
use Rattle.std.specs.Prelude.{option_map}
use Rattle.std.specs.List.{list_any, list_all, range_with_len, AllByRecursion}
use Rattle.std.proofs.lemmas.Bool.{and_parts, and_from, ltb-true, lt-ltb, leb-true, eq-eqb}
use Rattle.std.proofs.lemmas.Option.{none-some}
use Rattle.std.proofs.lemmas.List.Folds.{list_any-append}
use Rattle.hd_base.proofs.Options.{option_or_none}
use Rattle.hd_base.proofs.Tests.{list_any-map}
use Rattle.hd_task.specs.declared.task.Task.{Task}
use Rattle.hd_task.specs.declared.task.TheConstants.{MAX_ACTIONS, MAX_ATOMS, MAX_FLUENTS}
use Rattle.hd_task.specs.declared.plan.Kid.{Kid}
use Rattle.hd_task.specs.declared.plan.TheConstants.{ROOT_PARENT, ROOT_ACTION}
use Rattle.hd_task.specs.Plans.{exec}
use Rattle.hd_task.specs.Expansions.{is_applicable, applicable_at}
use Rattle.hd_tables.specs.Kids.{root, kid_from, same_kid}
use Rattle.hd_image.specs.declared.version.Version.{Version}
use Rattle.hd_image.specs.Image.{HasBytes, fits_parent, most_of}
use Rattle.hd_entries.specs.declared.refusal.Refusal.{Refusal}
use Rattle.hd_entries.specs.declared.refusal.Refusal.TheVariants.{UnknownParent, NotAKid, SettledBefore}
use Rattle.hd_entries.specs.Kids.{kids_of, kids_from, posted_by}
use Rattle.hd_entries.specs.Settling.{BookState, IsBookKept, expansions}
use Rattle.hd_entries.specs.Holding.{plans_at}
use Rattle.hd_entries.specs.Resuming.{has, fault_at, first_fault}
use Rattle.hd_entries.proofs.Accepting.{same_kid-true}
use Rattle.hd_entries.proofs.Faultless.{no_faults}
use Rattle.hd_turns.proofs.Lists.{AllByRecursion-filter}

-- a successor whose parent is the root's, or the number of an entry, and whose action fits four
-- bytes
pub record IsWritable (count : ℕ) (k : Kid) : Type 0 where
  pub parent : (k.parent ≡ ROOT_PARENT) ⊎ (k.parent < count)
  pub action : k.action < 2 ^ 32

-- ---- actions

below : (a n m : ℕ) → a + n ≤ m → AllByRecursion (λ k. k < m) (range_with_len a n)
below a zero m le = tt
below a (suc n) m le = (omega (arith, le), below (a + 1) n m (omega (arith, le)))

-- the successor of an action among some
action_among : (k : Kid) (n m : ℕ) (actions : List ℕ) → AllByRecursion (λ a. a < m) actions → list_any (λ a. same_kid k (kid_from n a)) actions ≡ true → k.action < m
action_among k n m [] all e = absurd (true≢false (sym e))
action_among k n m (a ∷ actions) all e =
    elim (same_kid k (kid_from n a)) as (λ b. same_kid k (kid_from n a) ≡ b → (b || list_any (λ a. same_kid k (kid_from n a)) actions) ≡ true → k.action < m) [
      | true ↦ λ same _. let is : k.action ≡ a = ap (λ (q : Kid). q.action) (same_kid-true k (kid_from n a) same) in let lt : a < m = all.0 in omega (arith, is, lt)
      | false ↦ λ _ e. action_among k n m actions all.1 e
    ] refl e

action_from : (t : Task) (k : Kid) (n : ℕ) (expanded : List (List ℕ)) → list_any (same_kid k) (kids_from t n expanded) ≡ true → k.action < length t.actions
unfolding applicable_at
action_from t k n [] e = absurd (true≢false (sym e))
action_from t k n (p ∷ expanded) e =
    let actions = applicable_at t (exec t p) in
    let whole : (list_any (same_kid k) (kids_of n actions) || list_any (same_kid k) (kids_from t (n + 1) expanded)) ≡ true =
    sym (list_any-append (same_kid k) (kids_of n actions) (kids_from t (n + 1) expanded)) ∙ e
    in
    elim (list_any (same_kid k) (kids_of n actions)) as (λ b. list_any (same_kid k) (kids_of n actions) ≡ b → (b || list_any (same_kid k) (kids_from t (n + 1) expanded)) ≡ true → k.action < length t.actions) [
      | true ↦ λ is _.
          action_among k n (length t.actions) actions
          (AllByRecursion-filter (λ a. a < length t.actions) (is_applicable t (exec t p)) (range_with_len 0 (length t.actions)) (below 0 (length t.actions) (length t.actions) (omega arith)))
          (sym (list_any-map (same_kid k) (kid_from n) actions) ∙ is)
      | false ↦ λ _ e. action_from t k (n + 1) expanded e
    ] refl whole

-- a task has few actions
few_actions : (t : Task) → length t.actions ≤ MAX_ACTIONS
few_actions t =
    let parts = and_parts (nat_le (length t.atoms) MAX_ATOMS && nat_le (length t.fluents) MAX_FLUENTS) (nat_le (length t.actions) MAX_ACTIONS) t.limits in
    leb-true (length t.actions) MAX_ACTIONS parts.1

-- ---- entries

parts_of : (known posted again : Bool) → cond (not known) (Some UnknownParent) (cond (not posted) (Some NotAKid) (cond again (Some SettledBefore) None)) ≡ None → (known ≡ true) × (posted ≡ true)
parts_of false posted again e = absurd (none-some UnknownParent (sym e))
parts_of true false again e = absurd (none-some NotAKid (sym e))
parts_of true true again e = (refl, refl)

no_fault : (n : ℕ) (o : Option Refusal) → option_map {U = ℕ × Refusal} (λ (r : Refusal). (n, r)) o ≡ None → o ≡ None
no_fault n None e = refl
no_fault n (Some r) e = absurd (none-some (n, r) (sym e))

entry_writable : (t : Task) (before : List Kid) (k : Kid) (count : ℕ) → fault_at t before k ≡ None → length before ≤ count → IsWritable count k
entry_writable t before k count e few =
    let is = parts_of (same_kid k root || nat_lt k.parent (length before)) (has (posted_by t (plans_at before)) k) (has before k) e in
    elim (same_kid k root) as (λ b. same_kid k root ≡ b → (b || nat_lt k.parent (length before)) ≡ true → (b || list_any (same_kid k) (kids_from t 0 (plans_at before))) ≡ true → IsWritable count k) [
      | true ↦ λ same _ _.
          let its = same_kid-true k root same in
          let action : k.action ≡ ROOT_ACTION = ap (λ (q : Kid). q.action) its in
          record { parent = inl (ap (λ (q : Kid). q.parent) its); action = omega (arith, action) }
      | false ↦ λ _ known posted.
          let parent : k.parent < length before = ltb-true k.parent (length before) known in
          let action : k.action < length t.actions = action_from t k 0 (plans_at before) posted in
          record { parent = inr (omega (arith, parent, few)); action = omega (arith, action, few_actions t) }
    ] refl is.0 is.1

writable_from : (t : Task) (before later : List Kid) (count : ℕ) → first_fault t before later ≡ None → length before + length later ≤ count → AllByRecursion (IsWritable count) later
writable_from t before [] count e few = tt
writable_from t before (k ∷ later) count e few =
    let both = option_or_none (option_map (λ (r : Refusal). (length before, r)) (fault_at t before k)) (first_fault t (before ++ k ∷ []) later) e in (
      entry_writable t before k count (no_fault (length before) (fault_at t before k) both.0) (omega (arith, few)),
      writable_from t (before ++ k ∷ []) later count both.1 (omega (arith, few, length-append before (k ∷ []))),
    )

-- the entries of a kept book have no fault
pub kept_faultless : (b : BookState) → IsBookKept b → first_fault b.task [] b.entries ≡ None
kept_faultless b kept = no_faults b.task b.entries [] (expansions b) refl kept.named kept.marked.legal

pub kept_writable : (b : BookState) → IsBookKept b → AllByRecursion (IsWritable (length b.entries)) b.entries
kept_writable b kept = writable_from b.task [] b.entries (length b.entries) (kept_faultless b kept) (omega arith)

-- ---- what can be written

pub all_fit : (v : Version) (count : ℕ) (kids : List Kid) → count ≤ most_of v → AllByRecursion (IsWritable count) kids → list_all (λ (k : Kid). fits_parent v k.parent) kids ≡ true
all_fit v count [] few all = refl
all_fit v count (k ∷ kids) few all =
    and_from (fits_parent v k.parent) (list_all (λ (k : Kid). fits_parent v k.parent) kids)
    (elim all.0.parent [
      | inl e ↦ ap (λ y. y || nat_lt k.parent (most_of v)) (eq-eqb k.parent ROOT_PARENT e)
      | inr lt ↦ or_right (k.parent == ROOT_PARENT) (nat_lt k.parent (most_of v)) (lt-ltb k.parent (most_of v) (omega (arith, lt, few)))
    ])
    (all_fit v count kids few all.1)
  where
    or_right : (x y : Bool) → y ≡ true → (x || y) ≡ true
    or_right true y e = refl
    or_right false y e = e

pub all_held : (v : Version) (count : ℕ) (kids : List Kid) → count ≤ most_of v → AllByRecursion (IsWritable count) kids → AllByRecursion (HasBytes v) kids
all_held v count [] few all = tt
all_held v count (k ∷ kids) few all = (
  record {
    parent = elim all.0.parent [ inl e ↦ inl e | inr lt ↦ inr (omega (arith, lt, few)) ];
    action = all.0.action;
  },
  all_held v count kids few all.1,
)
