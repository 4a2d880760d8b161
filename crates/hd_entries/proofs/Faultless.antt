-- Entries without a fault are those of a legal list.
use Rattle.std.proofs.Common.{◌≡◌, ℕ, ◌+◌, ◌-◌, ◌<◌, ◌==◌, nat_lt, Bool, true, false, cond, not, ◌&&◌, ◌||◌, Option, Some, None, List, [], ◌∷◌, ◌++◌, fold, take, drop, length, get_or, slice_get, Contains, inl, inr, refl, sym, ap, ◌∙◌, subst, subst₂, arith, length-append, append_assoc, append-nil, true≢false}
use Rattle.std.specs.Prelude.{flat_map, option_and_then, option_map, unwrap_or}
use Rattle.std.specs.List.{list_any}
use Rattle.std.specs.Option.{option_or}
use Rattle.std.proofs.Math.Seq.{take-append_seam}
use Rattle.std.proofs.lemmas.Bool.{cases_eq, cond-true, eq-eqb, lt-ltb}
use Rattle.std.proofs.lemmas.Option.{none-some, same_Some}
use Rattle.std.proofs.lemmas.List.{get_or_at, same_from_push, take-append-drop}
use Rattle.std.proofs.lemmas.List.Elements.{Contains-get_or}
use Rattle.hd_base.proofs.Lists.{push_not_nil}
use Rattle.hd_base.proofs.Members.{Contains-cons_cases, Contains-from_flat_map, IsFrom-from_map}
use Rattle.hd_base.proofs.Options.{option_or_none}
use Rattle.std.specs.List.{position_or_len}
use Rattle.std.proofs.lemmas.List.Sums.{fold-append, passes_at_first}
use Rattle.hd_base.proofs.Tests.{list_any-from_contains, position_or_len-lt}
use Rattle.hd_task.specs.declared.task.Task.{Task}
use Rattle.hd_task.specs.declared.plan.Kid.{Kid}
use Rattle.hd_task.specs.declared.plan.TheConstants.{ROOT_PARENT, ROOT_ACTION}
use Rattle.hd_task.specs.Plans.{exec}
use Rattle.hd_task.specs.Expansions.{applicable_at, followed_by, children, IsNext, IsLegal}
use Rattle.hd_task.specs.Entries.{plan_from, plan_of, plans_of, with_entry}
use Rattle.hd_tables.specs.Kids.{root, same_kid}
use Rattle.hd_entries.specs.declared.refusal.Refusal.{Refusal}
use Rattle.hd_entries.specs.declared.refusal.Refusal.TheVariants.{UnknownParent, NotAKid, SettledBefore}
use Rattle.hd_entries.specs.Kids.{kids_from, posted_by}
use Rattle.hd_entries.specs.Settling.{IsBookKept, knows_parent, is_posted, is_marked}
use Rattle.hd_entries.specs.Holding.{plans_at}
use Rattle.hd_entries.specs.Resuming.{has, fault_at, first_fault, resumed_state, AreLegal}
use Rattle.hd_entries.proofs.Accepting.{accepted, same_kid-true}
use Rattle.hd_entries.proofs.Again.{fault_is, kept_now}
use Rattle.hd_entries.proofs.Held.{at_entry}
use Rattle.hd_entries.proofs.Naming.{plans_of-push, length-plans_of}
use Rattle.hd_entries.proofs.Entering.{plan_of-grows}
use Rattle.hd_entries.proofs.Walking.{goes_on, named_at, parent_names}

-- ---- without a fault, legal

unmapped : {X Y : Type 0} (f : X → Y) (o : Option X) → option_map f o ≡ None → o ≡ None
unmapped f None e = refl
unmapped f (Some x) e = absurd (none-some (f x) (sym e))

pub kept_from : (t : Task) (later before : List Kid) → IsBookKept (resumed_state t before) → length before + length later < ROOT_PARENT → first_fault t before later ≡ None → IsBookKept (resumed_state t (before ++ later))
kept_from t [] before kept short free = subst (λ (ks : List Kid). IsBookKept (resumed_state t ks)) (sym (append-nil before)) kept
kept_from t (k ∷ later) before kept short free =
    let b = resumed_state t before in
    let parts = option_or_none (option_map (λ (r : Refusal). (length before, r)) (fault_at t before k)) (first_fault t (before ++ k ∷ []) later) free in
    let none : fault_at t before k ≡ None = unmapped (λ (r : Refusal). (length before, r)) (fault_at t before k) parts.0 in
    let a = accepted (knows_parent b k) (is_posted b k) (is_marked b k) None (sym (fault_is t before kept k) ∙ none) in
    let next = kept_now t before kept k a.is_posted a.is_open (omega (arith, short)) in
    subst (λ (ks : List Kid). IsBookKept (resumed_state t ks)) (append_assoc before (k ∷ []) later)
    (kept_from t later (before ++ k ∷ []) next (omega (arith, short, length-append before (k ∷ []))) parts.1)

-- what is kept is legal
pub legal_from : (t : Task) (entries : List Kid) → IsBookKept (resumed_state t entries) → AreLegal t entries
legal_from t entries kept = (plans_at entries, kept.named, kept.marked.legal)

-- ---- a successor that may come next has no fault

no_fault : (known posted among : Bool) → known ≡ true → posted ≡ true → among ≡ false
    → cond (not known) (Some UnknownParent) (cond (not posted) (Some NotAKid) (cond among (Some SettledBefore) None)) ≡ None
no_fault false posted among k p a = absurd (true≢false (sym k))
no_fault true false among k p a = absurd (true≢false (sym p))
no_fault true true true k p a = absurd (true≢false a)
no_fault true true false k p a = refl

-- a successor of the root's parent names a plan only if it is the root
root_same : (expanded : List (List ℕ)) (k : Kid) (p : List ℕ) → k.parent ≡ ROOT_PARENT → plan_of expanded k ≡ Some p → same_kid k root ≡ true
root_same expanded k p e is =
    let by_action : cond (k.action == ROOT_ACTION) (Some []) None ≡ Some p = sym (cond-true (k.parent == ROOT_PARENT) (cond (k.action == ROOT_ACTION) (Some []) None) (plan_from (slice_get expanded k.parent) k.action) (eq-eqb k.parent ROOT_PARENT e)) ∙ is in
    ap (λ (b : Bool). b && (k.action == ROOT_ACTION)) (eq-eqb k.parent ROOT_PARENT e)
    ∙ elim (k.action == ROOT_ACTION) as (λ b. cond b (Some []) None ≡ Some p → b ≡ true) [
      | true ↦ λ _. refl
      | false ↦ λ e. absurd (none-some p e)
    ] by_action

or_left : (a b : Bool) → a ≡ true → (a || b) ≡ true
or_left true b e = refl
or_left false b e = absurd (true≢false (sym e))

or_right : (a b : Bool) → b ≡ true → (a || b) ≡ true
or_right true b e = refl
or_right false b e = e

module _ (t : Task) (before : List Kid) (named : plans_of before ≡ Some (plans_at before)) (k : Kid) (p : List ℕ) (is : plan_of (plans_at before) k ≡ Some p) (next : IsNext t (plans_at before) p) where
  abbrev E : List (List ℕ)
  E = plans_at before

  count : length E ≡ length before
  count = length-plans_of before E named

  known : (same_kid k root || nat_lt k.parent (length before)) ≡ true
  known =
      elim (cases_eq k.parent ROOT_PARENT) [
        | inl e ↦ or_left (same_kid k root) (nat_lt k.parent (length before)) (root_same E k p e is)
        | inr ne ↦ or_right (same_kid k root) (nat_lt k.parent (length before)) (lt-ltb k.parent (length before) (omega (arith, (parent_names E k p ne is).within, count)))
      ]

  applies : (within : k.parent < length E) → p ≡ get_or E k.parent [] ++ k.action ∷ [] → list_any (λ a. k.action == a) (applicable_at t (exec t (get_or E k.parent []))) ≡ true
  applies within whole =
      elim (Contains-cons_cases [] (flat_map (children t) E) p next.generated_before) [
        | inl e ↦ absurd (push_not_nil (get_or E k.parent []) k.action (sym (e ∙ whole)))
        | inr c ↦
            let from = Contains-from_flat_map (children t) E p c in
            let q = from.0 in
            let its = IsFrom-from_map (followed_by q) (applicable_at t (exec t q)) p from.2 in
            let same = same_from_push q (get_or E k.parent []) its.source k.action (its.is ∙ whole) in
            list_any-from_contains (λ a. k.action == a) (applicable_at t (exec t (get_or E k.parent []))) its.source
            (subst (λ (x : List ℕ). Contains (applicable_at t (exec t x)) its.source) same.0 its.among)
            (eq-eqb k.action its.source (sym same.1))
      ]

  posted : has (posted_by t E) k ≡ true
  posted =
      elim (cases_eq k.parent ROOT_PARENT) [
        | inl e ↦ or_left (same_kid k root) (list_any (same_kid k) (kids_from t 0 E)) (root_same E k p e is)
        | inr ne ↦
            let parent = parent_names E k p ne is in
            let first : k.parent - 0 ≡ k.parent = omega arith in
            or_right (same_kid k root) (list_any (same_kid k) (kids_from t 0 E))
            (at_entry t k 0 E (omega arith) (omega (arith, parent.within))
            ∙ (ap (λ (i : ℕ). list_any (λ a. k.action == a) (applicable_at t (exec t (get_or E i [])))) first ∙ applies parent.within parent.is))
      ]

  entry_here : (i : ℕ) → i < length before → get_or before i root ≡ k → ⊥
  entry_here i lt at =
      let here : 0 + i ≡ i = omega arith in
      let its : plan_of (take i E) (get_or before i root) ≡ Some (get_or E i []) =
      subst (λ (m : ℕ). plan_of (take m E) (get_or before i root) ≡ Some (get_or E m [])) here (named_at before [] E i named lt)
      in
      let whole : plan_of E k ≡ Some (get_or E i []) =
      ap (λ (xs : List (List ℕ)). plan_of xs k) (sym (take-append-drop i E)) ∙ plan_of-grows (take i E) (drop i E) k (get_or E i []) (ap (plan_of (take i E)) (sym at) ∙ its)
      in
      let same : get_or E i [] ≡ p = same_Some (get_or E i []) p (sym whole ∙ is) in
      next.is_new (subst (Contains E) same (Contains-get_or E i [] (omega (arith, lt, count))))

  unlisted : has before k ≡ false
  unlisted =
      elim (has before k) as (λ b. has before k ≡ b → b ≡ false) [
        | true ↦ λ e.
            let lt = position_or_len-lt (same_kid k) before e in
            absurd (entry_here (position_or_len (same_kid k) before) lt (sym (same_kid-true k (get_or before (position_or_len (same_kid k) before) root) (passes_at_first (same_kid k) before root lt))))
        | false ↦ λ _. refl
      ] refl

  pub nothing_wrong : fault_at t before k ≡ None
  nothing_wrong = no_fault (same_kid k root || nat_lt k.parent (length before)) (has (posted_by t E) k) (has before k) known posted unlisted

-- ---- legal, without a fault

nothing : (ks : List Kid) → fold with_entry None ks ≡ None
nothing [] = refl
nothing (k ∷ ks) = nothing ks

-- the plan that comes after some in a legal list may be expanded next
next_in : (t : Task) (before more all : List (List ℕ)) (p : List ℕ) → all ≡ (before ++ p ∷ []) ++ more → IsLegal t all → IsNext t before p
next_in t before more all p is legal =
    let whole : all ≡ before ++ p ∷ more = is ∙ append_assoc before (p ∷ []) more in
    let begins : take (length before) all ≡ before = ap (take (length before)) whole ∙ take-append_seam before (p ∷ more) in
    let at : get_or all (length before) [] ≡ p = ap (λ (xs : List (List ℕ)). get_or xs (length before) []) whole ∙ get_or_at before p more [] (length before) refl in
    subst₂ (IsNext t) begins at (legal (length before) [] (omega (arith, ap length whole, length-append before (p ∷ more))))

pub no_faults : (t : Task) (later before : List Kid) (all : List (List ℕ)) → plans_of before ≡ Some (plans_at before) → plans_of (before ++ later) ≡ Some all → IsLegal t all → first_fault t before later ≡ None
no_faults t [] before all named names legal = refl
no_faults t (k ∷ later) before all named names legal =
    let E = plans_at before in
    let rest : fold with_entry (option_and_then (λ p. Some (E ++ p ∷ [])) (plan_of E k)) later ≡ Some all =
    sym (fold-append with_entry (Some []) before (k ∷ later) ∙ ap (λ o. fold with_entry o (k ∷ later)) named) ∙ names
    in
    elim (plan_of E k) as (λ o. plan_of E k ≡ o → fold with_entry (option_and_then (λ p. Some (E ++ p ∷ [])) o) later ≡ Some all → first_fault t before (k ∷ later) ≡ None) [
      | None ↦ λ is e. absurd (none-some all (sym (nothing later) ∙ e))
      | Some p ↦ λ is e.
          let on = goes_on later (E ++ p ∷ []) all e in
          let free = nothing_wrong t before named k p is (next_in t E on.more all p on.is legal) in
          let push : plans_of (before ++ k ∷ []) ≡ Some (E ++ p ∷ []) = plans_of-push before k E p named is in
          let named' : plans_of (before ++ k ∷ []) ≡ Some (plans_at (before ++ k ∷ [])) = push ∙ ap Some (sym (ap (λ x. unwrap_or x []) push)) in
          ap (λ (r : Option Refusal). option_or (option_map (λ (r : Refusal). (length before, r)) r) (first_fault t (before ++ k ∷ []) later)) free
          ∙ no_faults t later (before ++ k ∷ []) all named' (ap plans_of (append_assoc before (k ∷ []) later) ∙ names) legal
    ] refl rest
