-- The plan that an entry names, by the entries before it.
use Rattle.std.proofs.Common.{◌≡◌, ◌≢◌, ℕ, zero, suc, ◌+◌, ◌<◌, ◌==◌, cond, true, false, Some, None, List, [], ◌∷◌, ◌++◌, map, take, length, get_or, slice_get, refl, sym, ap, ◌∙◌, subst, arith, length-append, append_assoc, append-nil}
use Rattle.std.specs.Prelude.{option_and_then}
use Rattle.std.specs.List.{fold}
use Rattle.std.proofs.Math.Seq.{take-append_seam}
use Rattle.std.proofs.lemmas.Bool.{eq-eqb, ne_eqb, cond-true, cond-false}
use Rattle.std.proofs.lemmas.Option.{none-some, same_Some, slice_get_within, get_or_from_slice_get}
use Rattle.std.proofs.lemmas.List.{get_or_at, get_or-map, get_or-take, length-map, length-take}
use Rattle.hd_task.specs.declared.plan.Kid.{Kid}
use Rattle.hd_task.specs.declared.plan.TheConstants.{ROOT_PARENT, ROOT_ACTION}
use Rattle.hd_task.specs.Entries.{plan_from, plan_of, with_entry}
use Rattle.hd_entries.specs.declared.entry.ExpandedPlan.{ExpandedPlan}
use Rattle.hd_entries.specs.declared.expanded.ExpandedPlans.{ExpandedPlans}
use Rattle.hd_tables.specs.Kids.{root}
use Rattle.hd_entries.specs.Settling.{expansions}
use Rattle.hd_entries.specs.Holding.{successor_at_entry, unmarked, IsExpanded}

-- what entries name goes on from what was named before
pub record GoesOn (before all : List (List ℕ)) : Type 0 where
  pub more : List (List ℕ)
  pub is : all ≡ before ++ more

nothing : (ks : List Kid) → fold with_entry None ks ≡ None
nothing [] = refl
nothing (k ∷ ks) = nothing ks

pub goes_on : (ks : List Kid) (before all : List (List ℕ)) → fold with_entry (Some before) ks ≡ Some all → GoesOn before all
goes_on [] before all e = record { more = []; is = sym (same_Some before all e) ∙ sym (append-nil before) }
goes_on (k ∷ ks) before all e =
    elim (plan_of before k) as (λ o. fold with_entry (option_and_then (λ p. Some (before ++ p ∷ [])) o) ks ≡ Some all → GoesOn before all) [
      | None ↦ λ e. absurd (none-some all (sym (nothing ks) ∙ e))
      | Some p ↦ λ e.
          let rest = goes_on ks (before ++ p ∷ []) all e in
          record { more = p ∷ rest.more; is = rest.is ∙ append_assoc before (p ∷ []) rest.more }
    ] e

first_named : (k : Kid) (ks : List Kid) (before all : List (List ℕ)) (p : List ℕ) → plan_of before k ≡ Some p → fold with_entry (Some (before ++ p ∷ [])) ks ≡ Some all → plan_of (take (length before + 0) all) k ≡ Some (get_or all (length before + 0) [])
first_named k ks before all p is e =
    let rest = goes_on ks (before ++ p ∷ []) all e in
    let whole : all ≡ before ++ p ∷ rest.more = rest.is ∙ append_assoc before (p ∷ []) rest.more in
    let here : length before + 0 ≡ length before = omega arith in
    let begins : take (length before + 0) all ≡ before =
    ap (λ n. take n all) here ∙ (ap (take (length before)) whole ∙ take-append_seam before (p ∷ rest.more))
    in
    let at : get_or all (length before + 0) [] ≡ p =
    ap (λ n. get_or all n []) here ∙ (ap (λ xs. get_or xs (length before) []) whole ∙ get_or_at before p rest.more [] (length before) refl)
    in
    ap (λ xs. plan_of xs k) begins ∙ (is ∙ ap Some (sym at))

-- an entry names a plan by the plans before it
pub named_at : (ks : List Kid) (before all : List (List ℕ)) (n : ℕ) → fold with_entry (Some before) ks ≡ Some all → n < length ks → plan_of (take (length before + n) all) (get_or ks n root) ≡ Some (get_or all (length before + n) [])
named_at [] before all n e lt = absurd (omega arith)
named_at (k ∷ ks) before all zero e lt =
    elim (plan_of before k) as (λ o. plan_of before k ≡ o → fold with_entry (option_and_then (λ p. Some (before ++ p ∷ [])) o) ks ≡ Some all → plan_of (take (length before + 0) all) k ≡ Some (get_or all (length before + 0) [])) [
      | None ↦ λ is e. absurd (none-some all (sym (nothing ks) ∙ e))
      | Some p ↦ λ is e. first_named k ks before all p is e
    ] refl e
named_at (k ∷ ks) before all (suc n) e lt =
    elim (plan_of before k) as (λ o. fold with_entry (option_and_then (λ p. Some (before ++ p ∷ [])) o) ks ≡ Some all → plan_of (take (length before + suc n) all) (get_or ks n root) ≡ Some (get_or all (length before + suc n) [])) [
      | None ↦ λ e. absurd (none-some all (sym (nothing ks) ∙ e))
      | Some p ↦ λ e.
          let next : length (before ++ p ∷ []) + n ≡ length before + suc n = omega (arith, length-append before (p ∷ [])) in
          subst (λ m. plan_of (take m all) (get_or ks n root) ≡ Some (get_or all m [])) next (named_at ks (before ++ p ∷ []) all n e (omega arith))
    ] e

-- ---- a successor that names a plan

root_names : (expanded : List (List ℕ)) (k : Kid) (p : List ℕ) → k.parent ≡ ROOT_PARENT → plan_of expanded k ≡ Some p → p ≡ []
root_names expanded k p e is =
    let by_action : cond (k.action == ROOT_ACTION) (Some []) None ≡ Some p = sym (cond-true (k.parent == ROOT_PARENT) (cond (k.action == ROOT_ACTION) (Some []) None) (plan_from (slice_get expanded k.parent) k.action) (eq-eqb k.parent ROOT_PARENT e)) ∙ is in
    elim (k.action == ROOT_ACTION) as (λ b. cond b (Some []) None ≡ Some p → p ≡ []) [
      | true ↦ λ e. sym (same_Some [] p e)
      | false ↦ λ e. absurd (none-some p e)
    ] by_action

-- the parent's plan, and the action
pub record HasParent (expanded : List (List ℕ)) (k : Kid) (p : List ℕ) : Type 0 where
  pub within : k.parent < length expanded
  pub is : p ≡ get_or expanded k.parent [] ++ k.action ∷ []

pub parent_names : (expanded : List (List ℕ)) (k : Kid) (p : List ℕ) → k.parent ≢ ROOT_PARENT → plan_of expanded k ≡ Some p → HasParent expanded k p
parent_names expanded k p ne is =
    let from : plan_from (slice_get expanded k.parent) k.action ≡ Some p = sym (cond-false (k.parent == ROOT_PARENT) (cond (k.action == ROOT_ACTION) (Some []) None) (plan_from (slice_get expanded k.parent) k.action) (ne_eqb k.parent ROOT_PARENT ne)) ∙ is in
    elim (slice_get expanded k.parent) as (λ o. slice_get expanded k.parent ≡ o → plan_from o k.action ≡ Some p → HasParent expanded k p) [
      | None ↦ λ at e. absurd (none-some p e)
      | Some q ↦ λ at e. record {
        within = slice_get_within expanded k.parent q at;
        is = sym (same_Some (q ++ k.action ∷ []) p e) ∙ ap (λ x. x ++ k.action ∷ []) (sym (get_or_from_slice_get expanded k.parent q [] at));
      }
    ] refl from

-- ---- the entries of a book

module _ (x : ExpandedPlans) (h : IsExpanded x) (n : ℕ) (e : ExpandedPlan) (lt : n < length x.entries.items) (at : e ≡ get_or x.entries.items n e) where
  abbrev E : List (List ℕ)
  E = expansions (unmarked x)

  named : plan_of (take n E) e.kid ≡ Some (get_or E n [])
  named =
      let ks = map successor_at_entry x.entries.items in
      let here : 0 + n ≡ n = omega arith in
      let kid : get_or ks n root ≡ e.kid = get_or-map successor_at_entry x.entries.items n e root lt ∙ ap successor_at_entry (sym at) in
      ap (plan_of (take n E)) (sym kid)
      ∙ subst (λ m. plan_of (take m E) (get_or ks n root) ≡ Some (get_or E m [])) here (named_at ks [] E n h.named (omega (arith, length-map x.entries.items successor_at_entry)))

  pub root_plan : e.kid.parent ≡ ROOT_PARENT → get_or E n [] ≡ []
  root_plan is = root_names (take n E) e.kid (get_or E n []) is named

  pub record Steps : Type 0 where
    pub before : e.kid.parent < n
    pub is : get_or E n [] ≡ get_or E e.kid.parent [] ++ e.kid.action ∷ []

  pub entry_plan : e.kid.parent ≢ ROOT_PARENT → Steps
  entry_plan ne =
      let p = parent_names (take n E) e.kid (get_or E n []) ne named in
      let before : e.kid.parent < n = omega (arith, p.within, length-take n E) in
      record {
        before = before;
        is = p.is ∙ ap (λ x. x ++ e.kid.action ∷ []) (get_or-take n E e.kid.parent [] before);
      }
