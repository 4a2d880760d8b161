-- What entries show.
use Rattle.std.proofs.Common.{IfSome, ◌≡◌, ℕ, ◌<◌, ◌≤◌, true, false, true≢false, is_some, inl, inr, List, [], map, length, get_or, slice_get, Option, Some, None, refl, sym, ap, ◌∙◌, subst, arith}
use Rattle.std.proofs.lemmas.Bool.{cases_lt}
use Rattle.std.proofs.lemmas.List.{length-map}
use Rattle.std.proofs.lemmas.Option.{none-some, same_Some}
use Rattle.hd_base.proofs.Lists.{nil_from_slice_get}
use Rattle.hd_task.specs.declared.task.Task.{Task}
use Rattle.hd_task.specs.declared.plan.Kid.{Kid}
use Rattle.hd_task.specs.declared.plan.TheConstants.{ROOT_PARENT}
use Rattle.hd_task.specs.declared.departure.Departure.{Departure}
use Rattle.hd_task.specs.Plans.{exec}
use Rattle.hd_task.specs.Expansions.{goal_cost, departures_of}
use Rattle.hd_image.specs.declared.entry.Entry.{Entry}
use Rattle.hd_journal.specs.Journal.{kid_of}
use Rattle.hd_entries.specs.declared.verdict.Verdict.TheVariants as Verdict
use Rattle.hd_entries.specs.Answers.{IsBoundPlan}
use Rattle.hd_entries.specs.Settling.{BookState, expansions, IsBookKept}
use Rattle.hd_entries.specs.Holding.{plans_at}
use Rattle.hd_entries.specs.Resuming.{first_fault, resumed_state}
use Rattle.hd_entries.proofs.Again.{nothing_kept}
use Rattle.hd_entries.proofs.Deciding.{answer_true}
use Rattle.hd_entries.proofs.Faultless.{kept_from}
use Rattle.hd_certify.specs.declared.certified.Certified.{Certified}
use Rattle.hd_certify.specs.declared.certified.Certified.TheVariants.{Optimal, NoPlan}
use Rattle.hd_certify.specs.Covering.{AreSpared, IsNeeded}
use Rattle.hd_certify.specs.Certificate.{IsDecisive, IsShown, IsCertificateOf, IsTrueOf}
use Rattle.hd_certify.proofs.Justified.{all_covered, spared_of}

-- what is shown is true
pub shown_true : (t : Task) (expanded : List (List ℕ)) (c : Certified) → IsShown t expanded (Some c) → IsTrueOf t c
shown_true t expanded (Optimal p) s = answer_true t expanded (Verdict.Optimal p) s.0.covered (s.0.in_range, s.1)
shown_true t expanded NoPlan s = answer_true t expanded Verdict.NoPlan s.0.covered (s.0.in_range, s.1)

-- the plan of a bound is one
same_plan : (t : Task) (expanded : List (List ℕ)) (p q : List ℕ) → IsBoundPlan t expanded p → IsBoundPlan t expanded q → p ≡ q
same_plan t expanded p q a b =
    let costs : a.cost ≡ b.cost = same_Some a.cost b.cost (sym a.bound ∙ b.bound) in
    let here : goal_cost t (exec t p) ≡ Some b.cost = a.meets ∙ ap Some costs in
    let there : goal_cost t (exec t q) ≡ Some a.cost = b.meets ∙ ap Some (sym costs) in
    elim (cases_lt a.number b.number) [
      | inl lt ↦ absurd (b.first a.number lt (ap (λ (x : List ℕ). goal_cost t (exec t x)) a.plan ∙ here))
      | inr le ↦
          elim (cases_lt b.number a.number) [
            | inl lt ↦ absurd (a.first b.number lt (ap (λ (x : List ℕ). goal_cost t (exec t x)) b.plan ∙ there))
            | inr ge ↦
                let same : a.number ≡ b.number = omega (arith, le, ge) in
                sym a.plan ∙ (ap (λ (n : ℕ). get_or expanded n []) same ∙ b.plan)
          ]
    ]

-- what expansions show is one
same_shown : (t : Task) (expanded : List (List ℕ)) (c d : Option Certified) → IsShown t expanded c → IsShown t expanded d → c ≡ d
same_shown t expanded None None x y = refl
same_shown t expanded None (Some (Optimal q)) x y = absurd (x y.0)
same_shown t expanded None (Some NoPlan) x y = absurd (x y.0)
same_shown t expanded (Some (Optimal p)) None x y = absurd (y x.0)
same_shown t expanded (Some NoPlan) None x y = absurd (y x.0)
same_shown t expanded (Some (Optimal p)) (Some (Optimal q)) x y = ap (λ (r : List ℕ). Some (Optimal r)) (same_plan t expanded p q x.1 y.1)
same_shown t expanded (Some (Optimal p)) (Some NoPlan) x y = absurd (none-some x.1.cost (sym y.1 ∙ x.1.bound))
same_shown t expanded (Some NoPlan) (Some (Optimal q)) x y = absurd (none-some y.1.cost (sym x.1 ∙ y.1.bound))
same_shown t expanded (Some NoPlan) (Some NoPlan) x y = refl

-- what entries show is one
pub same_certificate : (t : Task) (entries : List Entry) (c d : Option Certified) → IsCertificateOf t entries c → IsCertificateOf t entries d → c ≡ d
same_certificate t entries c d x y =
    let same : x.expanded ≡ y.expanded = same_Some x.expanded y.expanded (sym x.named ∙ y.named) in
    same_shown t y.expanded c d (subst (λ (expanded : List (List ℕ)). IsShown t expanded c) same x.shown) y.shown

-- where something departs, nothing is shown
pub departed_shows_nothing : (t : Task) (expanded : List (List ℕ)) (d : Departure) → slice_get (departures_of t expanded) 0 ≡ Some d → IsDecisive t expanded → ⊥
departed_shows_nothing t expanded d first decisive = none-some d (sym (ap (λ (ds : List Departure). slice_get ds 0) decisive.in_range) ∙ first)

-- what entries show is true
pub certificate_true : (t : Task) (entries : List Entry) (c : Certified) → IsCertificateOf t entries (Some c) → IsTrueOf t c
certificate_true t entries c x = shown_true t x.expanded c x.shown

-- the same, where there may be nothing
pub if_certificate_true : (t : Task) (entries : List Entry) (o : Option Certified) → IsCertificateOf t entries o → IfSome o (IsTrueOf t)
if_certificate_true t entries None x = tt
if_certificate_true t entries (Some c) x = certificate_true t entries c x

-- ---- entries that were made again

module _ (t : Task) (most : ℕ) (few : most < ROOT_PARENT) (entries : List Entry) (le : length entries ≤ most) (free : first_fault t [] (map kid_of entries) ≡ None) where
  abbrev kids : List Kid
  kids = map kid_of entries

  kept : IsBookKept (resumed_state t kids)
  kept = kept_from t kids [] (nothing_kept t) (omega (arith, few, le, length-map entries kid_of)) free

  certificate : (c : Option Certified) → IsShown t (plans_at kids) c → IsCertificateOf t entries c
  certificate c shown = record { expanded = plans_at kids; named = kept.named; legal = kept.marked.legal; shown = shown }

  -- what entries that were made again show
  pub certificate_of : (b : BookState) → b ≡ resumed_state t kids → (c : Option Certified) → IsShown b.task (expansions b) c → IsCertificateOf t entries c
  certificate_of b e c shown = certificate c (subst (λ (x : BookState). IsShown x.task (expansions x) c) e shown)

-- ---- what is shown by a book that is made again

module _ (b : BookState) (e : b ≡ resumed_state b.task b.entries) (k : IsBookKept b) where
  kept_again : IsBookKept (resumed_state b.task b.entries)
  kept_again = subst IsBookKept e k

  -- where something departs
  pub departed_shows : (o : Option Departure) → o ≡ slice_get (departures_of b.task (expansions b)) 0 → is_some o ≡ true → IsShown b.task (expansions b) None
  departed_shows None first some = absurd (true≢false (sym some))
  departed_shows (Some d) first some = departed_shows_nothing b.task (expansions b) d (sym first)

  -- where a successor need be expanded
  pub open_shows : IsNeeded b → IsShown b.task (expansions b) None
  open_shows one =
      let its : IsNeeded (resumed_state b.task b.entries) = subst IsNeeded e one in
      subst (λ (x : BookState). IsShown x.task (expansions x) None) (sym e)
      (λ decisive. its.needed (spared_of b.task b.entries kept_again decisive.covered its.kid its.end its.among its.leads))

  -- where no successor need be, and nothing departs
  pub decisive : (o : Option Departure) → o ≡ slice_get (departures_of b.task (expansions b)) 0 → is_some o ≡ false → AreSpared b → IsDecisive b.task (expansions b)
  decisive (Some d) first none all = absurd (true≢false none)
  decisive None first none all =
      let its : AreSpared (resumed_state b.task b.entries) = subst AreSpared e all in
      subst (λ (x : BookState). IsDecisive x.task (expansions x)) (sym e)
      (record {
        covered = all_covered b.task b.entries kept_again its.nodes its.are its.spared;
        in_range = nil_from_slice_get (departures_of b.task (plans_at b.entries)) (sym (subst (λ (x : BookState). None ≡ slice_get (departures_of x.task (expansions x)) 0) e first));
      })
