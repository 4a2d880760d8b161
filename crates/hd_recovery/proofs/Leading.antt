-- Each posted successor of a book leads somewhere, and so does each of its entries.
use Rattle.std.proofs.Common.{◌≡◌, ℕ, zero, suc, ◌+◌, ◌<◌, ◌≤◌, not, is_some, true, Option, Some, None, List, [], ◌∷◌, ◌++◌, map, take, length, get_or, flat_map, Contains, inl, inr, refl, sym, ap, ap₂, subst, ◌∙◌, arith, true≢false}
use Rattle.std.specs.Prelude.{option_and_then}
use Rattle.std.specs.List.{range_with_len, AllByRecursion}
use Rattle.std.proofs.lemmas.Bool.{and_parts}
use Rattle.std.proofs.lemmas.Option.{slice_get-get_or}
use Rattle.std.proofs.lemmas.List.{map-append}
use Rattle.std.proofs.lemmas.List.Elements.{Contains-append_cases, Contains-get_or}
use Rattle.hd_base.proofs.Members.{Contains-cons_cases, Contains-nil, IsFrom-from_map, passes-from_filter}
use Rattle.hd_task.specs.declared.task.Task.{Task}
use Rattle.hd_task.specs.declared.plan.Kid.{Kid}
use Rattle.hd_task.specs.Effects.{numbers_below}
use Rattle.hd_task.specs.Plans.{Node, step_by, exec}
use Rattle.hd_task.specs.Departures.{action_departs}
use Rattle.hd_task.specs.Expansions.{is_applicable, applicable_at, followed_by, children, generated}
use Rattle.hd_task.proofs.Runs.{exec-push}
use Rattle.hd_node.specs.declared.batch.By.{By}
use Rattle.hd_node.specs.declared.batch.By.TheVariants.{Entry}
use Rattle.hd_entries.specs.Settling.{BookState, IsBookKept, expansions, entry_node, node_of, place_of, is_posted}
use Rattle.hd_entries.specs.Holding.{Released}
use Rattle.hd_entries.proofs.Accepting.{stands, count-entries}
use Rattle.hd_closed.specs.Closed.{Closed}
use Rattle.hd_recovery.specs.Recovered.{closed_as, entry_closed, open_as, open_at}

-- ---- what is generated executes

step_runs : (t : Task) (p : List ℕ) (n : ℕ) (o : Option Node) → exec t p ≡ o → is_applicable t o n ≡ true → is_some (exec t (followed_by p n)) ≡ true
step_runs t p n None at a = absurd (true≢false (sym a))
step_runs t p n (Some r) at a = ap is_some (exec-push t p r n at) ∙ (and_parts (is_some (step_by t r n)) (not (action_departs t r n)) a).0

child_runs : (t : Task) (p q : List ℕ) → Contains (children t p) q → is_some (exec t q) ≡ true
unfolding applicable_at
child_runs t p q child =
    let k = IsFrom-from_map (followed_by p) (applicable_at t (exec t p)) q child in
    let applicable : is_applicable t (exec t p) k.source ≡ true =
    passes-from_filter (is_applicable t (exec t p)) (numbers_below (length t.actions)) k.source k.among in
    subst (λ (x : List ℕ). is_some (exec t x) ≡ true) k.is (step_runs t p k.source (exec t p) refl applicable)

children_run : (t : Task) (expanded : List (List ℕ)) (q : List ℕ) → Contains (flat_map (children t) expanded) q → is_some (exec t q) ≡ true
children_run t [] q child = absurd (Contains-nil q child)
children_run t (p ∷ expanded) q child =
    elim (Contains-append_cases (children t p) (flat_map (children t) expanded) q child) [
      | inl c ↦ child_runs t p q c
      | inr c ↦ children_run t expanded q c
    ]

generated_runs : (t : Task) (expanded : List (List ℕ)) (q : List ℕ) → Contains (generated t expanded) q → is_some (exec t q) ≡ true
generated_runs t expanded q c =
    elim (Contains-cons_cases [] (flat_map (children t) expanded) q c) [
      | inl e ↦ subst (λ (x : List ℕ). is_some (exec t x) ≡ true) e refl
      | inr c ↦ children_run t expanded q c
    ]

-- ---- successors and entries

open_kid : (k : Kid) (o : Option Node) → is_some o ≡ true → map (λ (r : Released). r.kid) (open_as k o) ≡ k ∷ []
open_kid k None e = absurd (true≢false (sym e))
open_kid k (Some r) e = refl

closed_entry : (n : ℕ) (o : Option Node) → is_some o ≡ true → map (λ (c : Closed). c.by) (closed_as n o) ≡ Entry n ∷ []
closed_entry n None e = absurd (true≢false (sym e))
closed_entry n (Some r) e = refl

module _ (b : BookState) (kept : IsBookKept b) where
  kid_leads : (k : Kid) → is_posted b k ≡ true → is_some (node_of b k) ≡ true
  kid_leads k posted =
      let at = stands b kept k posted in
      let all = generated b.task (expansions b) in
      ap (λ (o : Option (List ℕ)). is_some (option_and_then (exec b.task) o)) at.plan
      ∙ generated_runs b.task (expansions b) (get_or all (place_of b k) []) (Contains-get_or all (place_of b k) [] at.within)

  -- the successors of what is open
  pub kids_there : (kids : List Kid) → AllByRecursion (λ (k : Kid). is_posted b k ≡ true) kids → map (λ (r : Released). r.kid) (flat_map (open_at b) kids) ≡ kids
  kids_there [] posted = refl
  kids_there (k ∷ kids) posted =
      map-append (λ (r : Released). r.kid) (open_at b k) (flat_map (open_at b) kids)
      ∙ ap₂ (λ (xs ys : List Kid). xs ++ ys) (open_kid k (node_of b k) (kid_leads k posted.0)) (kids_there kids posted.1)

  entry_leads : (n : ℕ) → n < length b.entries → is_some (entry_node b n) ≡ true
  entry_leads n lt =
      let E = expansions b in
      let within : n < length E = omega (arith, lt, count-entries b kept) in
      ap (λ (o : Option (List ℕ)). is_some (option_and_then (exec b.task) o)) (slice_get-get_or E n [] within)
      ∙ generated_runs b.task (take n E) (get_or E n []) (kept.marked.legal n [] within).generated_before

  -- the names of what is closed
  pub entries_there : (a n : ℕ) → a + n ≤ length b.entries → map (λ (c : Closed). c.by) (flat_map (entry_closed b) (range_with_len a n)) ≡ map Entry (range_with_len a n)
  entries_there a zero le = refl
  entries_there a (suc n) le =
      map-append (λ (c : Closed). c.by) (entry_closed b a) (flat_map (entry_closed b) (range_with_len (a + 1) n))
      ∙ ap₂ (λ (xs ys : List By). xs ++ ys) (closed_entry a (entry_node b a) (entry_leads a (omega (arith, le)))) (entries_there (a + 1) n (omega (arith, le)))
