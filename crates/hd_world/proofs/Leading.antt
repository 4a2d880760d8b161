-- Where the plans of posted successors and of entries lead.
use Rattle.std.proofs.Common.{◌≡◌, ℕ, ◌<◌, true, not, Option, Some, None, is_some, List, [], length, take, get_or, Contains, inl, inr, refl, sym, ap, ◌∙◌, arith, true≢false}
use Rattle.std.specs.Prelude.{option_and_then, flat_map}
use Rattle.std.proofs.lemmas.Bool.{and_parts}
use Rattle.std.proofs.lemmas.Option.{slice_get-get_or}
use Rattle.std.proofs.lemmas.List.Elements.{Contains-get_or}
use Rattle.hd_base.proofs.Members.{Contains-cons_cases, Contains-from_flat_map, IsFrom-from_map, passes-from_filter}
use Rattle.hd_task.specs.declared.task.Task.{Task}
use Rattle.hd_task.specs.declared.plan.Kid.{Kid}
use Rattle.hd_task.specs.Plans.{Node, step_by, start, exec}
use Rattle.hd_task.specs.Effects.{numbers_below}
use Rattle.hd_task.specs.Departures.{action_departs}
use Rattle.hd_task.specs.Expansions.{is_applicable, applicable_at, followed_by, children, generated}
use Rattle.hd_task.proofs.Runs.{exec-push}
use Rattle.hd_entries.specs.Settling.{BookState, IsBookKept, expansions, is_posted, place_of, node_of, entry_node}
use Rattle.hd_entries.proofs.Accepting.{stands, count-entries}

some_there : {X : Type 0} (o : Option X) → is_some o ≡ true → (x : X) × (o ≡ Some x)
some_there None e = absurd (true≢false (sym e))
some_there (Some x) e = (x, refl)

-- a plan that is followed by an applicable action leads somewhere
step_leads : (t : Task) (q : List ℕ) (n : ℕ) (o : Option Node) → exec t q ≡ o → is_applicable t o n ≡ true → (r : Node) × (exec t (followed_by q n) ≡ Some r)
step_leads t q n None e test = absurd (true≢false (sym test))
step_leads t q n (Some r) e test =
    let parts = and_parts (is_some (step_by t r n)) (not (action_departs t r n)) test in
    let next = some_there (step_by t r n) parts.0 in
    (next.0, exec-push t q r n e ∙ next.1)

-- each plan that is generated leads somewhere
pub generated_leads : (t : Task) (expanded : List (List ℕ)) (p : List ℕ) → Contains (generated t expanded) p → (r : Node) × (exec t p ≡ Some r)
unfolding applicable_at
generated_leads t expanded p c =
    elim (Contains-cons_cases [] (flat_map (children t) expanded) p c) [
      | inl e ↦ (start t, ap (exec t) (sym e))
      | inr c ↦
          let from = Contains-from_flat_map (children t) expanded p c in
          let by = IsFrom-from_map (followed_by from.0) (applicable_at t (exec t from.0)) p from.2 in
          let test = passes-from_filter (is_applicable t (exec t from.0)) (numbers_below (length t.actions)) by.source by.among in
          let there = step_leads t from.0 by.source (exec t from.0) refl test in
          (there.0, ap (exec t) (sym by.is) ∙ there.1)
    ]

module _ (b : BookState) (kept : IsBookKept b) where
  pub posted_leads : (k : Kid) → is_posted b k ≡ true → (r : Node) × (node_of b k ≡ Some r)
  posted_leads k posted =
      let at = stands b kept k posted in
      let plans = generated b.task (expansions b) in
      let there = generated_leads b.task (expansions b) (get_or plans (place_of b k) []) (Contains-get_or plans (place_of b k) [] at.within) in
      (there.0, ap (option_and_then (exec b.task)) at.plan ∙ there.1)

  pub entry_leads : (n : ℕ) → n < length b.entries → (r : Node) × (entry_node b n ≡ Some r)
  entry_leads n lt =
      let within : n < length (expansions b) = omega (arith, lt, count-entries b kept) in
      let there = generated_leads b.task (take n (expansions b)) (get_or (expansions b) n []) (kept.marked.legal n [] within).generated_before in
      (there.0, ap (option_and_then (exec b.task)) (slice_get-get_or (expansions b) n [] within) ∙ there.1)
