-- The bound with its first entry, and the first departure, after further entries.
use Rattle.std.proofs.Common.{◌≡◌, ◌≢◌, ℕ, ◌+◌, ◌<◌, ◌≤◌, nat_lt, true, false, cond, Option, Some, None, List, [], ◌∷◌, ◌++◌, map, length, get_or, slice_get, min, refl, sym, ap, ap₂, ◌∙◌, subst, subst₂, arith, length-append, append_assoc, append-nil}
use Rattle.std.specs.Prelude.{option_map}
use Rattle.std.specs.Option.{option_or}
use Rattle.std.specs.List.{AllByRecursion}
use Rattle.std.proofs.lemmas.Bool.{ltb-true, ltb-false}
use Rattle.std.proofs.lemmas.Option.{slice_get-map}
use Rattle.std.proofs.lemmas.List.{get_or_append_left, get_or_at}
use Rattle.std.proofs.lemmas.List.Elements.{Contains-get_or}
use Rattle.hd_base.proofs.Lists.{cons_parts, slice_get-append_zero}
use Rattle.hd_task.specs.declared.task.Task.{Task}
use Rattle.hd_task.specs.declared.departure.DepartsBy.{DepartsBy}
use Rattle.hd_task.specs.declared.departure.Departure.{Departure}
use Rattle.hd_task.specs.Plans.{Node, exec, node}
use Rattle.hd_task.specs.Expansions.{lesser, goal_cost, bound_of, departing_at, departure_at, departures_from, departures_of}
use Rattle.hd_task.proofs.Bounds.{AtMost, bound_at_most}
use Rattle.hd_task.proofs.Growing.{departures_stay}
use Rattle.hd_node.specs.declared.batch.Outcome.{Outcome}
use Rattle.hd_node.specs.declared.batch.Outcome.TheVariants.{Expanded, Duplicate, Bounded}
use Rattle.hd_entries.specs.declared.entry.Best.{Best}
use Rattle.hd_entries.specs.Settling.{IsOutcomeOfTask}
use Rattle.hd_entries.specs.Holding.{node_at, IsBestAt, IsBestOf}
use Rattle.hd_entries.specs.Growing.{entered_by, best_at, better, best_by, departure_by}

-- ---- the bound

lesser-none : (a : Option ℕ) → lesser a None ≡ a
lesser-none None = refl
lesser-none (Some x) = refl

lesser-assoc : (a b c : Option ℕ) → lesser a (lesser b c) ≡ lesser (lesser a b) c
lesser-assoc None b c = refl
lesser-assoc (Some x) None c = refl
lesser-assoc (Some x) (Some y) None = refl
lesser-assoc (Some x) (Some y) (Some z) = let same : min x (min y z) ≡ min (min x y) z = omega arith in ap Some same

bound-push : (t : Task) (expanded : List (List ℕ)) (p : List ℕ) → bound_of t (expanded ++ p ∷ []) ≡ lesser (bound_of t expanded) (goal_cost t (exec t p))
bound-push t [] p = lesser-none (goal_cost t (exec t p))
bound-push t (q ∷ expanded) p =
    ap (lesser (goal_cost t (exec t q))) (bound-push t expanded p)
    ∙ lesser-assoc (goal_cost t (exec t q)) (bound_of t expanded) (goal_cost t (exec t p))

module _ (t : Task) (expanded : List (List ℕ)) (p : List ℕ) where
  abbrev longer : List (List ℕ)
  longer = expanded ++ p ∷ []

  older : (n : ℕ) → n < length expanded → goal_cost t (exec t (get_or longer n [])) ≡ goal_cost t (exec t (get_or expanded n []))
  older n lt = ap (λ q. goal_cost t (exec t q)) (get_or_append_left expanded (p ∷ []) [] n lt)

  last : goal_cost t (exec t (get_or longer (length expanded) [])) ≡ goal_cost t (exec t p)
  last = ap (λ q. goal_cost t (exec t q)) (get_or_at expanded p [] [] (length expanded) refl)

  -- no entry is cheaper than the bound
  cheapest : (n c b : ℕ) → n < length expanded → bound_of t expanded ≡ Some b → goal_cost t (exec t (get_or expanded n [])) ≡ Some c → b ≤ c
  cheapest n c b lt is e =
      subst₂ AtMost is e (bound_at_most t expanded (get_or expanded n []) (Contains-get_or expanded n [] lt))

  -- an entry of the list stays the best
  stays : (b : Best) (c : Option ℕ) → goal_cost t (exec t p) ≡ c → lesser (Some b.cost) c ≡ Some b.cost → IsBestAt t expanded b → IsBestAt t longer b
  stays b c is no_less at = record {
    bound = bound-push t expanded p ∙ (ap₂ lesser at.bound is ∙ no_less);
    among = omega (arith, at.among, length-append expanded (p ∷ []));
    meets = older b.entry at.among ∙ at.meets;
    first = λ n lt e. at.first n lt (sym (older n (omega (arith, at.among))) ∙ e);
  }

  -- the new entry is the best
  comes : (c : ℕ) → goal_cost t (exec t p) ≡ Some c → lesser (bound_of t expanded) (Some c) ≡ Some c → ((n : ℕ) → n < length expanded → goal_cost t (exec t (get_or expanded n [])) ≢ Some c) → IsBestAt t longer (best_at (length expanded) c)
  comes c is least new = record {
    bound = bound-push t expanded p ∙ (ap (lesser (bound_of t expanded)) is ∙ least);
    among = omega (arith, length-append expanded (p ∷ []));
    meets = last ∙ is;
    first = λ n lt e. new n lt (sym (older n lt) ∙ e);
  }

  best_step : (b : Option Best) (c : Option ℕ) → goal_cost t (exec t p) ≡ c → IsBestOf t expanded b → IsBestOf t longer (better b (length expanded) c)
  best_step None None is at = bound-push t expanded p ∙ ap₂ lesser at is
  best_step (Some b) None is at = stays b None is refl at
  best_step None (Some c) is at =
      comes c is (ap (λ o. lesser o (Some c)) at)
      (λ n lt e. subst₂ AtMost at e (bound_at_most t expanded (get_or expanded n []) (Contains-get_or expanded n [] lt)))
  best_step (Some b) (Some c) is at =
      elim (nat_lt c b.cost) as (λ x. nat_lt c b.cost ≡ x → IsBestOf t longer (cond x (Some (best_at (length expanded) c)) (Some b))) [
        | true ↦ λ x.
            let less = ltb-true c b.cost x in
            let least : min b.cost c ≡ c = omega (arith, less) in
            comes c is (ap (λ o. lesser o (Some c)) at.bound ∙ ap Some least) (λ n lt e. omega (arith, less, cheapest n c b.cost lt at.bound e))
        | false ↦ λ x.
            let more = ltb-false c b.cost x in
            let least : min b.cost c ≡ b.cost = omega (arith, more) in
            stays b (Some c) is (ap Some least) at
      ] refl

-- ---- lists of what entries lead to

abbrev leads_to : List (List ℕ) → Task → List (Option Node)
leads_to plans t = map (exec t) plans

-- the best of a list that outcomes lengthen
pub best_all : (t : Task) (outcomes : List Outcome) (expanded more : List (List ℕ)) (b : Option Best) → AllByRecursion (IsOutcomeOfTask t) outcomes → map (exec t) more ≡ map (λ e. Some (node_at e)) (entered_by outcomes) → IsBestOf t expanded b → IsBestOf t (expanded ++ more) (best_by b (length expanded) outcomes)
best_all t [] expanded [] b own e at = subst (λ xs. IsBestOf t xs b) (sym (append-nil expanded)) at
best_all t [] expanded (p ∷ more) b own e at = absurd (cc)
best_all t (Expanded x ∷ outcomes) expanded [] b own e at = absurd (cc)
best_all t (Expanded x ∷ outcomes) expanded (p ∷ more) b own e at =
    let at_p : exec t p ≡ Some (node x.state x.cost) = (cons_parts _ _ _ _ e).0 in
    let rest : map (exec t) more ≡ map (λ e. Some (node_at e)) (entered_by outcomes) = (cons_parts _ _ _ _ e).1 in
    let cost : goal_cost t (exec t p) ≡ goal_cost x.task (Some (node x.state x.cost)) =
    ap (goal_cost t) at_p ∙ ap (λ u. goal_cost u (Some (node x.state x.cost))) (sym own.0)
    in
    let next = better b (length expanded) (goal_cost x.task (Some (node x.state x.cost))) in
    let whole = best_all t outcomes (expanded ++ p ∷ []) more next own.1 rest (best_step t expanded p b (goal_cost x.task (Some (node x.state x.cost))) cost at) in
    subst (λ xs. IsBestOf t xs (best_by next (length expanded + 1) outcomes)) (append_assoc expanded (p ∷ []) more)
    (subst (λ n. IsBestOf t ((expanded ++ p ∷ []) ++ more) (best_by next n outcomes)) (length-append expanded (p ∷ [])) whole)
best_all t (Duplicate k by ∷ outcomes) expanded more b own e at = best_all t outcomes expanded more b own.1 e at
best_all t (Bounded k h ∷ outcomes) expanded more b own e at = best_all t outcomes expanded more b own.1 e at

-- ---- the first departure

departure_step : (t : Task) (expanded : List (List ℕ)) (p : List ℕ) (ds : List DepartsBy) → departing_at t (exec t p) ≡ ds → slice_get (departures_of t (expanded ++ p ∷ [])) 0 ≡ option_or (slice_get (departures_of t expanded) 0) (option_map (departure_at (length expanded)) (slice_get ds 0))
departure_step t expanded p ds e =
    ap (λ xs. slice_get xs 0) (departures_stay t expanded (p ∷ []))
    ∙ (slice_get-append_zero (departures_of t expanded) (departures_from t (length expanded) (p ∷ []))
    ∙ ap (option_or (slice_get (departures_of t expanded) 0))
    (ap (λ xs. slice_get xs 0) (append-nil (map (departure_at (length expanded)) (departing_at t (exec t p))))
    ∙ (slice_get-map (departure_at (length expanded)) (departing_at t (exec t p)) 0 ∙ ap (λ xs. option_map (departure_at (length expanded)) (slice_get xs 0)) e)))

pub departure_all : (t : Task) (outcomes : List Outcome) (expanded more : List (List ℕ)) (d : Option Departure) → AllByRecursion (IsOutcomeOfTask t) outcomes → map (exec t) more ≡ map (λ e. Some (node_at e)) (entered_by outcomes) → d ≡ slice_get (departures_of t expanded) 0 → departure_by d (length expanded) outcomes ≡ slice_get (departures_of t (expanded ++ more)) 0
departure_all t [] expanded [] d own e at = at ∙ ap (λ xs. slice_get (departures_of t xs) 0) (sym (append-nil expanded))
departure_all t [] expanded (p ∷ more) d own e at = absurd (cc)
departure_all t (Expanded x ∷ outcomes) expanded [] d own e at = absurd (cc)
departure_all t (Expanded x ∷ outcomes) expanded (p ∷ more) d own e at =
    let at_p : exec t p ≡ Some (node x.state x.cost) = (cons_parts _ _ _ _ e).0 in
    let rest : map (exec t) more ≡ map (λ e. Some (node_at e)) (entered_by outcomes) = (cons_parts _ _ _ _ e).1 in
    let departs : departing_at t (exec t p) ≡ x.departures =
    ap (departing_at t) at_p ∙ (ap (λ u. departing_at u (Some (node x.state x.cost))) (sym own.0) ∙ sym x.all_departures)
    in
    let next = option_or d (option_map (departure_at (length expanded)) (slice_get x.departures 0)) in
    let so_far : next ≡ slice_get (departures_of t (expanded ++ p ∷ [])) 0 =
    ap (λ o. option_or o (option_map (departure_at (length expanded)) (slice_get x.departures 0))) at ∙ sym (departure_step t expanded p x.departures departs)
    in
    ap (λ n. departure_by next n outcomes) (sym (length-append expanded (p ∷ [])))
    ∙ (departure_all t outcomes (expanded ++ p ∷ []) more next own.1 rest so_far
    ∙ ap (λ xs. slice_get (departures_of t xs) 0) (append_assoc expanded (p ∷ []) more))
departure_all t (Duplicate k by ∷ outcomes) expanded more d own e at = departure_all t outcomes expanded more d own.1 e at
departure_all t (Bounded k h ∷ outcomes) expanded more d own e at = departure_all t outcomes expanded more d own.1 e at
