-- A covered list of expansions from which nothing departs has a best plan of the task.
--
-- The bound is no greater than what any way to the goal costs, from any generated plan on: by
-- induction on the steps that are left. A generated plan is in the list: then the goal holds there,
-- or its next step leads to a generated plan again. Or a plan of the list has its state at no
-- greater cost, and the same steps lead on from there. Or its cost and the estimate reach the
-- bound.
use Rattle.std.proofs.Common.{◌≡◌, ℕ, ◌+◌, ◌<◌, ◌≤◌, Bool, true, false, cond, not, ◌&&◌, IsTrue, List, [], ◌∷◌, ◌++◌, map, filter, length, Option, Some, None, Contains, inl, inr, refl, sym, ap, ◌∙◌, subst, arith, is_some}
use Rattle.std.specs.Prelude.{flat_map}
use Rattle.std.proofs.lemmas.Bool.{and_parts, and_from, not_from_false, cond-true, true≢false}
use Rattle.std.proofs.lemmas.Option.{none-some, same_Some, cond_some}
use Rattle.hd_base.proofs.Members.{Contains-first, Contains-later, Contains-cons_cases, Contains-nil, Contains-map, Contains-filter, Contains-flat_map, Contains-range_with_len, fails-from_filter}
use Rattle.hd_base.proofs.Lists.{nil_from_append, nil_from_map}
use Rattle.hd_task.specs.declared.state.State.{State}
use Rattle.hd_task.specs.declared.task.Task.{Task}
use Rattle.hd_task.specs.declared.departure.DepartsBy.{DepartsBy}
use Rattle.hd_task.specs.declared.departure.DepartsBy.TheVariants.{Goal, Action}
use Rattle.hd_task.specs.Conditions.{holds}
use Rattle.hd_task.specs.Effects.{numbers_below}
use Rattle.hd_task.specs.Plans.{Node, step_by, exec_from, start, exec, IsValidAt}
use Rattle.hd_task.specs.Departures.{goal_departs, action_departs}
use Rattle.hd_task.specs.Expansions.{is_applicable, applicable_at, followed_by, children, generated, goal_cost, bound_of, departing_at, departure_at, departures_from, departures_of}
use Rattle.hd_task.specs.Covers.{Estimate, IsAdmissible, IsDominated, IsBounded, Dead, Reaches, IsJustified, IsCovered}
use Rattle.hd_task.specs.Verdicts.{IsOptimal, HasNoPlan}
use Rattle.hd_task.proofs.Runs.{exec_from-none, exec-push, step_within, exec-state, exec_from-dearer, exec_from-cheaper}
use Rattle.hd_task.proofs.Bounds.{AtMost, bound_at_most, bound_reached}

-- ---- the estimate that knows nothing

pub zero_admissible : (t : Task) → IsAdmissible t (λ s. Some 0)
zero_admissible t from p to of e goal = (0, refl, omega (arith, exec_from-dearer t p from to e))

-- ---- nothing departs

-- if nothing is recorded of a list, nothing departs at its plans
none_recorded : (t : Task) (expanded : List (List ℕ)) (n : ℕ) → departures_from t n expanded ≡ [] → (p : List ℕ) → Contains expanded p → departing_at t (exec t p) ≡ []
none_recorded t [] n none p among = absurd (Contains-nil p among)
none_recorded t (first ∷ expanded) n none p among =
    let here = departing_at t (exec t first) in
    let parts = nil_from_append (map (departure_at n) here) (departures_from t (n + 1) expanded) none in
    elim (Contains-cons_cases first expanded p among) [
      | inl same ↦ subst (λ (p : List ℕ). departing_at t (exec t p) ≡ []) same (nil_from_map (departure_at n) here parts.0)
      | inr later ↦ none_recorded t expanded (n + 1) parts.1 p later
    ]

-- where nothing departs at a node, the goal does not
goal_stays : (t : Task) (r : Node) → departing_at t (Some r) ≡ [] → goal_departs t r ≡ false
unfolding departing_at
goal_stays t r none =
    let actions = map Action (filter (action_departs t r) (numbers_below (length t.actions))) in
    elim (goal_departs t r) as (λ b. cond b (Goal ∷ []) [] ++ actions ≡ [] → b ≡ false) [
      | true ↦ λ some. absurd (cc)
      | false ↦ λ _. refl
    ] none

-- nor does an action
action_stays : (t : Task) (r : Node) → departing_at t (Some r) ≡ [] → (n : ℕ) → n < length t.actions → action_departs t r n ≡ false
unfolding departing_at
action_stays t r none n within =
    let numbers = numbers_below (length t.actions) in
    let departing = filter (action_departs t r) numbers in
    let parts = nil_from_append (cond (goal_departs t r) (Goal ∷ []) []) (map Action departing) none in
    fails-from_filter (action_departs t r) numbers n (nil_from_map Action departing parts.1) (Contains-range_with_len (length t.actions) n within)

-- ---- plans at which the goal holds

-- what a plan's goal cost says of its end
ends_at_goal : (t : Task) (p : List ℕ) (o : Option Node) (c : ℕ) → exec t p ≡ o → goal_cost t o ≡ Some c → IsValidAt t p c
ends_at_goal t p None c is costs = absurd (none-some c costs)
ends_at_goal t p (Some r) c is costs =
    let passed = cond_some (holds r.state t.goal && not (goal_departs t r)) r.cost c costs in
    let both = and_parts (holds r.state t.goal) (not (goal_departs t r)) passed.0 in
    record { end = r; executes = is; meets_goal = both.0; costs = passed.1 }

-- such a plan is valid
pub goal_plan_valid : (t : Task) (p : List ℕ) (c : ℕ) → goal_cost t (exec t p) ≡ Some c → IsValidAt t p c
goal_plan_valid t p c costs = ends_at_goal t p (exec t p) c refl costs

-- where the goal holds and does not depart, the goal cost is the node's
goal_costs : (t : Task) (r : Node) → IsTrue (holds r.state t.goal) → goal_departs t r ≡ false → goal_cost t (Some r) ≡ Some r.cost
goal_costs t r holding staying =
    cond-true (holds r.state t.goal && not (goal_departs t r)) (Some r.cost) None
    (and_from (holds r.state t.goal) (not (goal_departs t r)) holding (not_from_false (goal_departs t r) staying))

-- ---- every way to the goal costs at least the bound

-- steps that lead from a node to one where the goal holds
record IsWay (t : Task) (from : Node) (p : List ℕ) (to : Node) : Type 0 where
  executes : exec_from t (Some from) p ≡ Some to
  meets_goal : IsTrue (holds to.state t.goal)

-- a way begins with a step, and the others are a way on from there
record IsFirstStep (t : Task) (from : Node) (n : ℕ) (p : List ℕ) (to : Node) : Type 0 where
  next : Node
  steps : step_by t from n ≡ Some next
  way : IsWay t next p to

first_step : (t : Task) (from : Node) (n : ℕ) (p : List ℕ) (to : Node) → IsWay t from (n ∷ p) to → IsFirstStep t from n p to
first_step t from n p to way =
    elim (step_by t from n) as (λ o. step_by t from n ≡ o → exec_from t o p ≡ Some to → IsFirstStep t from n p to) [
      | None ↦ λ _ ends. absurd (none-some to (sym (exec_from-none t p) ∙ ends))
      | Some next ↦ λ is ends. record { next = next; steps = is; way = record { executes = ends; meets_goal = way.meets_goal } }
    ] refl way.executes

module _ (t : Task) (h : Estimate) (fair : IsAdmissible t h) (expanded : List (List ℕ)) (none_departs : departures_of t expanded ≡ []) (covers : IsCovered t h expanded) where
  -- the bound is no greater than what a way of these steps costs, from each plan of some kind on
  abbrev Pays : (List ℕ → Type 0) → List ℕ → Type 0
  Pays among p = (q : List ℕ) (from to : Node) → among q → exec t q ≡ Some from → IsWay t from p to → AtMost (bound_of t expanded) (Some to.cost)

  none_at : (q : List ℕ) (r : Node) → Contains expanded q → exec t q ≡ Some r → departing_at t (Some r) ≡ []
  none_at q r among is = ap (departing_at t) (sym is) ∙ none_recorded t expanded 0 none_departs q among

  -- no steps are left: the plan is one of the list at which the goal holds
  no_steps : Pays (Contains expanded) []
  no_steps q from to among is way =
      let there : exec t q ≡ Some to = is ∙ way.executes in
      let costs : goal_cost t (exec t q) ≡ Some to.cost = ap (goal_cost t) there ∙ goal_costs t to way.meets_goal (goal_stays t to (none_at q to among there)) in
      subst (AtMost (bound_of t expanded)) costs (bound_at_most t expanded q among)

  -- a step from a plan of the list leads to a generated plan
  is_generated : (q : List ℕ) (from : Node) (n : ℕ) (next : Node) → Contains expanded q → exec t q ≡ Some from → step_by t from n ≡ Some next → Contains (generated t expanded) (followed_by q n)
  unfolding applicable_at
  is_generated q from n next among is steps =
      let within = step_within t from n next steps in
      let stays : action_departs t from n ≡ false = action_stays t from (none_at q from among is) n within in
      let applicable : is_applicable t (Some from) n ≡ true =
      and_from (is_some (step_by t from n)) (not (action_departs t from n)) (ap is_some steps) (not_from_false (action_departs t from n) stays)
      in
      let listed : Contains (applicable_at t (exec t q)) n =
      Contains-filter (is_applicable t (exec t q)) (numbers_below (length t.actions)) n (Contains-range_with_len (length t.actions) n within)
      (ap (λ o. is_applicable t o n) is ∙ applicable)
      in
      Contains-later [] (flat_map (children t) expanded) (followed_by q n)
      (Contains-flat_map (children t) expanded q (followed_by q n) among (Contains-map (followed_by q) (applicable_at t (exec t q)) n listed))

  one_step : (n : ℕ) (p : List ℕ) → Pays (Contains (generated t expanded)) p → Pays (Contains expanded) (n ∷ p)
  one_step n p later q from to among is way =
      let first = first_step t from n p to way in
      later (followed_by q n) first.next to (is_generated q from n first.next among is first.steps) (exec-push t q from n is ∙ first.steps) first.way

  -- a plan of the list has the state at no greater cost, and the same steps lead on from there
  dominated : (p : List ℕ) → Pays (Contains expanded) p → (from to : Node) → IsWay t from p to → IsDominated t expanded from → AtMost (bound_of t expanded) (Some to.cost)
  dominated p pays from to way by =
      let ends = exec_from-cheaper t p from by.end to by.same_state by.no_dearer way.executes in
      let other : IsWay t by.end p ends.end = record { executes = ends.is; meets_goal = ap (λ (s : State). holds s t.goal) ends.same ∙ way.meets_goal } in
      no_dearer ends.end.cost to.cost ends.cost (pays by.plan by.end ends.end by.among by.executes other) where
        no_dearer : (c d : ℕ) → c ≤ d → AtMost (bound_of t expanded) (Some c) → AtMost (bound_of t expanded) (Some d)
        no_dearer c d le least =
            elim (bound_of t expanded) as (λ o. AtMost o (Some c) → AtMost o (Some d)) [
              | None ↦ λ never. never
              | Some b ↦ λ below. omega (arith, le, below)
            ] least

  -- the estimate knows that there is no way, or it and the cost reach the bound
  bounded : (p q : List ℕ) (from to : Node) → exec t q ≡ Some from → IsWay t from p to → IsBounded (bound_of t expanded) from.cost (h from.state) → AtMost (bound_of t expanded) (Some to.cost)
  bounded p q from to is way why =
      let least = fair from p to (exec-state t q from is) way.executes way.meets_goal in
      by_estimate least.0 least.1 least.2 why where
        by_estimate : (v : ℕ) → h from.state ≡ Some v → from.cost + v ≤ to.cost → IsBounded (bound_of t expanded) from.cost (h from.state) → AtMost (bound_of t expanded) (Some to.cost)
        by_estimate v estimated least (Dead dead) = absurd (none-some v (sym dead ∙ estimated))
        by_estimate v estimated least (Reaches b w bound estimated' reached) =
            let same : w ≡ v = same_Some w v (sym estimated' ∙ estimated) in
            subst (λ o. AtMost o (Some to.cost)) (sym bound) (omega (arith, same, reached, least))

  justified : (p : List ℕ) → Pays (Contains expanded) p → (q : List ℕ) (from to : Node) → exec t q ≡ Some from → IsWay t from p to → IsJustified t h expanded q → AtMost (bound_of t expanded) (Some to.cost)
  justified p pays q from to is way just =
      let same : just.end ≡ from = same_Some just.end from (sym just.executes ∙ is) in
      let way' : IsWay t just.end p to = subst (λ (r : Node). IsWay t r p to) (sym same) way in
      elim just.why [
        | inl by ↦ dominated p pays just.end to way' by
        | inr why ↦ bounded p q just.end to just.executes way' why
      ]

  -- a generated plan is in the list, or it is justified
  covered : (p : List ℕ) → Pays (Contains expanded) p → Pays (Contains (generated t expanded)) p
  covered p pays q from to among is way =
      elim (covers q among) [
        | inl expanded_too ↦ pays q from to expanded_too is way
        | inr just ↦ justified p pays q from to is way just
      ]

  all_pay : (p : List ℕ) → Pays (Contains (generated t expanded)) p
  all_pay [] = covered [] no_steps
  all_pay (n ∷ p) = covered (n ∷ p) (one_step n p (all_pay p))

  -- so each valid plan costs at least the bound
  valid_pays : (p : List ℕ) (cost : ℕ) → IsValidAt t p cost → AtMost (bound_of t expanded) (Some cost)
  valid_pays p cost v =
      subst (λ c. AtMost (bound_of t expanded) (Some c)) v.costs
      (all_pay p [] (start t) v.end (Contains-first [] (flat_map (children t) expanded)) refl (record { executes = v.executes; meets_goal = v.meets_goal }))

  -- each plan at which the goal holds at the bound's cost is optimal
  pub each_optimal : (c : ℕ) → bound_of t expanded ≡ Some c → (p : List ℕ) → goal_cost t (exec t p) ≡ Some c → IsOptimal t p
  each_optimal c is p costs = record {
    cost = c;
    valid = goal_plan_valid t p c costs;
    least = λ q d v. subst (λ o. AtMost o (Some d)) is (valid_pays q d v);
  }

  -- the bound is the cost of an optimal plan of the list
  pub optimal : (c : ℕ) → bound_of t expanded ≡ Some c → (p : List ℕ) × Contains expanded p × IsValidAt t p c × ((q : List ℕ) (d : ℕ) → IsValidAt t q d → c ≤ d)
  unfolding each_optimal
  optimal c is =
      let best = bound_reached t expanded c is in
      let found = each_optimal c is best.0 best.2 in
      (best.0, best.1, found.valid, found.least)

  -- without a bound no plan is valid
  pub no_plan : bound_of t expanded ≡ None → HasNoPlan t
  no_plan none q d v = subst (λ o. AtMost o (Some d)) none (valid_pays q d v)
