-- Each open node has an outcome, where all that its worker holds is true.
use Rattle.std.proofs.Common.{◌≡◌, ℕ, ◌≤◌, ◌||◌, ◌&&◌, nat_le, Bool, true, false, Option, Some, None, List, [], ◌∷◌, slice_get, refl, sym, ap, ◌∙◌, subst, true≢false}
use Rattle.std.specs.List.{list_any}
use Rattle.std.specs.Prelude.{option_and_then}
use Rattle.std.proofs.lemmas.Bool.{and_parts, and_from, leb-true, le-leb}
use Rattle.std.proofs.lemmas.Option.{none-some}
use Rattle.hd_base.proofs.Lists.{AllByRecursion-slice_get}
use Rattle.hd_base.proofs.Members.{Contains-first, Contains-later}
use Rattle.hd_base.proofs.Tests.{list_any-from_contains}
use Rattle.hd_task.specs.declared.state.State.{State}
use Rattle.hd_task.specs.declared.task.Task.{Task}
use Rattle.hd_task.specs.Plans.{node, IsStateOf, exec}
use Rattle.hd_task.specs.Applying.{goal_of}
use Rattle.hd_task.specs.Entries.{plan_of}
use Rattle.hd_task.specs.Expansions.{departing_at}
use Rattle.hd_task.proofs.Runs.{exec-state}
use Rattle.hd_hmax.specs.declared.estimate.EstimateValue.TheVariants.{Cost, Dead}
use Rattle.hd_hmax.specs.Estimate.{EstimateView}
use Rattle.hd_hmax.specs.Rounds.{hmax}
use Rattle.hd_hmax.specs.Value.{estimated}
use Rattle.hd_node.specs.declared.batch.Outcome.TheVariants.{Expanded, Duplicate, Bounded}
use Rattle.hd_node.specs.declared.batch.Outcome.{Outcome}
use Rattle.hd_node.specs.Children.{children_at}
use Rattle.hd_node.specs.Expansion.{ExpansionView}
use Rattle.hd_entries.specs.Holding.{Released}
use Rattle.hd_entries.specs.Settling.{BookState, expansions, same_state}
use Rattle.hd_entries.proofs.Same.{same_state-true, same_state-refl}
use Rattle.hd_closed.specs.Closed.{Closed, IsClosedAt, IsDearer}
use Rattle.hd_turns.specs.Calls.{with_outcome, ExpandsTo}
use Rattle.hd_turns.specs.Settling.{is_beyond, IsOutcomeOf, Again, Beyond, Anew}
use Rattle.hd_turns.specs.Truth.{IsTrueParcel}
use Rattle.hd_turns.specs.Worker.{WorkerView}
use Rattle.hd_world.specs.declared.moves.Move.TheVariants as moves
use Rattle.hd_world.specs.Moves as turns
use Rattle.hd_world.specs.Moves.{with_seat, TurnsTo}
use Rattle.hd_world.specs.Seats.{Seat, Run}
use Rattle.hd_world.specs.Truth.{IsTrueSeat, IsTrueRun}

-- ---- what is closed

-- an expansion of this state is no dearer
abbrev serves : State → ℕ → Closed → Bool
serves s cost c = same_state c.state s && nat_le c.cost cost

serves_when : (s : State) (cost : ℕ) (c : Closed) → c.state ≡ s → c.cost ≤ cost → serves s cost c ≡ true
serves_when s cost c same le =
    and_from (same_state c.state s) (nat_le c.cost cost)
    (ap (λ (u : State). same_state u s) same ∙ same_state-refl s) (le-leb c.cost cost le)

-- one that passes, or none does
first_of : (s : State) (cost : ℕ) (closed : List Closed) → list_any (serves s cost) closed ≡ true → (c : Closed) × IsClosedAt closed s cost c
first_of s cost [] e = absurd (true≢false (sym e))
first_of s cost (c ∷ closed) e =
    elim (serves s cost c) as (λ y. serves s cost c ≡ y → (y || list_any (serves s cost) closed) ≡ true → (c' : Closed) × IsClosedAt (c ∷ closed) s cost c') [
      | true ↦ λ is _.
          let parts = and_parts (same_state c.state s) (nat_le c.cost cost) is in
          (c, record { among = Contains-first c closed; same_state = same_state-true c.state s parts.0; no_dearer = leb-true c.cost cost parts.1 })
      | false ↦ λ _ e.
          let rest = first_of s cost closed e in
          (rest.0, record { among = Contains-later c closed rest.0 rest.1.among; same_state = rest.1.same_state; no_dearer = rest.1.no_dearer })
    ] refl e

none_of : (s : State) (cost : ℕ) (closed : List Closed) → list_any (serves s cost) closed ≡ false → IsDearer closed s cost
none_of s cost closed e c is =
    true≢false (sym (list_any-from_contains (serves s cost) closed c is.among (serves_when s cost c is.same_state is.no_dearer)) ∙ e)

-- ---- an outcome

-- the value that the estimate has
pub record IsEstimated (t : Task) (s : State) : Type 0 where
  pub e : EstimateView
  pub task : e.task ≡ t
  pub state : e.state ≡ s
  pub value : estimated e.value ≡ hmax t s

estimate_by : (t : Task) (s : State) (h : Option ℕ) → hmax t s ≡ h → IsEstimated t s
estimate_by t s None is = record { e = record { task = t; state = s; value = Dead; estimates = sym is }; task = refl; state = refl; value = sym is }
estimate_by t s (Some c) is = record { e = record { task = t; state = s; value = Cost c; estimates = sym is }; task = refl; state = refl; value = sym is }

state_by : (t : Task) (s : State) (cost : ℕ) (plan : Option (List ℕ)) → option_and_then (exec t) plan ≡ Some (node s cost) → IsStateOf t s
state_by t s cost None e = absurd (none-some (node s cost) e)
state_by t s cost (Some p) e = exec-state t p (node s cost) e

module _ (b : BookState) (w : WorkerView) (p : Released) (x : IsTrueParcel b p) where
  abbrev t : Task
  t = b.task

  of_task : IsStateOf t p.state
  of_task = state_by t p.state p.cost (plan_of (expansions b) p.kid) x.leads

  abbrev HasOutcome : Type 0
  HasOutcome = (o : Outcome) × IsOutcomeOf t (hmax t) w.closed w.seen p o

  settled : IsDearer w.closed p.state p.cost → HasOutcome
  settled dearer =
      elim (is_beyond (hmax t) w.seen p) as (λ y. is_beyond (hmax t) w.seen p ≡ y → HasOutcome) [
        | true ↦ λ beyond.
            let h = estimate_by t p.state (hmax t p.state) refl in
            (Bounded p.kid h.e, Beyond h.e dearer beyond refl h.task h.state h.value)
        | false ↦ λ beyond.
            let e : ExpansionView = record {
              task = t;
              kid = p.kid;
              state = p.state;
              cost = p.cost;
              children = children_at t (node p.state p.cost);
              departures = departing_at t (Some (node p.state p.cost));
              goal = goal_of t p.state;
              of_task = of_task;
              all_children = refl;
              all_departures = refl;
              is_goal = refl;
            } in
            (Expanded e, Anew e dearer beyond refl refl refl refl refl)
      ] refl

  pub outcome : HasOutcome
  outcome =
      elim (list_any (serves p.state p.cost) w.closed) as (λ y. list_any (serves p.state p.cost) w.closed ≡ y → HasOutcome) [
        | true ↦ λ e. let c = first_of p.state p.cost w.closed e in (Duplicate p.kid c.0.by, Again c.0 c.1 refl)
        | false ↦ λ e. settled (none_of p.state p.cost w.closed e)
      ] refl

-- ---- in a run

module _ (t : Task) (r : Run) (x : IsTrueRun t r) where
  pub has_outcome : (k place : ℕ) (s : Seat) (p : Released) → slice_get r.seats k ≡ Some s → slice_get s.worker.waiting place ≡ Some p
      → (o : Outcome) × IsOutcomeOf t (hmax t) s.worker.closed s.worker.seen p o
  has_outcome k place s p at there =
      let b = r.book.state in
      let all = (AllByRecursion-slice_get (IsTrueSeat b) r.seats k s x.seats at).worker.waiting in
      let o = outcome b s.worker p (AllByRecursion-slice_get (IsTrueParcel b) s.worker.waiting place p all there) in
      (o.0, subst (λ (u : Task). IsOutcomeOf u (hmax u) s.worker.closed s.worker.seen p o.0) x.of_task o.1)

  expands_at : (k place : ℕ) (s : Seat) (waiting : Option Released) → slice_get r.seats k ≡ Some s → slice_get s.worker.waiting place ≡ waiting
      → (w : WorkerView) × ExpandsTo t (hmax t) place s.worker waiting w
  expands_at k place s None at there = (s.worker, refl)
  expands_at k place s (Some p) at there = let o = has_outcome k place s p at there in (with_outcome place o.0 s.worker, (o.0, o.1, refl))

  expands_by : (k place : ℕ) (os : Option Seat) → slice_get r.seats k ≡ os → (r' : Run) × turns.Expanded t k place r os r'
  expands_by k place None at = (r, refl)
  expands_by k place (Some s) at =
      let w = expands_at k place s (slice_get s.worker.waiting place) at refl in
      (with_seat k (record s { worker = w.0 }) r, (w.0, w.1, refl))

  pub expands : (k place : ℕ) → (r' : Run) × TurnsTo t r (moves.Expand k place) r'
  expands k place = expands_by k place (slice_get r.seats k) refl
