-- Where a list of expansions has no departures, nothing departs at its plans; and what departs at a
-- plan departs in the domain.
use Rattle.std.proofs.Common.{◌≡◌, ℕ, ◌+◌, Bool, true, false, List, [], ◌∷◌, ◌++◌, map, filter, length, Contains, Some, None, slice_get, inl, inr, refl, sym, ap, ◌∙◌}
use Rattle.std.specs.Prelude.{cond}
use Rattle.std.proofs.lemmas.Option.{slice_get_within}
use Rattle.hd_base.proofs.Lists.{nil_from_append, nil_from_map}
use Rattle.hd_base.proofs.Members.{Contains-nil, Contains-cons_cases, Contains-range_with_len, fails-from_filter}
use Rattle.hd_lifted.specs.declared.task.LiftedTask.{LiftedTask}
use Rattle.hd_lifted.specs.Plans as domain
use Rattle.hd_lifted.specs.Steps.{Reached}
use Rattle.hd_task.specs.declared.action.Action.{Action}
use Rattle.hd_task.specs.declared.departure.DepartsBy.{DepartsBy}
use Rattle.hd_task.specs.declared.departure.DepartsBy.TheVariants as by
use Rattle.hd_task.specs.declared.task.Task.{Task}
use Rattle.hd_task.specs.Departures.{goal_departs, departs_by, action_departs}
use Rattle.hd_task.specs.Effects.{numbers_below}
use Rattle.hd_task.specs.Expansions.{departing_at, departure_at, departures_from, departures_of}
use Rattle.hd_task.specs.Plans.{Node, exec}
use Rattle.hd_grounding.specs.Grounding.{IsGrounding}
use Rattle.hd_grounding.specs.Departures.{NoActionDeparts, NoInstanceDeparts, InstanceDepartsAt, GoalDepartsAt}
use Rattle.hd_grounding.specs.Instances.{instance_of, instances_of}
use Rattle.hd_grounding.proofs.Departing.{actions_depart, goals_depart}
use Rattle.hd_grounding.proofs.Others.{none_both}
use Rattle.hd_grounding.proofs.Runs.{run_there}

-- ---- of a list of expansions

none_at : (u : Task) (expanded : List (List ℕ)) (n : ℕ) (p : List ℕ) → departures_from u n expanded ≡ [] → Contains expanded p → departing_at u (exec u p) ≡ []
none_at u [] n p e among = absurd (Contains-nil p among)
none_at u (q ∷ expanded) n p e among =
    let both = nil_from_append (map (departure_at n) (departing_at u (exec u q))) (departures_from u (n + 1) expanded) e in
    elim (Contains-cons_cases q expanded p among) [
      | inl same ↦ ap (λ p. departing_at u (exec u p)) (sym same) ∙ nil_from_map (departure_at n) (departing_at u (exec u q)) both.0
      | inr rest ↦ none_at u expanded (n + 1) p both.1 rest
    ]

goal_none : (b : Bool) (rest : List DepartsBy) → cond b (by.Goal ∷ []) [] ++ rest ≡ [] → (b ≡ false) × (rest ≡ [])
goal_none false rest e = (refl, e)
goal_none true rest e = absurd (cc)

none_departs : (u : Task) (m : Node) → departing_at u (Some m) ≡ [] → NoActionDeparts u m
unfolding departing_at action_departs
none_departs u m e =
    let departing = filter (action_departs u m) (numbers_below (length u.actions)) in
    let parts = goal_none (goal_departs u m) (map by.Action departing) e in
    record {
      actions = λ n.
          elim (slice_get u.actions n) as (λ o. slice_get u.actions n ≡ o → action_departs u m n ≡ false) [
            | None ↦ λ at. ap (departs_by u m) at
            | Some b ↦ λ at.
                fails-from_filter (action_departs u m) (numbers_below (length u.actions)) n (nil_from_map by.Action departing parts.1)
                (Contains-range_with_len (length u.actions) n (slice_get_within u.actions n b at))
          ] refl;
      goal = parts.0;
    }

pub nothing_recorded : (u : Task) (expanded : List (List ℕ)) (p : List ℕ) (m : Node)
    → departures_of u expanded ≡ [] → Contains expanded p → exec u p ≡ Some m → NoActionDeparts u m
nothing_recorded u expanded p m none among there =
    none_departs u m (ap (departing_at u) (sym there) ∙ none_at u expanded 0 p none among)

-- ---- in the domain

module _ (t : LiftedTask) (u : Task) (made : IsGrounding t u) where
  pub nothing_departs_there : (expanded : List (List ℕ)) (p : List ℕ) (m : Node) (r : Reached)
      → departures_of u expanded ≡ [] → Contains expanded p → exec u p ≡ Some m → domain.exec t (instances_of u p) ≡ Some r
      → NoInstanceDeparts t r
  nothing_departs_there expanded p m r none among there here =
      (none_both t u made p m r there here).0 (nothing_recorded u expanded p m none among there)

  pub instance_leaves : (p : List ℕ) (m : Node) (k : ℕ) (b : Action) → exec u p ≡ Some m → slice_get u.actions k ≡ Some b
      → action_departs u m k ≡ true → InstanceDepartsAt t (instances_of u p) (instance_of b)
  instance_leaves p m k b there at departs =
      let to = run_there t u made p m there in
      record { end = to.end; executes = to.executes; departs = sym (actions_depart t u made p m to.end k b there to.executes at) ∙ departs }

  pub goal_leaves : (p : List ℕ) (m : Node) → exec u p ≡ Some m → goal_departs u m ≡ true → GoalDepartsAt t (instances_of u p)
  goal_leaves p m there departs =
      let to = run_there t u made p m there in
      record { end = to.end; executes = to.executes; departs = sym (goals_depart t u made p m to.end there to.executes) ∙ departs }
