-- What a best-first search expands (HDA*, Kishimoto, Fukunaga and Botea 2013): a list of plans, in
-- the order of their expansion.
use Rattle.std.specs.Prelude.{ℕ, ◌+◌, ◌<◌, Bool, false, not, ◌&&◌, if◌then◌else◌, List, [], ◌∷◌, ◌++◌, Option, Some, None, is_some, length, take, map, filter, Contains, flat_map, slice_index_or, min}
use Rattle.hd_task.specs.declared.task.Task.{Task}
use Rattle.hd_task.specs.declared.departure.DepartsBy.{DepartsBy}
use Rattle.hd_task.specs.declared.departure.DepartsBy.TheVariants.{Goal, Action}
use Rattle.hd_task.specs.declared.departure.Departure.{Departure}
use Rattle.hd_task.specs.Conditions.{holds}
use Rattle.hd_task.specs.Effects.{numbers_below}
use Rattle.hd_task.specs.Plans.{Node, step_by, exec}
use Rattle.hd_task.specs.Departures.{goal_departs, action_departs}

-- ---- what a list of expansions generates

-- an action is applicable where its step is defined and does not depart
abbrev pub is_applicable : Task → Option Node → ℕ → Bool
is_applicable t None n = false
is_applicable t (Some r) n = is_some (step_by t r n) && not (action_departs t r n)

-- the actions that are applicable at a node, in order
unfoldable pub applicable_at : Task → Option Node → List ℕ
applicable_at t r = filter (is_applicable t r) (numbers_below (length t.actions))

-- a plan and one more action
abbrev pub followed_by : List ℕ → ℕ → List ℕ
followed_by p n = p ++ n ∷ []

-- the plans that an expansion generates
abbrev pub children : Task → List ℕ → List (List ℕ)
children t p = map (followed_by p) (applicable_at t (exec t p))

-- what is generated: the empty plan, and each expanded plan followed by each action that is
-- applicable there; in the order of the expansions, then of the actions
abbrev pub generated : Task → List (List ℕ) → List (List ℕ)
generated t expanded = [] ∷ flat_map (children t) expanded

-- ---- legal lists

-- a plan that may be expanded next: it is generated, and not expanded yet
pub record IsNext (t : Task) (expanded : List (List ℕ)) (p : List ℕ) : Type 0 where
  pub generated_before : Contains (generated t expanded) p
  pub is_new : Contains expanded p → ⊥

-- a legal list of expansions: each plan may be expanded next, after those before it. So the first
-- is the empty plan, each other is an earlier one followed by an applicable action, and none stands
-- twice
abbrev pub IsLegal : Task → List (List ℕ) → Type 0
IsLegal t expanded =
    (n : ℕ) (d : List ℕ) → n < length expanded → IsNext t (take n expanded) (slice_index_or expanded n d)

-- ---- the bound

-- the lesser of two costs, if none is greater than any
abbrev pub lesser : Option ℕ → Option ℕ → Option ℕ
lesser None b = b
lesser (Some a) None = Some a
lesser (Some a) (Some b) = Some (min a b)

-- the cost at a node where the goal holds and does not depart
abbrev pub goal_cost : Task → Option Node → Option ℕ
goal_cost t None = None
goal_cost t (Some r) = if holds r.state t.goal && not (goal_departs t r) then Some r.cost else None

-- the bound: the least cost of an expanded plan at which the goal holds and does not depart
abbrev pub bound_of : Task → List (List ℕ) → Option ℕ
bound_of t [] = None
bound_of t (p ∷ expanded) = lesser (goal_cost t (exec t p)) (bound_of t expanded)

-- ---- departures

-- what departs at a node: the goal first, then the actions in order
unfoldable pub departing_at : Task → Option Node → List DepartsBy
departing_at t None = []
departing_at t (Some r) =
    (if goal_departs t r then Goal ∷ [] else []) ++ map Action (filter (action_departs t r) (numbers_below (length t.actions)))

-- a departure of an entry
abbrev pub departure_at : ℕ → DepartsBy → Departure
departure_at n by = record { entry = n; by = by }

-- the departures of entries that are numbered from n on
abbrev pub departures_from : Task → ℕ → List (List ℕ) → List Departure
departures_from t n [] = []
departures_from t n (p ∷ expanded) = map (departure_at n) (departing_at t (exec t p)) ++ departures_from t (n + 1) expanded

-- the recorded departures: of the least entry first, there of the goal before the actions, then of
-- the least action
abbrev pub departures_of : Task → List (List ℕ) → List Departure
departures_of t expanded = departures_from t 0 expanded
