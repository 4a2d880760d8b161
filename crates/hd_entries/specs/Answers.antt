-- What a book answers when all is settled. (HDA*, Kishimoto, Fukunaga and Botea 2013, for the end
-- of the search; departures are our own.)
use Rattle.std.specs.Prelude.{◌≡◌, ◌≢◌, ℕ, ◌<◌, Bool, ◌==◌, List, [], length, slice_get, slice_index_or, Option, Some, None}
use Rattle.hd_task.specs.declared.task.Task.{Task}
use Rattle.hd_task.specs.Plans.{exec, IsValidAt}
use Rattle.hd_task.specs.Expansions.{goal_cost, bound_of, departures_of}
use Rattle.hd_task.specs.Covers.{IsCovered}
use Rattle.hd_hmax.specs.Rounds.{hmax}
use Rattle.hd_task.specs.Verdicts as said
use Rattle.hd_entries.specs.declared.verdict.Verdict.{Verdict}
use Rattle.hd_entries.specs.declared.verdict.Verdict.TheVariants.{Optimal, NoPlan, RangeLeft}
use Rattle.hd_entries.specs.Settling.{BookState, expansions}
use Rattle.hd_entries.specs.Holding.{posted_count, settled_count}

-- the plan of the bound: that of the least-numbered entry at which the goal holds, and does not
-- depart, at the bound's cost
pub record IsBoundPlan (t : Task) (expanded : List (List ℕ)) (p : List ℕ) : Type 0 where
  pub cost : ℕ
  pub bound : bound_of t expanded ≡ Some cost
  pub number : ℕ
  pub among : number < length expanded
  pub plan : slice_index_or expanded number [] ≡ p
  pub meets : goal_cost t (exec t p) ≡ Some cost
  pub first : (n : ℕ) → n < number → goal_cost t (exec t (slice_index_or expanded n [])) ≢ Some cost

-- the plan of the bound, exactly if there is a bound
abbrev pub IsBoundPlanOf : Task → List (List ℕ) → Option (List ℕ) → Type 0
IsBoundPlanOf t expanded None = bound_of t expanded ≡ None
IsBoundPlanOf t expanded (Some p) = IsBoundPlan t expanded p

-- the answer of a list of expansions: the first departure, if there is one, with the plan of the
-- bound; else that plan, or that there is none
abbrev pub IsAnswer : Task → List (List ℕ) → Verdict → Type 0
IsAnswer t expanded (Optimal p) = (departures_of t expanded ≡ []) × IsBoundPlan t expanded p
IsAnswer t expanded NoPlan = (departures_of t expanded ≡ []) × (bound_of t expanded ≡ None)
IsAnswer t expanded (RangeLeft d p) = (slice_get (departures_of t expanded) 0 ≡ Some d) × IsBoundPlanOf t expanded p

-- the same of what a book holds
abbrev pub IsAnswerOf : BookState → Verdict → Type 0
IsAnswerOf b answer = IsAnswer b.task (expansions b) answer

-- a search is over where each posted successor is settled
abbrev pub is_over : BookState → Bool
is_over b = settled_count b == posted_count b

-- each plan that the entries of a book generate is expanded, or need not be
abbrev pub IsCoveredBook : BookState → Type 0
IsCoveredBook b = IsCovered b.task (hmax b.task) (expansions b)

-- a plan is valid, if there is one
abbrev pub IsValidPlan : Task → Option (List ℕ) → Type 0
IsValidPlan t None = Unit {0}
IsValidPlan t (Some p) = (cost : ℕ) × IsValidAt t p cost

-- what an answer says is true of all plans of the task, and the plan beside a departure is valid
abbrev pub IsTrueAnswer : Task → Verdict → Type 0
IsTrueAnswer t (Optimal p) = said.IsTrueVerdict t (said.Optimal p)
IsTrueAnswer t NoPlan = said.IsTrueVerdict t said.NoPlan
IsTrueAnswer t (RangeLeft d p) = IsValidPlan t p
