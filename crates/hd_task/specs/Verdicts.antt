-- True verdicts: what a planner may say of a task, in exact integers, whatever it searched.
-- (Validity is that of PDDL 2.1.)
use Rattle.std.specs.Prelude.{◌≡◌, ℕ, ◌≤◌, List, []}
use Rattle.hd_task.specs.declared.task.Task.{Task}
use Rattle.hd_task.specs.Plans.{IsValidAt}
use Rattle.hd_task.specs.Expansions.{departures_of}
use Rattle.hd_task.specs.Covers.{Estimate, IsAdmissible, IsCovered}

-- a search is finished where its estimate is admissible, its list of expansions is covered and
-- nothing in it departs
pub record IsFinished (t : Task) (h : Estimate) (expanded : List (List ℕ)) : Type 0 where
  pub admissible : IsAdmissible t h
  pub covered : IsCovered t h expanded
  pub in_range : departures_of t expanded ≡ []

-- a plan is optimal if it is valid and no valid plan costs less
pub record IsOptimal (t : Task) (p : List ℕ) : Type 0 where
  pub cost : ℕ
  pub valid : IsValidAt t p cost
  pub least : (q : List ℕ) (d : ℕ) → IsValidAt t q d → cost ≤ d

-- no plan is valid
abbrev pub HasNoPlan : Task → Type 0
HasNoPlan t = (q : List ℕ) (d : ℕ) → IsValidAt t q d → ⊥

-- what a planner may say
pub data Verdict : Type 0 where
  Optimal : (plan : List ℕ) → Verdict
  NoPlan : Verdict

-- a verdict is true if what it says holds of all plans
abbrev pub IsTrueVerdict : Task → Verdict → Type 0
IsTrueVerdict t (Optimal p) = IsOptimal t p
IsTrueVerdict t NoPlan = HasNoPlan t
