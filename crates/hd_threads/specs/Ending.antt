-- What a search by threads ends with. (HDA*, Kishimoto, Fukunaga and Botea 2013, for the end of the
-- search; the limit is our own.)
use Rattle.std.specs.Prelude.{◌≡◌, ℕ, ◌≤◌, nat_le, Bool, false, List, length, Option, Some, None, option_map, option_and_then}
use Rattle.hd_task.specs.declared.task.Task.{Task}
use Rattle.hd_task.specs.declared.plan.Kid.{Kid}
use Rattle.hd_task.specs.Entries.{plans_of}
use Rattle.hd_task.specs.Plans.{Node, exec}
use Rattle.hd_task.specs.Expansions.{IsLegal}
use Rattle.hd_entries.specs.declared.verdict.Verdict.{Verdict}
use Rattle.hd_entries.specs.declared.verdict.Verdict.TheVariants as verdicts
use Rattle.hd_entries.specs.Answers.{IsBoundPlanOf, IsValidPlan, IsTrueAnswer}
use Rattle.hd_book.specs.declared.counts.Counts.{Counts}
use Rattle.hd_threads.specs.Answer.{IsJournalAnswer, IsFinalCount}
use Rattle.hd_threads.specs.declared.ending.Outcome.{Outcome}
use Rattle.hd_threads.specs.declared.ending.Outcome.TheVariants.{Optimal, NoPlan, RangeLeft, Stopped}

-- a limit is given, and so many entries reach it
abbrev pub is_reached : Option ℕ → ℕ → Bool
is_reached None count = false
is_reached (Some most) count = nat_le most count

-- what is reported of a verdict
abbrev pub outcome_of : Verdict → Outcome
outcome_of (verdicts.Optimal p) = Optimal p
outcome_of verdicts.NoPlan = NoPlan
outcome_of (verdicts.RangeLeft d p) = RangeLeft d p

-- the plan of an answer, if it has one
abbrev pub plan_in : Outcome → Option (List ℕ)
plan_in (Optimal p) = Some p
plan_in NoPlan = None
plan_in (RangeLeft d p) = p
plan_in (Stopped p) = p

-- what a plan costs, if there is one and all its steps can be taken
abbrev pub cost_by : Task → Option (List ℕ) → Option ℕ
cost_by t p = option_map (λ (r : Node). r.cost) (option_and_then (exec t) p)

-- a search stopped at its limit with a journal's entries: they are as many at least, they name a
-- legal list, and this is the plan of its bound, if there is a bound
pub record StopsAtLimit (t : Task) (limit : Option ℕ) (kids : List Kid) (p : Option (List ℕ)) : Type 0 where
  pub most : ℕ
  pub given : limit ≡ Some most
  pub reached : most ≤ length kids
  pub expanded : List (List ℕ)
  pub named : plans_of kids ≡ Some expanded
  pub legal : IsLegal t expanded
  pub plan : IsBoundPlanOf t expanded p

-- what a search with a limit answers over a journal: the answer of the journal's entries, or that
-- it stopped
abbrev pub IsSearchOutcome : Task → Option ℕ → List Kid → Outcome → Type 0
IsSearchOutcome t limit kids (Optimal p) = IsJournalAnswer t kids (verdicts.Optimal p)
IsSearchOutcome t limit kids NoPlan = IsJournalAnswer t kids verdicts.NoPlan
IsSearchOutcome t limit kids (RangeLeft d p) = IsJournalAnswer t kids (verdicts.RangeLeft d p)
IsSearchOutcome t limit kids (Stopped p) = StopsAtLimit t limit kids p

-- what it says is true of all plans of the task; a plan beside a departure, or of a search that
-- stopped, is valid
abbrev pub IsTrueOutcome : Task → Outcome → Type 0
IsTrueOutcome t (Optimal p) = IsTrueAnswer t (verdicts.Optimal p)
IsTrueOutcome t NoPlan = IsTrueAnswer t verdicts.NoPlan
IsTrueOutcome t (RangeLeft d p) = IsTrueAnswer t (verdicts.RangeLeft d p)
IsTrueOutcome t (Stopped p) = IsValidPlan t p

-- counts are those of the end of a search with these entries: all of them are acknowledged; and
-- each successor that was posted is settled, but where it stopped
abbrev pub IsCountedBy : List Kid → Outcome → Counts → Type 0
IsCountedBy kids (Optimal p) c = IsFinalCount kids c
IsCountedBy kids NoPlan c = IsFinalCount kids c
IsCountedBy kids (RangeLeft d p) c = IsFinalCount kids c
IsCountedBy kids (Stopped p) c = (c.entries ≡ length kids) × (c.acknowledged ≡ length kids)
