-- What entries show of their task by themselves. (That a journal is a certificate is our own; when
-- a search has looked at enough is said by HDA*, Kishimoto, Fukunaga and Botea 2013.)
use Rattle.std.specs.Prelude.{◌≡◌, ℕ, List, [], map, Option, Some, None}
use Rattle.hd_task.specs.declared.task.Task.{Task}
use Rattle.hd_task.specs.Entries.{plans_of}
use Rattle.hd_task.specs.Expansions.{IsLegal, bound_of, departures_of}
use Rattle.hd_task.specs.Covers.{IsCovered}
use Rattle.hd_task.specs.Verdicts as said
use Rattle.hd_hmax.specs.Rounds.{hmax}
use Rattle.hd_image.specs.declared.entry.Entry.{Entry}
use Rattle.hd_journal.specs.Journal.{kid_of}
use Rattle.hd_entries.specs.Answers.{IsBoundPlan}
use Rattle.hd_certify.specs.declared.certified.Certified.{Certified}
use Rattle.hd_certify.specs.declared.certified.Certified.TheVariants.{Optimal, NoPlan}

-- expansions decide their task: each plan that they generate is expanded or need not be, by h-max,
-- and nothing departs at any of them
pub record IsDecisive (t : Task) (expanded : List (List ℕ)) : Type 0 where
  pub covered : IsCovered t (hmax t) expanded
  pub in_range : departures_of t expanded ≡ []

-- what expansions show: where they decide the task, that the plan of their bound is optimal, or,
-- where they have no bound, that there is no plan; else nothing
abbrev pub IsShown : Task → List (List ℕ) → Option Certified → Type 0
IsShown t expanded None = IsDecisive t expanded → ⊥
IsShown t expanded (Some (Optimal p)) = IsDecisive t expanded × IsBoundPlan t expanded p
IsShown t expanded (Some NoPlan) = IsDecisive t expanded × (bound_of t expanded ≡ None)

-- entries show this of their task: they name a legal list, and that shows it
pub record IsCertificateOf (t : Task) (entries : List Entry) (c : Option Certified) : Type 0 where
  pub expanded : List (List ℕ)
  pub named : plans_of (map kid_of entries) ≡ Some expanded
  pub legal : IsLegal t expanded
  pub shown : IsShown t expanded c

-- what is shown is true of all plans of the task
abbrev pub IsTrueOf : Task → Certified → Type 0
IsTrueOf t (Optimal p) = said.IsTrueVerdict t (said.Optimal p)
IsTrueOf t NoPlan = said.IsTrueVerdict t said.NoPlan
