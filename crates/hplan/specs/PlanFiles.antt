-- What the plans that are written say as plan files. (Our own.)
use Rattle.std.specs.Prelude.{◌≡◌, ℕ, List, pos}
use Rattle.std.specs.List.{AllZip}
use Rattle.hd_lifted.specs.declared.instance.Instance.{Instance}
use Rattle.hd_lifted.specs.declared.task.LiftedTask.{LiftedTask}
use Rattle.hd_lifted.specs.Plans as plans
use Rattle.hd_plan.specs.declared.step.Step.{Step}
use Rattle.hd_plan.specs.PlanText.{plan_text}
use Rattle.hd_plan.specs.Text.{ReadsAs}
use Rattle.hd_plan.specs.Naming.{IsStep}
use Rattle.hd_texts.specs.Tasks.{IsLiftedOf}
use Rattle.hplan.specs.Verdict.{AreValid}

-- a text is that of a plan at a cost, and as a plan file it is valid at this cost in the task of
-- two texts, as `validate` judges it
pub record IsValidatedFile (domain problem : List ℕ) (text : List ℕ) : Type 0 where
  pub steps : List Step
  pub cost : ℕ
  pub is : text ≡ plan_text steps cost
  pub valid : AreValid domain problem text cost

-- a text is that of steps at a cost; read as a plan file it says the same steps, and they name
-- these instances
pub record IsFileOf (l : LiftedTask) (plan : List Instance) (cost : ℕ) (text : List ℕ) : Type 0 where
  pub steps : List Step
  pub is : text ≡ plan_text steps cost
  pub reads : ReadsAs text steps
  pub are_steps : AllZip (IsStep l) steps plan

-- a text is a file of a plan that is valid in the domain and problem of two texts, at the cost
-- that it reports
pub record IsFileOfValid (domain problem : List ℕ) (text : List ℕ) : Type 0 where
  pub lifted : LiftedTask
  pub is_lifted : IsLiftedOf domain problem lifted
  pub plan : List Instance
  pub cost : ℕ
  pub file : IsFileOf lifted plan cost text
  pub valid : plans.IsValidAt lifted plan (pos cost)

-- the same, and no valid plan costs less
pub record IsFileOfOptimal (domain problem : List ℕ) (text : List ℕ) : Type 0 where
  pub written : IsFileOfValid domain problem text
  pub optimal : plans.IsOptimal written.lifted written.plan
