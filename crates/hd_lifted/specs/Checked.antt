-- What a check of a task asks: that it is well formed, that names and first values are told apart,
-- and that the metric is a cost.
use Rattle.std.specs.Prelude.{◌≡◌, ℕ, None, Some}
use Rattle.std.specs.List.{AllByRecursion}
use Rattle.hd_lifted.specs.declared.task.LiftedTask.{LiftedTask}
use Rattle.hd_lifted.specs.MetricUse.{HasNoCost, IsCostFunction}
use Rattle.hd_lifted.specs.WellFormed.{IsWellFormed, HasDistinctNames, AreOfDifferentFluents}

-- the metric, if there is one, is a function that is used as a cost alone
abbrev pub HasCostMetric : LiftedTask → Type 0
HasCostMetric t = (f : ℕ) → t.metric ≡ Some f → IsCostFunction t f

-- without a metric no effect is a cost
abbrev pub HasCostsByMetric : LiftedTask → Type 0
HasCostsByMetric t = t.metric ≡ None → AllByRecursion HasNoCost t.schemas

-- the task is well formed, no two of its names and no two first values are of one thing, and its
-- metric is a cost
pub record IsChecked (t : LiftedTask) : Type 0 where
  pub well_formed : IsWellFormed t
  pub names : HasDistinctNames t
  pub values : AreOfDifferentFluents t.values
  pub metric : HasCostMetric t
  pub no_metric : HasCostsByMetric t
