-- The task of texts without a fault is one that a check asks for.
use Rattle.std.proofs.Common.{◌≡◌, sym, subst}
use Rattle.hd_pddl.specs.declared.tree.DomainAst.{DomainAst}
use Rattle.hd_pddl.specs.declared.tree.ProblemAst.{ProblemAst}
use Rattle.hd_lifted.specs.declared.task.LiftedTask.{LiftedTask}
use Rattle.hd_lifted.specs.Checked.{HasCostMetric, IsChecked}
use Rattle.hd_check.specs.Whole.{AreFaultlessTexts, lifted_task}
use Rattle.hd_check.proofs.Apart.{distinct_names}
use Rattle.hd_check.proofs.NoCosts.{costs_nothing}
use Rattle.hd_check.proofs.Faultless.{well_formed}
use Rattle.hd_check.proofs.FirstValues.{different_fluents}
use Rattle.hd_check.proofs.MetricUse.{cost_function}

pub cost_metric : (d : DomainAst) (p : ProblemAst) → AreFaultlessTexts d p → HasCostMetric (lifted_task d p)
cost_metric d p clean f is = cost_function d p f clean is

pub checked_texts : (t : LiftedTask) (d : DomainAst) (p : ProblemAst) → AreFaultlessTexts d p → t ≡ lifted_task d p → IsChecked t
checked_texts t d p clean same = subst IsChecked (sym same) (record {
  well_formed = well_formed d p clean;
  names = distinct_names d p clean;
  values = different_fluents d p clean;
  metric = cost_metric d p clean;
  no_metric = costs_nothing d p;
})
