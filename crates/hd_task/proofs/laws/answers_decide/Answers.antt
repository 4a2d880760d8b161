use Rattle.std.proofs.Common.{◌∙◌}
use Rattle.hd_task.proofs.Deciding.{applicable-is, departs-is, leads-is, goal-is, goal_departs-is}
use Rattle.hd_task.proofs.Runs.{exec-push}
use Rattle.hd_task.proofs.laws.answers_decide.Goals as goal

pub returns : goal.returns
returns c = record {
  applicable = applicable-is;
  departs = departs-is;
  leads = λ t p r n s cost is e. exec-push t p r n is ∙ leads-is t r n s cost e;
  goal = goal-is;
  goal_departs = goal_departs-is;
}
