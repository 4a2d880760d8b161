use Rattle.hd_task.proofs.Optimal.{goal_plan_valid}
use Rattle.hd_task.proofs.laws.goal_plans_are_valid.Goals as goal

pub returns : goal.returns
returns c = goal_plan_valid
