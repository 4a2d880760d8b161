use Rattle.hd_plan.proofs.Apart.{one_step}
use Rattle.hd_plan.proofs.laws.steps_are_told_apart.Goals as goal

pub returns : goal.returns
returns c = one_step
