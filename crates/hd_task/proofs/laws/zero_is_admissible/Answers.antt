use Rattle.hd_task.proofs.Optimal.{zero_admissible}
use Rattle.hd_task.proofs.laws.zero_is_admissible.Goals as goal

pub returns : goal.returns
returns c = zero_admissible
