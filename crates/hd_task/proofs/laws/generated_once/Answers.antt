use Rattle.hd_task.proofs.Growing.{generated_once}
use Rattle.hd_task.proofs.laws.generated_once.Goals as goal

pub returns : goal.returns
returns c = generated_once
