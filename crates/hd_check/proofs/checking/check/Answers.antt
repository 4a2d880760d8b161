use Rattle.hd_check.proofs.CheckedTasks.{checked_texts}
use Rattle.hd_check.proofs.checking.check.Goals as goal

-- a task without a fault is one that a check asks for
pub new-requires : goal.new-requires
new-requires c = checked_texts c.in-Ok.task c.args.domain c.args.problem c.in-Ok.ensures.0 c.in-Ok.ensures.1
