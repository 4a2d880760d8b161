use Rattle.hd_check.proofs.CheckedTasks.{checked_texts}
use Rattle.hd_check.proofs.laws.checks_give_well_formed_tasks.Goals as goal

pub returns : goal.returns
returns c t o = checked_texts t o.domain o.problem o.faultless o.stands
