use Rattle.hd_check.proofs.Apart.{exclusive}
use Rattle.hd_check.proofs.laws.faults_leave_no_task.Goals as goal

pub returns : goal.returns
returns c d p clean e stands = exclusive d p e stands clean
