use Rattle.hd_lifted.proofs.Sound.{holding-kept}
use Rattle.hd_lifted.proofs.kept_laws.instances_that_hold_are_kept.Goals as goal

pub returns : goal.returns
returns c = holding-kept
