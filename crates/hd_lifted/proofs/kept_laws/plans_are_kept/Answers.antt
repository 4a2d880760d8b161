use Rattle.hd_lifted.proofs.Sound.{exec-kept}
use Rattle.hd_lifted.proofs.kept_laws.plans_are_kept.Goals as goal

pub returns : goal.returns
returns c = exec-kept
