use Rattle.hd_hmax.proofs.Admissible.{hmax_admissible}
use Rattle.hd_hmax.proofs.laws.hmax_is_admissible.Goals as goal

pub returns : goal.returns
returns c = hmax_admissible
