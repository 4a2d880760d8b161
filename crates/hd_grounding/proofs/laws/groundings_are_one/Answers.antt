use Rattle.hd_grounding.proofs.Unique.{one_grounding}
use Rattle.hd_grounding.proofs.laws.groundings_are_one.Goals as goal

pub returns : goal.returns
returns c = one_grounding
