use Rattle.hd_grounding.proofs.Limits.{not_too_large}
use Rattle.hd_grounding.proofs.fitting_laws.groundings_of_few_are_not_too_large.Goals as goal

pub returns : goal.returns
returns c = λ t instances atoms fluents counted over. not_too_large t instances atoms fluents counted over
