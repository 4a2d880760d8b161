use Rattle.hd_grounding.proofs.Fitting.{all_fit}
use Rattle.hd_grounding.proofs.fitting_laws.grounded_parts_fit_together.Goals as goal

pub returns : goal.returns
returns c = λ t instances atoms fluents actions checked counted faultless are. all_fit t instances atoms fluents actions checked counted faultless are
